-- What is lent of a table, and the table when it is back. Assumes nothing.
use Rattle.std.proofs.Common.{◌≡◌, List, length, vec_items, vec_len, Result, Vec, sym, subst, subst₂}
use Rattle.std.specs.Vec.{with_items}
use Rattle.std.specs.declared.alloc.Global.{Global}
use Rattle.std.proofs.lemmas.List.{with_items_is}
use Rattle.bound.specs.Meaning.{Meaning}
use Rattle.faults.specs.declared.types.BoardFault.{BoardFault}
use Rattle.board.specs.declared.header.Header.{Header}
use Rattle.board.specs.Standing.{Standing}
use Rattle.board.specs.Done.{JoinDone}
use Rattle.board.specs.Holding.{StandsFor}

module _ {B : Type 0} where
  -- the table holds what was lent of it
  pub back : (table : Vec B Global) (cells : List B) → length cells ≡ vec_len table → vec_items (with_items table cells) ≡ cells
  back table cells e = with_items_is table cells e

module _ {B : Type 0} (m : Meaning B) where
  -- what stands on a table stands on what is lent of it
  pub on_lent : (h : Header) (table lent : List B) → lent ≡ table → (s : Standing) → StandsFor m h table s → StandsFor m h lent s
  on_lent h table lent e s st = subst (λ (x : List B). StandsFor m h x s) (sym e) st

  module _ (table work : Vec B Global) (lent cells lent' cells' : List B) (e : lent ≡ vec_items table) (e' : lent' ≡ vec_items work)
      (l : length cells ≡ vec_len table) (l' : length cells' ≡ vec_len work) (h : Header) where
    pub join_back : (r : Result (Unit {0}) BoardFault) (s t : Standing) → JoinDone m (length lent') h lent cells lent' cells' r s t
        → JoinDone m (length (vec_items work)) h (vec_items table) (vec_items (with_items table cells)) (vec_items work) (vec_items (with_items work cells')) r s t
    join_back r s t d =
        subst₂ (λ (x y : List B). JoinDone m (length (vec_items work)) h (vec_items table) x (vec_items work) y r s t) (sym (back table cells l)) (sym (back work cells' l'))
        (subst₂ (λ (x y : List B). JoinDone m (length y) h x cells y cells' r s t) e e' d)

-- The bounds that windows write, one window after the other. Assumes nothing.
use Rattle.std.proofs.Common.{◌≡◌, ℕ, zero, suc, ◌+◌, ◌*◌, ◌<◌, ◌≤◌, List, [], ◌∷◌, length, get_or, drop, set, sym, refl, ap, ◌∙◌, subst, ⊎_elim, arith, get_or-set_other, get_or-set_same}
use Rattle.std.proofs.lemmas.Bool.{cases_eq, cond-false, ne_eqb}
use Rattle.chart.specs.Lists.{All}
use Rattle.std.proofs.lemmas.List.{drop_more, drop_all}
use Rattle.bound.specs.Meaning.{Meaning}
use Rattle.chart.specs.declared.types.Window.{Window}
use Rattle.table.specs.Cells.{at, Beyond}
use Rattle.motions.specs.Windows.{all_more, into_by, onward_by, wait_into, Noted}

-- what the windows from the k-th on still make of the bounds gives what all make of them
pub record Noting {B : Type 0} (m : Meaning B) (n : ℕ) (ws : List Window) (k : ℕ) (start now : List B) : Type 0 where
  pub into : (i : ℕ) → i < n + 1 → into_by m i (at m now i) (drop k ws) ≡ into_by m i (at m start i) ws
  pub onward : (i : ℕ) → i < n + 1 → onward_by m i (at m now (n + 1 + i)) (drop k ws) ≡ onward_by m i (at m start (n + 1 + i)) ws
  pub beyond : Beyond m (2 * n + 2) start now

module _ {B : Type 0} (m : Meaning B) (n : ℕ) (ws : List Window) (start : List B) where
  pub noting_none : Noting m n ws 0 start start
  noting_none = record { into = λ i h. refl; onward = λ i h. refl; beyond = λ i h. refl }

  module _ (k : ℕ) (now : List B) (t : Noting m n ws k start now) where
    pub noting_more : (w : Window) (next : List B) → k < length ws → w ≡ get_or ws k w → Noted m n w now next → Noting m n ws (k + 1) start next
    unfolding all_more
    noting_more w next h e noted =
        record {
          into = λ i l. ap (λ a. into_by m i a (drop (k + 1) ws)) (noted.into i l) ∙ ap (into_by m i (at m now i)) rest ∙ t.into i l;
          onward = λ i l. ap (λ a. onward_by m i a (drop (k + 1) ws)) (noted.onward i l) ∙ ap (onward_by m i (at m now (n + 1 + i))) rest ∙ t.onward i l;
          beyond = λ i l. noted.beyond i l ∙ t.beyond i l;
        }
      where
        rest : w ∷ drop (k + 1) ws ≡ drop k ws
        rest = ap (λ (x : Window). x ∷ drop (k + 1) ws) e ∙ sym (drop_more ws k w h)

    pub noting_all : length ws ≤ k → ((i : ℕ) → i < n + 1 → at m now i ≡ into_by m i (at m start i) ws) × ((i : ℕ) → i < n + 1 → at m now (n + 1 + i) ≡ onward_by m i (at m start (n + 1 + i)) ws)
    unfolding all_more
    noting_all h = (
      λ i l. ap (into_by m i (at m now i)) (sym (drop_all k ws h)) ∙ t.into i l,
      λ i l. ap (onward_by m i (at m now (n + 1 + i))) (sym (drop_all k ws h)) ∙ t.onward i l,
    )

-- what holds of all windows holds of the one at a place
pub all_item : (P : Window → Type 0) (ws : List Window) (k : ℕ) (w : Window) → All P ws → k < length ws → w ≡ get_or ws k w → P w
all_item P ws k w all h e = subst P (sym e) (go ws k all h)
  where
    go : (xs : List Window) (j : ℕ) → All P xs → j < length xs → P (get_or xs j w)
    go [] j a l = absurd (omega arith)
    go (x ∷ xs) zero a l = a.0
    go (x ∷ xs) (suc j) a l = go xs j a.1 (omega arith)

-- the bounds before the windows: the wait alone
module _ {B : Type 0} (m : Meaning B) (n : ℕ) (t : List B) (z : B) (some : 0 < length t) (cleared : (i : ℕ) → i < 2 * n + 2 → at m t i ≡ m.opened) where
  pub wait_into_is : (i : ℕ) → i < n + 1 → at m (set t 0 z) i ≡ wait_into m z i
  wait_into_is i h =
      ⊎_elim
      (λ (e : i ≡ 0). subst (λ (j : ℕ). at m (set t 0 z) j ≡ wait_into m z j) (sym e) (get_or-set_same t 0 z m.opened some))
      (λ (ne : i ≡ 0 → ⊥). get_or-set_other t 0 i z m.opened ne ∙ cleared i (omega arith) ∙ sym (cond-false _ _ _ (ne_eqb i 0 ne)))
      (cases_eq i 0)

  pub wait_onward : (i : ℕ) → i < n + 1 → at m (set t 0 z) (n + 1 + i) ≡ m.opened
  wait_onward i h = get_or-set_other t 0 (n + 1 + i) z m.opened (λ e. omega (arith, e)) ∙ cleared (n + 1 + i) (omega arith)

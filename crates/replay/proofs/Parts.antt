-- Two elements of a list, in two parts of it. Assumes nothing.
use Rattle.std.proofs.Common.{◌≡◌, ℕ, ◌<◌, ◌≢◌, List, ◌++◌, length, get_or, set, sym, ap, ◌∙◌, arith, length-set}
use Rattle.std.proofs.lemmas.List.{set_comm, set-append_left, set-append_right, get_or_append_left, get_or-append_right}

module _ {A : Type 0} (all front back : List A) (i j : ℕ) (e : all ≡ front ++ back) (l : length front ≡ j) (below : i < j) where
  -- both are written
  pub set_parts : (x y : A) → set front i x ++ set back 0 y ≡ set (set all i x) j y
  set_parts x y =
      sym (
      ap (λ (xs : List A). set (set xs i x) j y) e ∙ ap (λ (xs : List A). set xs j y) (set-append_left front back i x (omega arith))
      ∙ set-append_right (set front i x) back j j y (length-set front i x ∙ l) (omega arith) ∙ ap (λ (k : ℕ). set front i x ++ set back k y) (omega arith)
      )

  pub set_parts_first : (x y : A) → set front i x ++ set back 0 y ≡ set (set all j y) i x
  set_parts_first x y = let apart : i ≢ j = omega arith in set_parts x y ∙ set_comm all i j x y apart

  -- and read
  pub get_front : (d : A) → get_or front i d ≡ get_or all i d
  get_front d = sym (ap (λ (xs : List A). get_or xs i d) e ∙ get_or_append_left front back d i (omega arith))

  pub get_back : (d : A) → get_or back 0 d ≡ get_or all j d
  get_back d = sym (ap (λ (xs : List A). get_or xs j d) e ∙ get_or-append_right front back j j d l (omega arith) ∙ ap (λ (k : ℕ). get_or back k d) (omega arith))

-- What stands at a place of a list. Assumes nothing.
use Rattle.std.specs.Prelude.{ℕ, zero, suc, List, [], ◌∷◌}

-- x stands at place j of the list; the first place is 0
pub data At {A : Type 0} : List A → ℕ → A → Type 0 where
  here : {x : A} {xs : List A} → At (x ∷ xs) 0 x
  later : {x y : A} {xs : List A} {j : ℕ} → At xs j x → At (y ∷ xs) (suc j) x

-- f (m − 1), .., f 0
abbrev pub row {ℓ} : {A : Type ℓ} → (ℕ → A) → ℕ → List A
row f zero = []
row f (suc m) = f m ∷ row f m

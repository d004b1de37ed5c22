-- How large the places of a table can be after pivots: ways through some of the nodes pivoted on. Assumes nothing.
use Rattle.std.specs.Prelude.{ℕ, ◌+◌, ◌*◌, ◌<◌, ◌≤◌, Bool, true, false, List, [], ◌∷◌}
use Rattle.bound.specs.Differences.{Differences}
use Rattle.runs.specs.Tables.{Table, Within, Sum, Settled}

-- Some of the nodes of a list.
abbrev pub Mask : List ℕ → Type 0
Mask [] = Unit {0}
Mask (p ∷ ps) = Bool × Mask ps

-- One for each that is taken.
abbrev pub tick : Bool → ℕ
tick true = 1
tick false = 0

abbrev pub count : (ps : List ℕ) → Mask ps → ℕ
count [] a = 0
count (p ∷ ps) a = tick a.0 + count ps a.1

abbrev pub Used : Bool → Type 0 → Type 0
Used true X = X
Used false X = Unit {0}

-- R holds of each node that is taken.
abbrev pub AllUsed : (ℕ → Type 0) → (ps : List ℕ) → Mask ps → Type 0
AllUsed R [] a = Unit {0}
AllUsed R (p ∷ ps) a = Used a.0 (R p) × AllUsed R ps a.1

-- What the way from u to v by q allows, the place (u, v) allows; and q is settled.
pub record OnWay (D : Differences) (N : ℕ) (W : Table D) (u v q : ℕ) : Type 0 where
  pub below : q < N
  pub settled : Settled D N W q
  pub passing : Within D (Sum D (W u q) (W q v)) (W u v)

-- The size of a place is at most S for each step of a way through some of the nodes of the list.
abbrev pub SizedBy : (D : Differences) → ℕ → Table D → List ℕ → ℕ → (ℕ → ℕ → ℕ) → Type 0
SizedBy D N W ps S size =
    (u v : ℕ) → u < N → v < N → (a : Mask ps) × AllUsed (OnWay D N W u v) ps a × (size u v ≤ (count ps a + 1) * S)

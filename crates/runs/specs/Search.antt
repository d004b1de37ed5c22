-- The first name that fails a test, part by part: over all d, then c, b and a. Assumes nothing.
use Rattle.std.specs.Prelude.{◌≡◌, ℕ, suc, ◌<◌, Bool, true, false}
use Rattle.runs.specs.Limits.{Name, Proper}

abbrev pub named : (a b c d : ℕ) → Name
named a b c d = record { a = a; b = b; c = c; d = d }

module _ (n : ℕ) (test : Name → Bool) where
  abbrev pub Passes : (a b c d : ℕ) → Type 0
  Passes a b c d = Proper a b c d → test (named a b c d) ≡ true

  pub record Fails (a b c d : ℕ) : Type 0 where
    pub proper : Proper a b c d
    pub fails : test (named a b c d) ≡ false

  -- all names that begin with a b c, with a b, and with a, and all
  abbrev pub AllD : (a b c : ℕ) → Type 0
  AllD a b c = (d : ℕ) → d < suc n → Passes a b c d

  abbrev pub AllC : (a b : ℕ) → Type 0
  AllC a b = (c : ℕ) → c < suc n → AllD a b c

  abbrev pub AllB : (a : ℕ) → Type 0
  AllB a = (b : ℕ) → b < suc n → AllC a b

  abbrev pub AllA : Type 0
  AllA = (a : ℕ) → a < suc n → AllB a

  -- the first of those that fails
  pub record FirstD (a b c d : ℕ) : Type 0 where
    pub most : d < suc n
    pub here : Fails a b c d
    pub before : (j : ℕ) → j < d → Passes a b c j

  pub record FirstC (a b c d : ℕ) : Type 0 where
    pub most : c < suc n
    pub here : FirstD a b c d
    pub before : (j : ℕ) → j < c → AllD a b j

  pub record FirstB (a b c d : ℕ) : Type 0 where
    pub most : b < suc n
    pub here : FirstC a b c d
    pub before : (j : ℕ) → j < b → AllC a j

  pub record FirstA (a b c d : ℕ) : Type 0 where
    pub most : a < suc n
    pub here : FirstB a b c d
    pub before : (j : ℕ) → j < a → AllB j

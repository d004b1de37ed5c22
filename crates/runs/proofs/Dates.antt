-- The dates of the nodes that two readings and the time between them give, and the limits that they keep.
-- There are m values in a reading, that of timer 0 first; nodes 0, .., m − 1 stand for the start, nodes m, .., m + m − 1 for the end. Assumes nothing.
use Rattle.std.proofs.Common.{◌≡◌, ℕ, ◌+◌, ◌-◌, ◌<◌, refl, ap, subst, arith}
use native.Mathlib.Decide.{dec_lt}
use Rattle.bound.specs.Differences.{Differences, minus}
use Rattle.runs.specs.Limits.{Proper}
use Rattle.runs.proofs.Lists.{pick}
use Rattle.runs.specs.Tables.{Table, Sum}

-- The time now less the timer's value, where now is 0 at the start and t at the end.
abbrev pub dates : (D : Differences) → ℕ → (start end : ℕ → D.Diff) → D.Diff → ℕ → D.Diff
dates D m start end t u = pick (dec_lt u m) (D.neg (start u)) (minus D t (end (u - m)))

-- start(a) − start(b) + end(c) − end(d)
abbrev pub limited : (D : Differences) → (start end : ℕ → D.Diff) → (a b c d : ℕ) → D.Diff
limited D start end a b c d = D.add (minus D (start a) (start b)) (minus D (end c) (end d))

-- The readings keep the limit a b c d of the table: both sums allow the value.
pub record KeepsLimit (D : Differences) (m : ℕ) (T : Table D) (start end : ℕ → D.Diff) (a b c d : ℕ) : Type 0 where
  pub straight : Sum D (T b a) (T (m + d) (m + c)) (limited D start end a b c d)
  pub crossed : Sum D (T (m + d) a) (T b (m + c)) (limited D start end a b c d)

-- Every limit under every four numbers.
abbrev pub KeepsAll : (D : Differences) → ℕ → Table D → (start end : ℕ → D.Diff) → Type 0
KeepsAll D m T start end = (a b c d : ℕ) → a < m → b < m → c < m → d < m → KeepsLimit D m T start end a b c d

-- Every limit that has a name.
abbrev pub KeepsNamed : (D : Differences) → ℕ → Table D → (start end : ℕ → D.Diff) → Type 0
KeepsNamed D m T start end = (a b c d : ℕ) → a < m → b < m → c < m → d < m → Proper a b c d → KeepsLimit D m T start end a b c d

module _ (D : Differences) (m : ℕ) (start end : ℕ → D.Diff) (t : D.Diff) where
  open D use {Diff, le, add, neg}

  -- what holds at the start nodes and at the end nodes holds at all
  pub by_halves : (P : ℕ → Diff → Type 0) → ((i : ℕ) → i < m → P i (neg (start i))) → ((i : ℕ) → i < m → P (m + i) (minus D t (end i)))
      → (u : ℕ) → u < m + m → P u (dates D m start end t u)
  by_halves P h k u l = go (dec_lt u m)
    where
      go : (c : Dec (u < m)) → P u (pick c (neg (start u)) (minus D t (end (u - m))))
      go (yes s) = h u s
      go (no s) = let e : m + (u - m) ≡ u = omega arith in subst (λ z. P z (minus D t (end (u - m)))) e (k (u - m) (omega arith))

  pub date_start : (i : ℕ) → i < m → dates D m start end t i ≡ neg (start i)
  date_start i l = go (dec_lt i m)
    where
      go : (c : Dec (i < m)) → pick c (neg (start i)) (minus D t (end (i - m))) ≡ neg (start i)
      go (yes s) = refl
      go (no s) = absurd (s l)

  pub date_end : (i : ℕ) → i < m → dates D m start end t (m + i) ≡ minus D t (end i)
  date_end i l = go (dec_lt (m + i) m)
    where
      go : (c : Dec (m + i < m)) → pick c (neg (start (m + i))) (minus D t (end ((m + i) - m))) ≡ minus D t (end i)
      go (yes s) = absurd (omega arith)
      go (no s) = let e : (m + i) - m ≡ i = omega arith in ap (λ z. minus D t (end z)) e

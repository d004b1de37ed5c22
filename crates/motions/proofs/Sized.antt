-- Sizes of the new table where the bounds between the nodes and the new now are at most 2^39. Assumes nothing.
use Rattle.std.proofs.Common.{◌≡◌, ℕ, ◌+◌, ◌*◌, ◌^◌, ◌<◌, ◌≤◌, Bool, true, false, cond, ltb, List, Some, None, Option, refl, arith}
use Rattle.std.proofs.lemmas.Bool.{ltb-true}
use Rattle.bound.specs.Meaning.{Meaning, Laws}
use Rattle.chart.specs.Charts.{Motion}
use Rattle.runs.specs.Motions.{motion_name}
use Rattle.table.specs.Cells.{at, cell, Small, with_sum, relaxed}
use Rattle.motions.specs.Star.{settled_cell, new_cell}

module _ {B : Type 0} (m : Meaning B) (laws : Laws m) where
  -- the tighter of a bound and a sum is no larger than both
  pub relaxed_small : (held a b : B) (most : ℕ) → m.size_of held ≤ most → m.size_of a + m.size_of b ≤ most → m.size_of (relaxed m held a b) ≤ most
  relaxed_small held a b most h k = go (m.sum a b) refl
    where
      go : (o : Option B) → m.sum a b ≡ o → m.size_of (with_sum m held o) ≤ most
      go None e = h
      go (Some s) e = pick (m.tighter held s)
        where
          pick : (t : Bool) → m.size_of (cond t held s) ≤ most
          pick true = h
          pick false = let l = laws.sum_size a b s e in omega arith

  module _ (z : B) (nil : m.size_of z ≤ 1) (n : ℕ) (work : List B) (modest : (i : ℕ) → 2 * n + 2 ≤ i → i < 6 * n + 6 → m.size_of (at m work i) ≤ 2 ^ 39) where
    settled_small : (held : B) (p q : ℕ) → m.size_of held ≤ 2 ^ 40 → m.size_of (settled_cell m z n work held p q) ≤ 2 ^ 40
    settled_small held p q h = one (ltb p (2 * n + 2)) (ltb q (2 * n + 2)) refl refl
      where
        to_small : ltb p (2 * n + 2) ≡ true → m.size_of (at m work (2 * n + 2 + p)) ≤ 2 ^ 39
        to_small e = let l = ltb-true p (2 * n + 2) e in modest (2 * n + 2 + p) (omega arith) (omega arith)

        from_small : ltb q (2 * n + 2) ≡ true → m.size_of (at m work (4 * n + 4 + q)) ≤ 2 ^ 39
        from_small e = let l = ltb-true q (2 * n + 2) e in modest (4 * n + 4 + q) (omega arith) (omega arith)

        one : (s t : Bool) → ltb p (2 * n + 2) ≡ s → ltb q (2 * n + 2) ≡ t
            → m.size_of (cond s (cond t (relaxed m held (at m work (2 * n + 2 + p)) (at m work (4 * n + 4 + q))) (at m work (2 * n + 2 + p))) (cond t (at m work (4 * n + 4 + q)) z)) ≤ 2 ^ 40
        one true true e f = let a = to_small e in let b = from_small f in relaxed_small held _ _ (2 ^ 40) h (omega (arith, a, b))
        one true false e f = let a = to_small e in omega (arith, a)
        one false true e f = let b = from_small f in omega (arith, b)
        one false false e f = omega (arith, nil)

    -- MODEST: every place of the new table is at most 2^40
    pub new_small : (motion : Motion) (table : List B) → Small m (2 * n + 2) table → (u v : ℕ) → u < 2 * n + 2 → v < 2 * n + 2 → m.size_of (new_cell m z n motion table work u v) ≤ 2 ^ 40
    new_small motion table small u v hu hv = settled_small (cell m (2 * n + 2) table u v) (motion_name n motion u) (motion_name n motion v) (small u v hu hv)

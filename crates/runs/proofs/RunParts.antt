-- Runs of equal readings, and one run after another. Assumes nothing.
use Rattle.std.proofs.Common.{ℕ, List, [], ◌∷◌, ◌++◌, pos, refl}
use Rattle.bound.specs.Differences.{Differences, Same, Ordered}
use Rattle.chart.specs.Lists.{All}
use Rattle.chart.specs.declared.types.Sign.{Sign}
use Rattle.chart.specs.declared.types.Window.{Window}
use Rattle.chart.specs.Charts.{Chart, WindowOf, ChartOf, restarts_timer}
use Rattle.chart.specs.declared.types.Sign.TheVariants.{AtMost, Under, AtLeast, Over, Equal}
use Rattle.runs.specs.Runs.{Reading, reads, SameReading, StandsSo, Holds, grown, restarted, Goes}
use Rattle.bound.specs.Groups.{≤_trans, ≈-refl, ≈-sym, ≈-trans}
use Rattle.bound.specs.Solver.{◌⊞◌, nil, v0, v1, v2, v3, same_from}
use Rattle.bound.specs.Strict.{le_less, less_le}
use Rattle.runs.proofs.Lists.{all_map, all_both}
use Rattle.runs.proofs.Timers.{equal_refl, equal_sym, equal_trans, grown_equal, restarted_equal}

module _ {D : Differences} (o : Ordered D) (n : ℕ) where
  open D use {Diff, le, add, neg}

  stands_same : (s : Sign) (v w c : Diff) → Same D v w → StandsSo D s v c → StandsSo D s w c
  stands_same AtMost v w c e h = ≤_trans o e.1 h
  stands_same Under v w c e h = le_less o w v c e.1 h
  stands_same AtLeast v w c e h = ≤_trans o h e.0
  stands_same Over v w c e h = less_le o c v w h e.0
  stands_same Equal v w c e h = ≈-trans o (≈-sym o e) h

  pub holds_same : (σ ρ : Reading D) → SameReading D n σ ρ → (ws : List Window) → All (WindowOf n) ws → All (Holds D σ) ws → All (Holds D ρ) ws
  holds_same σ ρ e ws of h =
      all_map (λ w. WindowOf n w × Holds D σ w) (Holds D ρ)
      (λ w k. stands_same w.sign (reads D σ w.timer) (reads D ρ w.timer) (D.whole (pos w.number)) (e w.timer k.0) k.1) ws
      (all_both (WindowOf n) (Holds D σ) ws of h)

  -- what goes between two readings in a time goes between equal ones
  pub goes_same : (c : Chart) → ChartOf n c → (σ σ' : Reading D) (t t' : Diff) (ε ε' : Reading D)
      → SameReading D n σ σ' → Same D t t' → SameReading D n ε ε' → Goes D n c σ t ε → Goes D n c σ' t' ε'
  goes_same [] of σ σ' t t' ε ε' es et ee (e, z) =
      (equal_trans o n σ' σ ε' (equal_sym o n σ σ' es) (equal_trans o n σ ε ε' e ee), ≈-trans o (≈-sym o et) z)
  goes_same (m ∷ ms) of σ σ' t t' ε ε' es et ee (wait, rest, h, w, e, g) = (
    wait,
    rest,
    h,
    holds_same (grown D σ wait) (grown D σ' wait) grew m.windows of.0.timers w,
    ≈-trans o (≈-sym o et) e,
    goes_same ms of.1 (restarted D (restarts_timer m) (grown D σ wait)) (restarted D (restarts_timer m) (grown D σ' wait)) rest rest ε ε'
        (restarted_equal o n (restarts_timer m) (grown D σ wait) (grown D σ' wait) grew) (≈-refl o rest) ee g,
  )
    where
      grew : SameReading D n (grown D σ wait) (grown D σ' wait)
      grew = grown_equal o n σ σ' wait es

  pub goes_time : (c : Chart) (σ ε : Reading D) (t t' : Diff) → Same D t t' → Goes D n c σ t ε → Goes D n c σ t' ε
  goes_time [] σ ε t t' e (h, z) = (h, ≈-trans o (≈-sym o e) z)
  goes_time (m ∷ ms) σ ε t t' e (wait, rest, h, w, k, g) = (wait, rest, h, w, ≈-trans o (≈-sym o e) k, g)

  -- AFTER: one chart after another
  pub goes_after : (c d : Chart) → ChartOf n d → (σ μ ε : Reading D) (s t : Diff)
      → Goes D n c σ s μ → Goes D n d μ t ε → Goes D n (c ++ d) σ (add s t) ε
  goes_after [] d of σ μ ε s t (e, z) k =
      goes_same d of μ σ t (add s t) ε ε (equal_sym o n σ μ e) (same_from o (s ∷ t ∷ []) v1 (v0 ⊞ v1) nil v0 refl (≈-sym o z)) (equal_refl o n ε) k
  goes_after (m ∷ ms) d of σ μ ε s t (wait, rest, h, w, e, g) k = (
    wait,
    add rest t,
    h,
    w,
    same_from o (wait ∷ rest ∷ s ∷ t ∷ []) (v2 ⊞ v3) (v0 ⊞ (v1 ⊞ v3)) v2 (v0 ⊞ v1) refl e,
    goes_after ms d of (restarted D (restarts_timer m) (grown D σ wait)) μ ε rest t g k,
  )

-- Where runs end, and what a chart followed by another joins. Assumes nothing.
use Rattle.std.proofs.Common.{ℕ, ◌↔◌, [], ◌∷◌, ◌++◌, length, refl}
use Rattle.bound.specs.Differences.{Differences, Same, Ordered, zero_of}
use Rattle.chart.specs.Charts.{Chart, ChartOf, restarts_timer}
use Rattle.runs.specs.Runs.{Reading, Lawful, grown, restarted, Goes, Run, Joins}
use Rattle.runs.specs.Graph.{before}
use Rattle.bound.specs.Groups.{≤_trans, ≈-refl}
use Rattle.bound.specs.Solver.{◌⊞◌, nil, v0, v1, v2, v3, v4, rearrange, same_from2}
use Rattle.runs.proofs.Timers.{equal_refl}
use Rattle.runs.proofs.Instants.{lawful_at, ends}
use Rattle.runs.proofs.RunParts.{goes_after}

module _ {D : Differences} (o : Ordered D) (n : ℕ) where
  open D use {Diff, add}

  -- a run ends at values of at least 0
  pub end_lawful : (c : Chart) (σ : Reading D) (t : Diff) (ε : Reading D) → Run D n c σ t ε → Lawful D n ε
  end_lawful c σ t ε run i l =
      ≤_trans o (lawful_at o n (before (length c)) c σ t ε run.1 (zero_of D) run.0 i l) ((ends o n c σ t ε run.1 (zero_of D)).1 i l).0

  -- a run of both is one of the first and one of the second
  abbrev Apart : (c d : Chart) → Reading D → Diff → Reading D → Type 0
  Apart c d σ t ε = (μ : Reading D) × (s : Diff) × (r : Diff) × Goes D n c σ s μ × Goes D n d μ r ε × Same D t (add s r)

  goes_apart : (c d : Chart) (σ : Reading D) (t : Diff) (ε : Reading D) → Goes D n (c ++ d) σ t ε → Apart c d σ t ε
  goes_apart [] d σ t ε g = (σ, zero_of D, t, (equal_refl o n σ, ≈-refl o (zero_of D)), g, rearrange o (t ∷ []) v0 (nil ⊞ v0) refl)
  goes_apart (m ∷ ms) d σ t ε (wait, rest, h, w, e, g) = go (goes_apart ms d (restarted D (restarts_timer m) (grown D σ wait)) rest ε g)
    where
      go : Apart ms d (restarted D (restarts_timer m) (grown D σ wait)) rest ε → Apart (m ∷ ms) d σ t ε
      go (μ, s, r, a, b, k) = (
        μ,
        add wait s,
        r,
        (wait, s, h, w, ≈-refl o (add wait s), a),
        b,
        same_from2 o (t ∷ wait ∷ rest ∷ s ∷ r ∷ []) v0 (v1 ⊞ v3 ⊞ v4) v0 (v1 ⊞ v2) v2 (v3 ⊞ v4) refl e k,
      )

  -- JOINED: one chart followed by another joins what the first joins to a reading that the second joins on.
  pub joins_after : (c d : Chart) → ChartOf n d → (σ ε : Reading D) → Joins D n (c ++ d) σ ε ↔ ((μ : Reading D) × Joins D n c σ μ × Joins D n d μ ε)
  joins_after c d of σ ε = (
    (λ (t, run). apart t run (goes_apart c d σ t ε run.1)),
    (λ (μ, (s, run), (r, run')). (add s r, (run.0, goes_after o n c d of σ μ ε s r run.1 run'.1))),
  )
    where
      apart : (t : Diff) → Run D n (c ++ d) σ t ε → Apart c d σ t ε → (μ : Reading D) × Joins D n c σ μ × Joins D n d μ ε
      apart t run (μ, s, r, a, b, k) = (μ, (s, (run.0, a)), (r, (end_lawful c σ s μ (run.0, a), b)))

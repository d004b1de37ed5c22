-- Chains of limits: what they allow, one after another, and the sets that they attain. Assumes nothing.
use Rattle.std.proofs.Common.{ℕ, [], ◌∷◌, refl, inl, inr}
use Rattle.bound.specs.Differences.{Differences, Ordered, zero_of, minus}
use Rattle.bound.specs.Meaning.{Stands}
use Rattle.chart.specs.Charts.{Chart}
use Rattle.runs.specs.Runs.{Reading, Joins, HasRun}
use Rattle.runs.specs.Graph.{Date, Limit, nought, Writes, Chain, Allowed, Attained, Never}
use Rattle.runs.specs.Graph.Chain.{stop, by}
use Rattle.runs.specs.Tables.{Set, Lower, Within, Sum}
use Rattle.bound.specs.Groups.{≤_trans, ≈-refl}
use Rattle.bound.specs.Solver.{◌⊞◌, ◌⊟◌, nil, v0, v1, v2, v3, v4, le_same, le_from2, le_from3, same_from}
use Rattle.runs.proofs.Sums.{sum_swap, sum_map, sum_no_more, sum_open}
use Rattle.runs.proofs.Windows.{stands_lower, stands_point}
use Rattle.runs.proofs.Sound.{run_date, chain_kept}

-- Date u is at most date v, by a chain whose limits are all 0.
abbrev pub Free : (D : Differences) (n : ℕ) (c : Chart) → Date → Date → Type 0
Free D n c u v = (π : Chain n c u v) × Within D (Allowed D π) (λ d. D.le d (zero_of D))

module _ {D : Differences} (o : Ordered D) {n : ℕ} {c : Chart} where
  open D use {Diff, le, add, neg}

  -- ── What a chain allows ──

  pub allowed_lower : {u v : Date} (π : Chain n c u v) → Lower D (Allowed D π)
  allowed_lower stop d e h k = ≤_trans o h k
  allowed_lower (by {l = l} w rest) d e h (a, b, ha, hb, k) = (
    minus D e b,
    b,
    stands_lower o l.strict l.number a (minus D e b) (le_from2 o (a ∷ b ∷ d ∷ e ∷ []) (v3 ⊟ v1) v0 v3 v2 v2 (v0 ⊞ v1) refl h k.0) ha,
    hb,
    same_from o (b ∷ e ∷ []) v1 (v1 ⊟ v0 ⊞ v0) nil nil refl (≈-refl o (zero_of D)),
  )

  -- no chain allows nothing
  pub allowed_point : {u v : Date} (π : Chain n c u v) → (d : Diff) × Allowed D π d
  allowed_point stop = (zero_of D, o.le_refl (zero_of D))
  allowed_point (by {l = l} w rest) = go (stands_point o l.strict l.number) (allowed_point rest)
    where
      go : ((e : Diff) × Stands D l.strict e l.number) → ((f : Diff) × Allowed D rest f) → (d : Diff) × Allowed D (by w rest) d
      go (e, he) (f, hf) = (add e f, (e, f, he, hf, ≈-refl o (add e f)))

  -- ── One chain after another ──

  pub after : {u w v : Date} → Chain n c u w → Chain n c w v → Chain n c u v
  after stop ρ = ρ
  after (by l π) ρ = by l (after π ρ)

  pub after_allowed : {u w v : Date} (π : Chain n c u w) (ρ : Chain n c w v) → Within D (Allowed D (after π ρ)) (Sum D (Allowed D π) (Allowed D ρ))
  unfolding after
  after_allowed stop ρ d h = (zero_of D, d, o.le_refl (zero_of D), h, le_same o (d ∷ []) v0 (nil ⊞ v0) refl)
  after_allowed (by {l = l} w π) ρ d (e, f, he, hf, k) = go (after_allowed π ρ f hf)
    where
      go : Sum D (Allowed D π) (Allowed D ρ) f → Sum D (Allowed D (by w π)) (Allowed D ρ) d
      go (a, b, ha, hb, m) = (
        add e a,
        b,
        (e, a, he, ha, ≈-refl o (add e a)),
        hb,
        le_from2 o (a ∷ b ∷ e ∷ f ∷ d ∷ []) v4 (v2 ⊞ v0 ⊞ v1) v4 (v2 ⊞ v3) v3 (v0 ⊞ v1) refl k.0 m,
      )

  -- ── Attained sets ──

  pub attained_up : {u v : Date} (S R : Set D) → Within D S R → Attained D n c u v S → Attained D n c u v R
  attained_up S R h (inl (π, k)) = inl (π, λ d l. h d (k d l))
  attained_up S R h (inr k) = inr (λ d. h d (k d))

  pub attained_zero : {u : Date} → Attained D n c u u (λ d. le d (zero_of D))
  attained_zero = inl (stop, λ d h. h)

  pub attained_limit : (l : Limit) → Writes n c l → Attained D n c l.from l.to (λ d. Stands D l.strict d l.number)
  attained_limit l w =
      inl (
        by w stop,
        λ d (e, f, he, hf, k). stands_lower o l.strict l.number e d
            (le_from2 o (d ∷ e ∷ f ∷ []) v0 v1 v0 (v1 ⊞ v2) v2 nil refl k.0 hf) he,
      )

  -- SUM
  pub attained_sum : {u w v : Date} (S R : Set D) → Attained D n c u w S → Attained D n c w v R → Attained D n c u v (Sum D S R)
  attained_sum S R (inl (π, h)) (inl (ρ, k)) =
      inl (after π ρ, λ d l. sum_map o (Allowed D π) (Allowed D ρ) S R h k d (after_allowed π ρ d l))
  attained_sum S R (inl (π, h)) (inr k) = let p = allowed_point π in inr (sum_open o S R (p.0, h p.0 p.1) k)
  attained_sum S R (inr h) (inl (ρ, k)) =
      let p = allowed_point ρ in inr (λ d. sum_swap o R S d (sum_open o R S (p.0, k p.0 p.1) h d))
  attained_sum S R (inr h) (inr k) = inr (sum_open o S R (zero_of D, h (zero_of D)) k)

  pub free_stop : {u : Date} → Free D n c u u
  free_stop = (stop, λ d h. h)

  pub free_by : {u v : Date} → Writes n c (nought u v) → Free D n c u v
  free_by w =
      (by w stop, λ d (e, f, he, hf, k). le_from3 o (d ∷ e ∷ f ∷ []) v0 nil v0 (v1 ⊞ v2) v1 nil v2 nil refl k.0 he hf)

  pub free_after : {u w v : Date} → Free D n c u w → Free D n c w v → Free D n c u v
  free_after (π, h) (ρ, k) = (
    after π ρ,
    λ d l. sum_no_more o (λ d. le d (zero_of D)) (Allowed D ρ) (λ d e m n. ≤_trans o m n) k d
        (sum_map o (Allowed D π) (Allowed D ρ) (λ d. le d (zero_of D)) (Allowed D ρ) h (λ e m. m) d (after_allowed π ρ d l)),
  )

  -- ALONG: a set that is attained between two dates is attained between dates that are the same as they
  pub attained_along : {u u' v v' : Date} (S : Set D) → Lower D S → Free D n c u' u → Free D n c v v' → Attained D n c u v S → Attained D n c u' v' S
  attained_along S low (π, h) (ρ, k) (inr l) = inr l
  attained_along S low (π, h) (ρ, k) (inl (τ, l)) =
      inl (
        after π (after τ ρ),
        λ d m. sum_no_more o S (λ d. le d (zero_of D)) low (λ d n. n) d (sum_swap o (λ d. le d (zero_of D)) S d
            (sum_map o (Allowed D π) (Allowed D (after τ ρ)) (λ d. le d (zero_of D)) S h end d (after_allowed π (after τ ρ) d m))),
      )
    where
      end : (d : Diff) → Allowed D (after τ ρ) d → S d
      end d m = sum_no_more o S (Allowed D ρ) low k d (sum_map o (Allowed D τ) (Allowed D ρ) S (Allowed D ρ) l (λ e z. z) d (after_allowed τ ρ d m))

  -- ── No run ──

  -- a chart with a closed chain that does not allow 0 has no run
  pub never_runs : Never D n c → HasRun D n c → ⊥
  never_runs (u, π, h) (σ, ε, (t, run)) =
      let x : Diff = run_date o n c σ t ε run (zero_of D) u in
      h (allowed_lower π (minus D x x) (zero_of D) (le_same o (x ∷ []) nil (v0 ⊟ v0) refl) (chain_kept o n c σ t ε run (zero_of D) π))

  -- so it is within every chart
  pub never_within : Never D n c → (d : Chart) (σ ε : Reading D) → Joins D n c σ ε → Joins D n d σ ε
  never_within h d σ ε j = absurd (never_runs h (σ, ε, j))

  -- NEVER: where a set that is attained round from a date to itself does not hold 0, the chart never runs.
  pub attained_never : {u : Date} (S : Set D) → Attained D n c u u S → (S (zero_of D) → ⊥) → Never D n c
  attained_never S (inr h) no_nought = absurd (no_nought (h (zero_of D)))
  attained_never {u} S (inl (π, h)) no_nought = (u, π, λ k. no_nought (h (zero_of D) k))

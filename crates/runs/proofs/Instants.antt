-- The instants of a run: now and the reading at each moment of the chart, and how a motion goes from one to the next. Assumes nothing.
use Rattle.std.proofs.Common.{◌≡◌, ℕ, zero, suc, [], ◌∷◌, length, refl}
use Rattle.bound.specs.Differences.{Differences, Same, Ordered, zero_of, minus}
use Rattle.chart.specs.Lists.{All}
use Rattle.runs.specs.Lists.{At}
use Rattle.runs.specs.Lists.At.{here, later}
use Rattle.chart.specs.Charts.{Motion, Chart, restarts_timer}
use Rattle.runs.specs.Runs.{Reading, reads, Lawful, SameReading, Holds, grown, restarted, Goes}
use Rattle.runs.specs.Graph.{Moment, before}
use Rattle.runs.specs.Graph.Moment.{start, after_wait, after_restarts}
use Rattle.bound.specs.Groups.{≈-sym}
use Rattle.bound.specs.Solver.{◌⊞◌, nil, v0, v1, v2, v3, v4, same_from, same_from2}
use Rattle.runs.proofs.Timers.{grown_lawful, restarted_lawful}

pub record Instant (D : Differences) : Type 0 where
  pub now : D.Diff
  pub reading : Reading D

abbrev pub instant : (D : Differences) → D.Diff → Reading D → Instant D
instant D t σ = record { now = t; reading = σ }

-- the date of a timer is the time now less its value
abbrev pub date_at : (D : Differences) → Instant D → ℕ → D.Diff
date_at D s i = minus D s.now (reads D s.reading i)

-- the instants of a run that starts at the time now
abbrev pub instants : (D : Differences) (n : ℕ) → Moment → (c : Chart) (σ : Reading D) (t : D.Diff) (ε : Reading D) → Goes D n c σ t ε → D.Diff → Instant D
instants D n start c σ t ε g now = instant D now σ
instants D n (after_wait j) [] σ t ε g now = instant D now σ
instants D n (after_wait zero) (m ∷ ms) σ t ε (wait, rest, _, _, _, g) now = instant D (D.add now wait) (grown D σ wait)
instants D n (after_wait (suc j)) (m ∷ ms) σ t ε (wait, rest, _, _, _, g) now =
    instants D n (after_wait j) ms (restarted D (restarts_timer m) (grown D σ wait)) rest ε g (D.add now wait)
instants D n (after_restarts j) [] σ t ε g now = instant D now σ
instants D n (after_restarts zero) (m ∷ ms) σ t ε (wait, rest, _, _, _, g) now =
    instant D (D.add now wait) (restarted D (restarts_timer m) (grown D σ wait))
instants D n (after_restarts (suc j)) (m ∷ ms) σ t ε (wait, rest, _, _, _, g) now =
    instants D n (after_restarts j) ms (restarted D (restarts_timer m) (grown D σ wait)) rest ε g (D.add now wait)

-- one motion, from instant p by way of q, after the wait, to r
pub record Moved (D : Differences) (m : Motion) (p q r : Instant D) : Type 0 where
  pub wait : D.Diff
  pub onward : D.le (zero_of D) wait
  pub held : All (Holds D (grown D p.reading wait)) m.windows
  pub waited : q ≡ instant D (D.add p.now wait) (grown D p.reading wait)
  pub ended : r ≡ instant D (D.add p.now wait) (restarted D (restarts_timer m) (grown D p.reading wait))

module _ {D : Differences} (o : Ordered D) (n : ℕ) where
  pub moved : {c : Chart} {j : ℕ} {m : Motion} → At c j m → (σ : Reading D) (t : D.Diff) (ε : Reading D) (g : Goes D n c σ t ε) (now : D.Diff)
      → Moved D m (instants D n (before j) c σ t ε g now) (instants D n (after_wait j) c σ t ε g now) (instants D n (after_restarts j) c σ t ε g now)
  moved here σ t ε (wait, rest, h, w, e, g) now = record { wait = wait; onward = h; held = w; waited = refl; ended = refl }
  moved (later {j = zero} at) σ t ε (wait, rest, h, w, e, g) now = moved at _ rest ε g (D.add now wait)
  moved (later {j = suc j} at) σ t ε (wait, rest, h, w, e, g) now = moved at _ rest ε g (D.add now wait)

  -- no timer ever reads less than 0
  pub lawful_at : (k : Moment) (c : Chart) (σ : Reading D) (t : D.Diff) (ε : Reading D) (g : Goes D n c σ t ε) (now : D.Diff)
      → Lawful D n σ → Lawful D n (instants D n k c σ t ε g now).reading
  lawful_at start c σ t ε g now l = l
  lawful_at (after_wait j) [] σ t ε g now l = l
  lawful_at (after_wait zero) (m ∷ ms) σ t ε (wait, rest, h, _, _, g) now l = grown_lawful o n σ wait h l
  lawful_at (after_wait (suc j)) (m ∷ ms) σ t ε (wait, rest, h, _, _, g) now l =
      lawful_at (after_wait j) ms _ rest ε g (D.add now wait) (restarted_lawful o n (restarts_timer m) (grown D σ wait) (grown_lawful o n σ wait h l))
  lawful_at (after_restarts j) [] σ t ε g now l = l
  lawful_at (after_restarts zero) (m ∷ ms) σ t ε (wait, rest, h, _, _, g) now l = restarted_lawful o n (restarts_timer m) (grown D σ wait) (grown_lawful o n σ wait h l)
  lawful_at (after_restarts (suc j)) (m ∷ ms) σ t ε (wait, rest, h, _, _, g) now l =
      lawful_at (after_restarts j) ms _ rest ε g (D.add now wait) (restarted_lawful o n (restarts_timer m) (grown D σ wait) (grown_lawful o n σ wait h l))

  -- the run ends after its time, at its end reading
  abbrev Ends : Instant D → D.Diff → D.Diff → Reading D → Type 0
  Ends s now t ε = Same D s.now (D.add now t) × SameReading D n s.reading ε

  later_end : (now wait rest t : D.Diff) (ε : Reading D) (s : Instant D) → Same D t (D.add wait rest) → Ends s (D.add now wait) rest ε → Ends s now t ε
  later_end now wait rest t ε s e (a, b) =
      (same_from2 o (s.now ∷ now ∷ wait ∷ rest ∷ t ∷ []) v0 (v1 ⊞ v4) v0 (v1 ⊞ v2 ⊞ v3) (v2 ⊞ v3) v4 refl a (≈-sym o e), b)

  pub ends : (c : Chart) (σ : Reading D) (t : D.Diff) (ε : Reading D) (g : Goes D n c σ t ε) (now : D.Diff)
      → Ends (instants D n (before (length c)) c σ t ε g now) now t ε
  ends [] σ t ε (e, z) now = (same_from o (now ∷ t ∷ []) v0 (v0 ⊞ v1) nil v1 refl (≈-sym o z), e)
  ends (m ∷ []) σ t ε (wait, rest, h, w, e, g) now =
      let ρ = restarted D (restarts_timer m) (grown D σ wait) in
      later_end now wait rest t ε (instants D n start [] ρ rest ε g (D.add now wait)) e (ends [] ρ rest ε g (D.add now wait))
  ends (m ∷ k ∷ ms) σ t ε (wait, rest, h, w, e, g) now =
      let ρ = restarted D (restarts_timer m) (grown D σ wait) in
      later_end now wait rest t ε (instants D n (before (length (k ∷ ms))) (k ∷ ms) ρ rest ε g (D.add now wait)) e (ends (k ∷ ms) ρ rest ε g (D.add now wait))

-- The chains of two charts are chains of the one followed by the other; the second's moments come after all of the first's. Assumes nothing.
use Rattle.std.proofs.Common.{◌≡◌, ℕ, zero, suc, List, [], ◌∷◌, ◌++◌, length, sym, ap, subst, inl, inr}
use Rattle.bound.specs.Differences.{Differences}
use Rattle.runs.specs.Lists.{At}
use Rattle.runs.specs.Lists.At.{here, later}
use Rattle.chart.specs.Charts.{Motion, Chart}
use Rattle.runs.specs.Graph.{Moment, before, MomentOf, Date, date, Limit, nought, Writes, Chain, Allowed, Attained, Never}
use Rattle.runs.specs.Graph.Moment.{start, after_wait, after_restarts}
use Rattle.runs.specs.Graph.MomentOf.{of_start, of_wait, of_restarts}
use Rattle.runs.specs.Graph.Writes.{never_after_now, not_back, wait_keeps, wait_kept, upper, lower, restart, now_keeps, now_kept, restart_keeps, restart_kept}
use Rattle.runs.specs.Graph.Chain.{stop, by}
use Rattle.runs.specs.Tables.{Set, Within}
use Rattle.runs.proofs.Lists.{at_first, at_last, past, past_first, past_suc}

-- ── Chains under a map of dates ──

-- the same limit between other dates
abbrev mapped : (Date → Date) → Limit → Limit
mapped f l = record { from = f l.from; to = f l.to; strict = l.strict; number = l.number }

module _ (n : ℕ) (c e : Chart) (f : Date → Date) (write : (l : Limit) → Writes n c l → Writes n e (mapped f l)) where
  chain_map : {u v : Date} → Chain n c u v → Chain n e (f u) (f v)
  chain_map stop = stop
  chain_map (by {l = l} w rest) = by (write l w) (chain_map rest)

  chain_map_allows : (D : Differences) {u v : Date} (π : Chain n c u v) → Within D (Allowed D (chain_map π)) (Allowed D π)
  unfolding chain_map
  chain_map_allows D stop d h = h
  chain_map_allows D (by w rest) d (a, b, ha, hb, k) = (a, b, ha, chain_map_allows D rest b hb, k)

  attained_map : (D : Differences) {u v : Date} (S : Set D) → Attained D n c u v S → Attained D n e (f u) (f v) S
  attained_map D S (inl (π, h)) = inl (chain_map π, λ d k. h d (chain_map_allows D π d k))
  attained_map D S (inr h) = inr h

-- ── The first of two charts ──

of_first : {c : Chart} (d : Chart) {k : Moment} → MomentOf c k → MomentOf (c ++ d) k
of_first d of_start = of_start
of_first d (of_wait a) = of_wait (at_first d a)
of_first d (of_restarts a) = of_restarts (at_first d a)

pub writes_first : {n : ℕ} {c : Chart} (d : Chart) (l : Limit) → Writes n c l → Writes n (c ++ d) (mapped (λ u. u) l)
writes_first d _ (never_after_now i at some most) = never_after_now i (of_first d at) some most
writes_first d _ (not_back a) = not_back (at_first d a)
writes_first d _ (wait_keeps i a some most) = wait_keeps i (at_first d a) some most
writes_first d _ (wait_kept i a some most) = wait_kept i (at_first d a) some most
writes_first d _ (upper a b s) = upper (at_first d a) b s
writes_first d _ (lower a b s) = lower (at_first d a) b s
writes_first d _ (restart i a some most e) = restart i (at_first d a) some most e
writes_first d _ (now_keeps a) = now_keeps (at_first d a)
writes_first d _ (now_kept a) = now_kept (at_first d a)
writes_first d _ (restart_keeps i a some most e) = restart_keeps i (at_first d a) some most e
writes_first d _ (restart_kept i a some most e) = restart_kept i (at_first d a) some most e

pub attained_first : {n : ℕ} {c : Chart} (d : Chart) (D : Differences) {u v : Date} (S : Set D) → Attained D n c u v S → Attained D n (c ++ d) u v S
attained_first {n} {c} d D S h = attained_map n c (c ++ d) (λ u. u) (writes_first d) D S h

-- ── The second of two charts ──

-- the moment of c followed by d for a moment of d
abbrev pub past_moment : Chart → Moment → Moment
past_moment c start = before (length c)
past_moment c (after_wait j) = after_wait (past c j)
past_moment c (after_restarts j) = after_restarts (past c j)

abbrev pub past_date : Chart → Date → Date
past_date c u = date (past_moment c u.moment) u.place

pub past_before : (c : Chart) (j : ℕ) → past_moment c (before j) ≡ before (past c j)
past_before c zero = ap before (sym (past_first c))
past_before c (suc j) = ap before (sym (past_suc c j))

-- where the first chart ends is a moment of both
last_of : (m : Motion) (ms : List Motion) → (k : Motion) × At (m ∷ ms) (length ms) k
last_of m [] = (m, here)
last_of m (k ∷ ks) = let r = last_of k ks in (r.0, later r.1)

pub of_end : (c d : Chart) → MomentOf (c ++ d) (before (length c))
of_end [] d = of_start
of_end (m ∷ ms) d = of_restarts (at_first d (last_of m ms).1)

of_last : (c : Chart) {d : Chart} {k : Moment} → MomentOf d k → MomentOf (c ++ d) (past_moment c k)
of_last c {d} of_start = of_end c d
of_last c (of_wait a) = of_wait (at_last c a)
of_last c (of_restarts a) = of_restarts (at_last c a)

-- a limit from or to the moment before a motion
module _ {n : ℕ} (c d : Chart) where
  from_before : (j : ℕ) (i : ℕ) (v : Date) → Writes n (c ++ d) (nought (date (before (past c j)) i) v) → Writes n (c ++ d) (nought (date (past_moment c (before j)) i) v)
  from_before j i v w = subst (λ k. Writes n (c ++ d) (nought (date k i) v)) (sym (past_before c j)) w

  to_before : (j : ℕ) (i : ℕ) (u : Date) → Writes n (c ++ d) (nought u (date (before (past c j)) i)) → Writes n (c ++ d) (nought u (date (past_moment c (before j)) i))
  to_before j i u w = subst (λ k. Writes n (c ++ d) (nought u (date k i))) (sym (past_before c j)) w

  pub writes_last : (l : Limit) → Writes n d l → Writes n (c ++ d) (mapped (past_date c) l)
  writes_last _ (never_after_now i at some most) = never_after_now i (of_last c at) some most
  writes_last _ (not_back {j} a) = from_before j 0 (date (after_wait (past c j)) 0) (not_back (at_last c a))
  writes_last _ (wait_keeps {j} i a some most) = from_before j i (date (after_wait (past c j)) i) (wait_keeps i (at_last c a) some most)
  writes_last _ (wait_kept {j} i a some most) = to_before j i (date (after_wait (past c j)) i) (wait_kept i (at_last c a) some most)
  writes_last _ (upper a b s) = upper (at_last c a) b s
  writes_last _ (lower a b s) = lower (at_last c a) b s
  writes_last _ (restart i a some most e) = restart i (at_last c a) some most e
  writes_last _ (now_keeps a) = now_keeps (at_last c a)
  writes_last _ (now_kept a) = now_kept (at_last c a)
  writes_last _ (restart_keeps i a some most e) = restart_keeps i (at_last c a) some most e
  writes_last _ (restart_kept i a some most e) = restart_kept i (at_last c a) some most e

pub attained_last : {n : ℕ} (c : Chart) {d : Chart} (D : Differences) {u v : Date} (S : Set D)
    → Attained D n d u v S → Attained D n (c ++ d) (past_date c u) (past_date c v) S
attained_last {n} c {d} D S h = attained_map n d (c ++ d) (past_date c) (writes_last c d) D S h

-- ── A part that never runs ──

pub never_first : (D : Differences) {n : ℕ} (c d : Chart) → Never D n c → Never D n (c ++ d)
never_first D {n} c d (u, π, h) = (u, chain_map n c (c ++ d) (λ u. u) (writes_first d) π, λ k. h (chain_map_allows n c (c ++ d) (λ u. u) (writes_first d) D π _ k))

pub never_last : (D : Differences) {n : ℕ} (c d : Chart) → Never D n d → Never D n (c ++ d)
never_last D {n} c d (u, π, h) =
    (past_date c u, chain_map n d (c ++ d) (past_date c) (writes_last c d) π, λ k. h (chain_map_allows n d (c ++ d) (past_date c) (writes_last c d) D π _ k))

-- Chains written as lists of codes: a test whether the codes lead from one date to another, and the bound that they give. Assumes nothing.
use Rattle.std.proofs.Common.{◌≡◌, ℕ, zero, suc, ◌<◌, ◌≤◌, Bool, true, false, not, ◌&&◌, T, eqb, ltb, leb, List, [], ◌∷◌, length, get_or, pos, neg_ℤ, Some, None, Option, sym, refl, ap, subst, le_of_suc-le-suc, arith, lit≤, eqb→eq, ltb→lt, leb→le}
use Rattle.bound.specs.Meaning.{Meaning, Laws}
use Rattle.chart.specs.declared.types.Sign.{Sign}
use Rattle.chart.specs.declared.types.Sign.TheVariants.{AtMost, Under, AtLeast, Over, Equal}
use Rattle.chart.specs.declared.types.Window.{Window}
use Rattle.chart.specs.Charts.{Motion, Chart, restarts_timer}
use Rattle.runs.specs.Lists.{At}
use Rattle.runs.specs.Lists.At.{here, later}
use Rattle.runs.specs.Graph.{Moment, before, MomentOf, Date, date, Limit, nought, UpperSign, LowerSign, Writes, Chain, Allowed}
use Rattle.runs.specs.Graph.Moment.{start, after_wait, after_restarts}
use Rattle.runs.specs.Graph.MomentOf.{of_start, of_wait, of_restarts}
use Rattle.runs.specs.Graph.UpperSign.{upper_at_most, upper_below, upper_exactly}
use Rattle.runs.specs.Graph.LowerSign.{lower_at_least, lower_above, lower_exactly}
use Rattle.runs.specs.Graph.Writes.{never_after_now, not_back, wait_keeps, wait_kept, upper, lower, restart, now_keeps, now_kept, restart_keeps, restart_kept}
use Rattle.runs.specs.Graph.Chain.{stop, by}

-- a written limit: j is the place of its motion, q the place of its window, i its timer
pub data Code : Type 0 where
  -- a date is not after now
  not_after_now : (k : Moment) (i : ℕ) → Code
  -- a wait does not put now back; a date is before it as after it, and after it as before it
  onward : (j : ℕ) → Code
  waits : (j i : ℕ) → Code
  waited : (j i : ℕ) → Code
  -- an upper window, and a lower one
  most : (j q : ℕ) → Code
  least : (j q : ℕ) → Code
  -- a restarted date is now; now is before the restarts as after them, and the other way round; and so is a date that is left
  restarts : (j i : ℕ) → Code
  goes_on : (j : ℕ) → Code
  went_on : (j : ℕ) → Code
  leaves : (j i : ℕ) → Code
  left : (j i : ℕ) → Code

-- ── Tests ──

pub both : (a b : Bool) → T (a && b) → T a × T b
both true b h = (tt, h)
both false b h = absurd h

pub is_true : (b : Bool) → T b → b ≡ true
is_true true h = refl
is_true false h = absurd h

pub is_false : (b : Bool) → T (not b) → b ≡ false
is_false true h = absurd h
is_false false h = refl

-- ── The limit of a code ──

abbrev no_motion : Motion
no_motion = record { windows = []; restarts = 0 }

abbrev no_window : Window
no_window = record { timer = 1; sign = AtMost; number = 0; some = lit≤ tt; most = lit≤ tt; range = lit≤ tt }

abbrev is_strict : Sign → Bool
is_strict AtMost = false
is_strict Under = true
is_strict AtLeast = false
is_strict Over = true
is_strict Equal = false

abbrev is_upper : Sign → Bool
is_upper AtMost = true
is_upper Under = true
is_upper AtLeast = false
is_upper Over = false
is_upper Equal = true

abbrev is_lower : Sign → Bool
is_lower AtMost = false
is_lower Under = false
is_lower AtLeast = true
is_lower Over = true
is_lower Equal = true

upper_sign : (s : Sign) → T (is_upper s) → UpperSign s (is_strict s)
upper_sign AtMost h = upper_at_most
upper_sign Under h = upper_below
upper_sign AtLeast h = absurd h
upper_sign Over h = absurd h
upper_sign Equal h = upper_exactly

lower_sign : (s : Sign) → T (is_lower s) → LowerSign s (is_strict s)
lower_sign AtMost h = absurd h
lower_sign Under h = absurd h
lower_sign AtLeast h = lower_at_least
lower_sign Over h = lower_above
lower_sign Equal h = lower_exactly

at_place : {A : Type 0} (xs : List A) (j : ℕ) (x : A) → j < length xs → At xs j (get_or xs j x)
at_place [] j x h = absurd (omega arith)
at_place (y ∷ xs) zero x h = here
at_place (y ∷ xs) (suc j) x h = later (at_place xs j x (le_of_suc-le-suc h))

module _ (n : ℕ) (c : Chart) where
  abbrev motion_at : ℕ → Motion
  motion_at j = get_or c j no_motion

  abbrev window_at : ℕ → ℕ → Window
  window_at j q = get_or (motion_at j).windows q no_window

  abbrev limit_of : Code → Limit
  limit_of (not_after_now k i) = nought (date k i) (date k 0)
  limit_of (onward j) = nought (date (before j) 0) (date (after_wait j) 0)
  limit_of (waits j i) = nought (date (before j) i) (date (after_wait j) i)
  limit_of (waited j i) = nought (date (after_wait j) i) (date (before j) i)
  limit_of (most j q) =
      record { from = date (after_wait j) 0; to = date (after_wait j) (window_at j q).timer; strict = is_strict (window_at j q).sign; number = pos (window_at j q).number }
  limit_of (least j q) =
      record { from = date (after_wait j) (window_at j q).timer; to = date (after_wait j) 0; strict = is_strict (window_at j q).sign; number = neg_ℤ (pos (window_at j q).number) }
  limit_of (restarts j i) = nought (date (after_restarts j) 0) (date (after_restarts j) i)
  limit_of (goes_on j) = nought (date (after_wait j) 0) (date (after_restarts j) 0)
  limit_of (went_on j) = nought (date (after_restarts j) 0) (date (after_wait j) 0)
  limit_of (leaves j i) = nought (date (after_wait j) i) (date (after_restarts j) i)
  limit_of (left j i) = nought (date (after_restarts j) i) (date (after_wait j) i)

  -- whether the chart has the motion, the timer and the window
  abbrev has_motion : ℕ → Bool
  has_motion j = ltb j (length c)

  abbrev has_timer : ℕ → Bool
  has_timer i = leb 1 i && leb i n

  abbrev has_moment : Moment → Bool
  has_moment start = true
  has_moment (after_wait j) = has_motion j
  has_moment (after_restarts j) = has_motion j

  abbrev has_window : (Sign → Bool) → ℕ → ℕ → Bool
  has_window side j q = has_motion j && (ltb q (length (motion_at j).windows) && side (window_at j q).sign)

  -- whether the chart writes the limit
  abbrev writes_it : Code → Bool
  writes_it (not_after_now k i) = has_moment k && has_timer i
  writes_it (onward j) = has_motion j
  writes_it (waits j i) = has_motion j && has_timer i
  writes_it (waited j i) = has_motion j && has_timer i
  writes_it (most j q) = has_window is_upper j q
  writes_it (least j q) = has_window is_lower j q
  writes_it (restarts j i) = has_motion j && (has_timer i && restarts_timer (motion_at j) i)
  writes_it (goes_on j) = has_motion j
  writes_it (went_on j) = has_motion j
  writes_it (leaves j i) = has_motion j && (has_timer i && not (restarts_timer (motion_at j) i))
  writes_it (left j i) = has_motion j && (has_timer i && not (restarts_timer (motion_at j) i))

  at_that_motion : (j : ℕ) → T (has_motion j) → At c j (motion_at j)
  at_that_motion j h = at_place c j no_motion (ltb→lt j (length c) h)

  at_moment : (k : Moment) → T (has_moment k) → MomentOf c k
  at_moment start h = of_start
  at_moment (after_wait j) h = of_wait (at_that_motion j h)
  at_moment (after_restarts j) h = of_restarts (at_that_motion j h)

  timer_some : (i : ℕ) → T (has_timer i) → 1 ≤ i
  timer_some i h = leb→le 1 i (both (leb 1 i) (leb i n) h).0

  timer_most : (i : ℕ) → T (has_timer i) → i ≤ n
  timer_most i h = leb→le i n (both (leb 1 i) (leb i n) h).1

  at_window : (j q : ℕ) → T (ltb q (length (motion_at j).windows)) → At (motion_at j).windows q (window_at j q)
  at_window j q h = at_place (motion_at j).windows q no_window (ltb→lt q (length (motion_at j).windows) h)

  pub writes : (k : Code) → T (writes_it k) → Writes n c (limit_of k)
  writes (not_after_now k i) h = let (m, t) = both (has_moment k) (has_timer i) h in never_after_now i (at_moment k m) (timer_some i t) (timer_most i t)
  writes (onward j) h = not_back (at_that_motion j h)
  writes (waits j i) h = let (m, t) = both (has_motion j) (has_timer i) h in wait_keeps i (at_that_motion j m) (timer_some i t) (timer_most i t)
  writes (waited j i) h = let (m, t) = both (has_motion j) (has_timer i) h in wait_kept i (at_that_motion j m) (timer_some i t) (timer_most i t)
  writes (most j q) h =
      let (m, r) = both (has_motion j) _ h in
      let (w, s) = both (ltb q (length (motion_at j).windows)) _ r in upper (at_that_motion j m) (at_window j q w) (upper_sign (window_at j q).sign s)
  writes (least j q) h =
      let (m, r) = both (has_motion j) _ h in
      let (w, s) = both (ltb q (length (motion_at j).windows)) _ r in lower (at_that_motion j m) (at_window j q w) (lower_sign (window_at j q).sign s)
  writes (restarts j i) h =
      let (m, r) = both (has_motion j) _ h in
      let (t, e) = both (has_timer i) _ r in restart i (at_that_motion j m) (timer_some i t) (timer_most i t) (is_true (restarts_timer (motion_at j) i) e)
  writes (goes_on j) h = now_keeps (at_that_motion j h)
  writes (went_on j) h = now_kept (at_that_motion j h)
  writes (leaves j i) h =
      let (m, r) = both (has_motion j) _ h in
      let (t, e) = both (has_timer i) _ r in restart_keeps i (at_that_motion j m) (timer_some i t) (timer_most i t) (is_false (restarts_timer (motion_at j) i) e)
  writes (left j i) h =
      let (m, r) = both (has_motion j) _ h in
      let (t, e) = both (has_timer i) _ r in restart_kept i (at_that_motion j m) (timer_some i t) (timer_most i t) (is_false (restarts_timer (motion_at j) i) e)

-- ── Chains of codes ──

abbrev same_moment : Moment → Moment → Bool
same_moment start start = true
same_moment start (after_wait j) = false
same_moment start (after_restarts j) = false
same_moment (after_wait j) start = false
same_moment (after_wait j) (after_wait k) = eqb j k
same_moment (after_wait j) (after_restarts k) = false
same_moment (after_restarts j) start = false
same_moment (after_restarts j) (after_wait k) = false
same_moment (after_restarts j) (after_restarts k) = eqb j k

moment_is : (k l : Moment) → T (same_moment k l) → k ≡ l
moment_is start start h = refl
moment_is start (after_wait j) h = absurd h
moment_is start (after_restarts j) h = absurd h
moment_is (after_wait j) start h = absurd h
moment_is (after_wait j) (after_wait k) h = ap after_wait (eqb→eq j k h)
moment_is (after_wait j) (after_restarts k) h = absurd h
moment_is (after_restarts j) start h = absurd h
moment_is (after_restarts j) (after_wait k) h = absurd h
moment_is (after_restarts j) (after_restarts k) h = ap after_restarts (eqb→eq j k h)

abbrev dates_same : Date → Date → Bool
dates_same u v = same_moment u.moment v.moment && eqb u.place v.place

date_is : (u v : Date) → T (dates_same u v) → u ≡ v
date_is u v h =
    let (k, p) = both (same_moment u.moment v.moment) (eqb u.place v.place) h in
    let e = moment_is u.moment v.moment k in
    let f = eqb→eq u.place v.place p in
    subst (λ m. date u.moment u.place ≡ date m v.place) e (ap (date u.moment) f)

-- whether the codes make a chain from u to v
abbrev pub leads : ℕ → Chart → Date → List Code → Date → Bool
leads n c u [] v = dates_same u v
leads n c u (k ∷ ks) v = dates_same u (limit_of n c k).from && (writes_it n c k && leads n c (limit_of n c k).to ks v)

module _ {B : Type 0} (m : Meaning B) where
  -- the sum of two bounds that were answered
  abbrev pub plus : Option B → Option B → Option B
  plus None b = None
  plus (Some a) None = None
  plus (Some a) (Some b) = m.sum a b

  none_some : {P : Type 0} (s : B) → None ≡ Some s → P
  none_some s e = let z : ◌≡◌ {A = ℕ} 0 1 = cc in absurd (omega arith)

  pub plus_some : (x y : Option B) (s : B) → plus x y ≡ Some s → (a : B) × (b : B) × (x ≡ Some a) × (y ≡ Some b) × (m.sum a b ≡ Some s)
  plus_some None y s e = none_some s e
  plus_some (Some a) None s e = none_some s e
  plus_some (Some a) (Some b) s e = (a, b, refl, refl, e)

  module _ (n : ℕ) (c : Chart) where
    -- the chain's bound: the sum of the bounds that the kind writes for its limits
    abbrev pub bound_of : List Code → Option B
    bound_of [] = m.written false (pos 0)
    bound_of (k ∷ ks) = plus (m.written (limit_of n c k).strict (limit_of n c k).number) (bound_of ks)

    -- a chain that allows no more than the codes' bound
    abbrev pub Coded : Date → Date → List Code → Type 0
    Coded u v ks =
        (π : Chain n c u v) × ((b : B) → bound_of ks ≡ Some b → (d : m.differences.Diff) → Allowed m.differences π d → m.allows b d)

    coded_more : Laws m → (k : Code) (ks : List Code) (v : Date) → T (writes_it n c k) → Coded (limit_of n c k).to v ks → Coded (limit_of n c k).from v (k ∷ ks)
    coded_more laws k ks v h (ρ, allowed) = (
      by (writes n c k h) ρ,
      λ b is d (e, f, he, hf, s).
          let (a, r, is_a, is_r, sum) = plus_some (m.written (limit_of n c k).strict (limit_of n c k).number) (bound_of ks) b is in
          (laws.sum_allows a r b sum d).1 (e, f, (laws.written_allows (limit_of n c k).strict (limit_of n c k).number a is_a e).1 he, allowed r is_r f hf, s),
    )

    -- CODED: codes that lead from u to v make such a chain.
    pub coded : Laws m → (ks : List Code) (u v : Date) → T (leads n c u ks v) → Coded u v ks
    coded laws [] u v h = subst (λ w. Coded u w []) (date_is u v h) (stop, λ b is d k. (laws.written_allows false (pos 0) b is d).1 k)
    coded laws (k ∷ ks) u v h =
        let (from, r) = both (dates_same u (limit_of n c k).from) _ h in
        let (written, rest) = both (writes_it n c k) _ r in
        subst (λ w. Coded w v (k ∷ ks)) (sym (date_is u (limit_of n c k).from from)) (coded_more laws k ks v written (coded laws ks (limit_of n c k).to v rest))

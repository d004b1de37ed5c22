-- The worked charts: for each claim the chains and the runs that show it. Assumes nothing.
use Rattle.std.proofs.Common.{ℕ, zero, suc, pred, ◌+◌, ◌≤◌, Bool, true, false, ◌⊎◌, List, [], ◌∷◌, ◌++◌, ℤ, pos, nat_abs, ◌≤ℤ◌, refl, inl, inr, arith, lit≤}
use lib.Signed.{le_z_yes}
use borrow.Author.Differences.{ints}
use Rattle.bound.specs.Differences.{Less, Ordered, zero_of}
use Rattle.bound.specs.Ticks.{ticks, tick_meaning}
use Rattle.bound.specs.Edges.{Fraction, fractions, fraction_le, fraction_whole, edge_meaning}
use Rattle.bound.specs.declared.tick.Tick.TheVariants.{Open, AtMost}
use Rattle.bound.specs.Groups.{≤_trans}
use Rattle.bound.specs.Solver.{◌⊞◌, ◌⊟◌, nil, v0, v1, le_from}
use Rattle.bound.specs.Strict.{le_less, less_le}
use Rattle.bound.specs.Ticking as ticking
use Rattle.bound.specs.Edging as edging
use Rattle.runs.specs.Runs.{Lawful, SameReading, Reading, Run, Joins, HasRun}
use Rattle.runs.specs.Graph.{date}
use Rattle.runs.specs.Graph.Moment.{start, after_wait, after_restarts}
use Rattle.runs.specs.Limits.{NameOf, Before, value_of, Sharp}
use Rattle.runs.specs.Worked.{empty, plain_wait, five_then_three, two_to_three, rounds, ChartWithin, Compared, ChartFailsFirst, SpanIs, name, at_most_minus, under_three, WorkedCharts}
use Rattle.runs.proofs.ChainCodes.{Code, Coded, coded}
use Rattle.runs.proofs.ChainCodes.Code.{not_after_now, onward, waits, waited, most, least, restarts, goes_on, went_on, leaves, left}
use Rattle.runs.proofs.RunCodes.{reading, reading_lawful, end_by, time_by, Passes, goes_by, run_by}
use Rattle.runs.proofs.Certified.{ending, time_allowed, negated_allowed, never_by, kept_by, sharp_reached, sharp_by, runs_by}

-- how the two chains of a limit are paired: each at one end of the chart, or each across it
abbrev straight : Bool
straight = true

abbrev crossed : Bool
crossed = false

-- ── The empty chart and a plain wait ──

-- a wait of 0 serves
empty_within : ChartWithin ticks 1 empty plain_wait
empty_within σ ε (t, (lawful, (same, _))) =
    (pos 0, (lawful, (pos 0, pos 0, le_z_yes tt, tt, (le_z_yes tt, le_z_yes tt), (same_after, (le_z_yes tt, le_z_yes tt)))))
  where
    same_after : SameReading ticks 1 (end_by ticks plain_wait σ (pos 0 ∷ [])) ε
    same_after zero h = same 0 h
    same_after (suc zero) h = let (p, q) = same 1 h in (omega (arith, ints), omega (arith, ints))
    same_after (suc (suc i)) h = absurd (omega arith)

-- the empty chart's end is its start, and a plain wait's end is as late as one likes
empty_open : Sharp tick_meaning 1 empty (name 0 0 1 0) Open
empty_open =
    sharp_reached ticking.lawful (λ σ ε j. tt)
    (λ d _. (reading (nat_abs d ∷ []), reading (nat_abs d ∷ []), (pos 0, run_by 1 empty (nat_abs d ∷ []) [] tt), omega (arith, ints)))

wait_open : (b : ℕ) → b ≤ 1 → Sharp tick_meaning 1 plain_wait (name 0 b 1 0) Open
wait_open b h =
    sharp_reached ticking.lawful (λ σ ε j. tt)
    (λ d _. (
      reading (0 ∷ []),
      end_by ticks plain_wait (reading (0 ∷ [])) (pos (nat_abs d) ∷ []),
      (time_by ticks plain_wait (pos (nat_abs d) ∷ []), run_by 1 plain_wait (0 ∷ []) (nat_abs d ∷ []) tt),
      reached b h d,
    ))
  where
    reached : (b : ℕ) → b ≤ 1 → (d : ℤ) → d ≤ℤ value_of ticks (name 0 b 1 0) (reading (0 ∷ [])) (end_by ticks plain_wait (reading (0 ∷ [])) (pos (nat_abs d) ∷ []))
    reached zero h d = omega (arith, ints)
    reached (suc zero) h d = omega (arith, ints)
    reached (suc (suc b)) h d = absurd (omega arith)

-- a date is not after now: at the start, and at the end of the wait
at_start : List Code
at_start = not_after_now start 1 ∷ []

at_end : List Code
at_end = not_after_now (after_restarts 0) 1 ∷ []

wait_fails_first : ChartFailsFirst tick_meaning 1 plain_wait empty (name 0 1 1 0)
unfolding at_start at_end
wait_fails_first =
    record {
      named = record { a_most = lit≤ tt; b_most = lit≤ tt; c_most = lit≤ tt; d_most = lit≤ tt; proper = record { first = λ e. refl; second = λ e. absurd (omega arith); some = λ e. omega arith } };
      before = λ k of before. earlier k.a k.b k.c k.d of before;
      here = (Open, AtMost (pos 0), wait_open 1 (lit≤ tt), sharp_by crossed [] [] (0 ∷ []) [] tt, refl);
    }
  where
    earlier : (a b c d : ℕ) → NameOf 1 (name a b c d) → Before (name a b c d) (name 0 1 1 0) → Compared tick_meaning 1 plain_wait empty (name a b c d) true
    earlier zero zero zero zero of before = absurd (of.proper.some refl)
    earlier zero zero zero (suc zero) of before = (
      AtMost (pos 0),
      AtMost (pos 0),
      sharp_by straight [] at_end (0 ∷ []) (0 ∷ []) tt,
      sharp_by straight [] at_start (0 ∷ []) [] tt,
      refl,
    )
    earlier zero zero (suc zero) zero of before = (Open, Open, wait_open 0 (lit≤ tt), empty_open, refl)
    earlier zero zero (suc zero) (suc zero) of before = let e = of.proper.second refl in absurd (omega arith)
    earlier zero (suc zero) zero zero of before = (
      AtMost (pos 0),
      AtMost (pos 0),
      sharp_by straight at_start [] (0 ∷ []) (0 ∷ []) tt,
      sharp_by straight at_start [] (0 ∷ []) [] tt,
      refl,
    )
    earlier zero (suc zero) zero (suc zero) of before = (
      AtMost (pos 0),
      AtMost (pos 0),
      sharp_by straight at_start at_end (0 ∷ []) (0 ∷ []) tt,
      sharp_by straight at_start at_start (0 ∷ []) [] tt,
      refl,
    )
    earlier zero zero zero (suc (suc d)) of before = absurd (omega (arith, of.d_most))
    earlier zero zero (suc zero) (suc (suc d)) of before = absurd (omega (arith, of.d_most))
    earlier zero zero (suc (suc c)) d of before = absurd (omega (arith, of.c_most))
    earlier zero (suc zero) zero (suc (suc d)) of before = absurd (omega (arith, of.d_most))
    earlier zero (suc zero) (suc c) d of before = absurd (omega (arith, before))
    earlier zero (suc (suc b)) c d of before = absurd (omega (arith, of.b_most))
    earlier (suc a) b c d of before = absurd (omega (arith, before))

-- ── Five, restart, three ──

-- now at the start less the timer's date then: at most 5
five : List Code
five = onward 0 ∷ most 0 0 ∷ waited 0 1 ∷ []

-- the timer's date at the end less now then: at most −3
three : List Code
three = left 1 1 ∷ least 1 0 ∷ goes_on 1 ∷ []

-- now at the start less now at the end: at most −3
three_later : List Code
three_later = onward 0 ∷ goes_on 0 ∷ restarts 0 1 ∷ waits 1 1 ∷ least 1 0 ∷ goes_on 1 ∷ []

five_span : SpanIs tick_meaning 1 five_then_three Open (at_most_minus 3)
unfolding three_later
five_span = (
  (λ π d _. time_allowed o 1 five_then_three σ (time_by ticks five_then_three (long d)) (ε (long d)) (long_run d) π d (omega (arith, ints)), inr (λ d. tt)),
  (
    λ π d h. negated_allowed o 1 five_then_three σ (pos 3) (ε (pos 0 ∷ pos 3 ∷ [])) (run_by 1 five_then_three (5 ∷ []) (0 ∷ 3 ∷ []) tt) π d h,
    inl (chain.0, λ d h. chain.1 (at_most_minus 3) refl d h),
  ),
)
  where
    o : Ordered ticks
    o = (ticking.lawful).ordered

    σ : Reading ticks
    σ = reading (5 ∷ [])

    ε : List ℤ → Reading ticks
    ε ws = end_by ticks five_then_three σ ws

    chain : Coded tick_meaning 1 five_then_three (date start 0) (ending five_then_three 0) three_later
    chain = coded tick_meaning 1 five_then_three ticking.lawful three_later (date start 0) (ending five_then_three 0) tt

    -- the last wait is as long as one likes
    long : ℤ → List ℤ
    long d = pos 0 ∷ pos (3 + nat_abs d) ∷ []

    long_passes : (d : ℤ) → Passes ticks five_then_three σ (long d)
    long_passes d = (le_z_yes tt, (le_z_yes tt, tt), (omega (arith, ints), (omega (arith, ints), tt), tt))

    long_run : (d : ℤ) → Run ticks 1 five_then_three σ (time_by ticks five_then_three (long d)) (ε (long d))
    long_run d = (reading_lawful 1 (5 ∷ []), goes_by ticks o 1 five_then_three σ (long d) (long_passes d))

-- ── Between two and three, in fractions ──

five_halves : Fraction
five_halves = record { top = pos 5; bottom = 2; positive = lit≤ tt }

abbrev Between : Fraction → Type 0
Between w = Less fractions (fraction_whole (pos 2)) w × Less fractions w (fraction_whole (pos 3))

between_halves : Between five_halves
unfolding five_halves
between_halves = (
  (record { crosswise = le_z_yes tt }, λ h. h.crosswise.le),
  (record { crosswise = le_z_yes tt }, λ h. h.crosswise.le),
)

-- the larger of d and 5 over 2
between_above : (d : Fraction) → Less fractions d (fraction_whole (pos 3)) → (w : Fraction) × fraction_le d w × Between w
between_above d h = go (o.total d five_halves)
  where
    o : Ordered fractions
    o = (edging.lawful).ordered

    go : fraction_le d five_halves ⊎ fraction_le five_halves d → (w : Fraction) × fraction_le d w × Between w
    go (inl k) = (five_halves, k, between_halves)
    go (inr k) = (d, o.le_refl d, (less_le o (fraction_whole (pos 2)) five_halves d between_halves.0 k, h))

-- the timer stands at w, and the motion waits 0
abbrev standing : Fraction → Reading fractions
standing w i = w

abbrev no_wait : List Fraction
no_wait = zero_of fractions ∷ []

abbrev stood : Fraction → Reading fractions
stood w = end_by fractions two_to_three (standing w) no_wait

between_run : (w : Fraction) → Between w → Joins fractions 1 two_to_three (standing w) (stood w)
between_run w (over, under) = (time_by fractions two_to_three no_wait, (lawful, goes_by fractions o 1 two_to_three (standing w) no_wait passes))
  where
    o : Ordered fractions
    o = (edging.lawful).ordered

    lawful : Lawful fractions 1 (standing w)
    lawful zero h = o.le_refl (zero_of fractions)
    lawful (suc i) h = ≤_trans o ((o.whole_le (pos 0) (pos 2)).0 (le_z_yes tt)) over.0

    passes : Passes fractions two_to_three (standing w) no_wait
    passes = (
      o.le_refl (zero_of fractions),
      (less_le o (fraction_whole (pos 2)) w _ over (o.add_zero w).1, (le_less o _ w (fraction_whole (pos 3)) (o.add_zero w).0 under, tt)),
      tt,
    )

between_runs : HasRun fractions 1 two_to_three
between_runs = (standing five_halves, stood five_halves, between_run five_halves between_halves)

between_sharp : Sharp edge_meaning 1 two_to_three (name 0 0 1 0) under_three
between_sharp =
    sharp_reached edging.lawful
    (kept_by edge_meaning edging.lawful 1 two_to_three (name 0 0 1 0) under_three straight [] (went_on 0 ∷ most 0 1 ∷ leaves 0 1 ∷ []) tt)
    (λ d h. let (w, above, between) = between_above d h in
    (standing w, stood w, between_run w between, le_from (edging.lawful).ordered (d ∷ w ∷ []) v0 (nil ⊟ nil ⊞ (v1 ⊞ nil ⊟ nil)) v0 v1 refl above))

-- ── Rounds of two timers ──

-- from timer 1's date after the round that begins at place j to its date before it: at most 7
back : ℕ → List Code
back j = left (suc j) 1 ∷ waited (suc j) 1 ∷ not_after_now (after_restarts j) 1 ∷ went_on j ∷ most j 0 ∷ waited j 1 ∷ []

-- from timer 2's date before the round to now after it: at most −9
forth : ℕ → List Code
forth j = waits j 2 ∷ leaves j 2 ∷ waits (suc j) 2 ∷ least (suc j) 0 ∷ goes_on (suc j) ∷ []

-- the same from now, which is timer 2's date after the round before
forth_again : ℕ → List Code
forth_again j = restarts (pred j) 2 ∷ forth j

-- closed: in the sixth round back to the end of the first, and forth again
six_rounds : List Code
six_rounds =
    most 10 0 ∷ waited 10 1 ∷ back 8 ++ back 6 ++ back 4 ++ back 2 ++ not_after_now (after_restarts 1) 1
    ∷ forth_again 2 ++ forth_again 4 ++ forth_again 6 ++ forth_again 8 ++ onward 10 ∷ []

-- ── All of them ──

-- one proof and the rest
infixr 20 ◌&◌
◌&◌ : {P Q : Type 0} → P → Q → P × Q
p & q = (p, q)

pub worked_charts : WorkedCharts
unfolding five three back forth forth_again six_rounds
worked_charts =
    sharp_by crossed [] [] (0 ∷ []) [] tt
    & empty_within
    & wait_fails_first
    & sharp_by straight five [] (5 ∷ []) (0 ∷ 3 ∷ []) tt
    & sharp_by straight [] three (5 ∷ []) (0 ∷ 3 ∷ []) tt
    & sharp_by straight five three (5 ∷ []) (0 ∷ 3 ∷ []) tt
    & five_span
    & never_by ticking.lawful (date (after_wait 0) 1) (least 0 0 ∷ goes_on 0 ∷ onward 1 ∷ most 1 0 ∷ waited 1 1 ∷ left 0 1 ∷ []) tt
    & never_by ticking.lawful (date (after_wait 0) 0) (most 0 0 ∷ not_after_now (after_wait 0) 1 ∷ []) tt
    & never_by edging.lawful (date (after_wait 0) 0) (most 0 0 ∷ not_after_now (after_wait 0) 1 ∷ []) tt
    & never_by ticking.lawful (date (after_wait 0) 0) (most 0 1 ∷ least 0 0 ∷ []) tt
    & between_runs
    & between_sharp
    & sharp_by crossed (back 0) (forth 0) (7 ∷ 9 ∷ []) (0 ∷ 0 ∷ []) tt
    & sharp_by crossed (back 2 ++ back 0) (forth 0 ++ forth_again 2) (7 ∷ 9 ∷ []) (0 ∷ 0 ∷ 7 ∷ 2 ∷ []) tt
    & runs_by 2 (rounds 5) (7 ∷ 9 ∷ []) (0 ∷ 0 ∷ 7 ∷ 2 ∷ 5 ∷ 4 ∷ 3 ∷ 6 ∷ 1 ∷ 8 ∷ []) tt
    & never_by ticking.lawful (date (after_wait 10) 0) six_rounds tt
    & tt

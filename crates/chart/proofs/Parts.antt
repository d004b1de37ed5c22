-- A window by its parts: which fault it has, or that it is read. Assumes nothing.
use Rattle.std.proofs.Common.{◌≡◌, ℕ, ◌+◌, ◌<◌, ◌≤◌, Some, None, Ok, Err, Option, Result, ap, ◌∙◌, le_trans, arith}
use mathlib.Core.HLevel.{is_prop→PathP}
use native.Mathlib.Bridge.{le_prop}
use Rattle.chart.specs.declared.types.Timers.{Timers}
use Rattle.chart.specs.declared.types.Sign.{Sign}
use Rattle.chart.specs.declared.types.Window.{Window}
use Rattle.chart.specs.declared.types.MotionFault.{MotionFault}
use Rattle.chart.specs.declared.types.MotionFault.TheVariants as fault
use Rattle.chart.specs.Reading.{sign_of, signed, window_by}
use Rattle.chart.proofs.Ranges.{le_met, le_unmet, within_met, within_under, within_over}

module _ (n : Timers) (timer byte number at : ℕ) where
  -- what is looked at once the timer is one of the machine's
  abbrev rest : 1 ≤ timer → timer ≤ n.count → Result Window MotionFault
  rest some most = signed timer number at some (le_trans most n.most) (sign_of byte)

  pub timer_none : timer < 1 → window_by n timer byte number at ≡ Err (fault.Timer at)
  timer_none h = within_under 1 n.count timer rest (Err (fault.Timer at)) h

  pub timer_above : n.count < timer → window_by n timer byte number at ≡ Err (fault.Timer at)
  timer_above h = within_over 1 n.count timer rest (Err (fault.Timer at)) (omega (arith, n.some)) h

  module _ (some : 1 ≤ timer) (most : timer ≤ n.count) where
    by_sign : (s : Option Sign) → sign_of byte ≡ s → window_by n timer byte number at ≡ signed timer number at some (le_trans most n.most) s
    by_sign s e = within_met 1 n.count timer rest (Err (fault.Timer at)) some most ∙ ap (signed timer number at some (le_trans most n.most)) e

    pub sign_none : sign_of byte ≡ None → window_by n timer byte number at ≡ Err (fault.Sign (at + 1))
    sign_none e = by_sign None e

    module _ (s : Sign) (e : sign_of byte ≡ Some s) where
      abbrev made : number ≤ 1000000000 → Result Window MotionFault
      made range = Ok (record { timer = timer; sign = s; number = number; some = some; most = le_trans most n.most; range = range })

      pub number_above : 1000000000 < number → window_by n timer byte number at ≡ Err (fault.Number (at + 2))
      number_above h = by_sign (Some s) e ∙ le_unmet number 1000000000 made (Err (fault.Number (at + 2))) h

      pub window_made : (range : number ≤ 1000000000) → window_by n timer byte number at ≡ made range
      window_made h = by_sign (Some s) e ∙ le_met number 1000000000 made (Err (fault.Number (at + 2))) h

-- two windows are the same where their parts are
pub same_window : (v w : Window) → v.timer ≡ w.timer → v.sign ≡ w.sign → v.number ≡ w.number → v ≡ w
same_window v w t s c =
    λ i. record {
      timer = t i;
      sign = s i;
      number = c i;
      some = is_prop→PathP (λ j. 1 ≤ t j) (λ j. le_prop) v.some w.some i;
      most = is_prop→PathP (λ j. t j ≤ 8) (λ j. le_prop) v.most w.most i;
      range = is_prop→PathP (λ j. c j ≤ 1000000000) (λ j. le_prop) v.range w.range i;
    }

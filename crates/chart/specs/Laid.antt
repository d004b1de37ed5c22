-- How motions are laid out in bytes. Assumes nothing.
use Rattle.std.specs.Prelude.{◌≡◌, ℕ, List, [], ◌∷◌, ◌++◌, length}
use Rattle.chart.specs.declared.types.Sign.{Sign}
use Rattle.chart.specs.declared.types.Sign.TheVariants.{AtMost, Under, AtLeast, Over, Equal}
use Rattle.chart.specs.declared.types.Window.{Window}
use Rattle.chart.specs.Bytes.{four_bytes}
use Rattle.chart.specs.Charts.{Motion, Chart, MotionOf}

-- ≤ < ≥ > = are 1 to 5
abbrev pub sign_byte : Sign → ℕ
sign_byte AtMost = 1
sign_byte Under = 2
sign_byte AtLeast = 3
sign_byte Over = 4
sign_byte Equal = 5

-- a window: timer, sign, number
abbrev pub window_bytes : Window → List ℕ
window_bytes w = w.timer ∷ sign_byte w.sign ∷ four_bytes w.number

abbrev pub windows_bytes : List Window → List ℕ
windows_bytes [] = []
windows_bytes (w ∷ ws) = window_bytes w ++ windows_bytes ws

-- a motion: the number of its windows, its restarts, its windows
abbrev pub motion_bytes : Motion → List ℕ
motion_bytes m = length m.windows ∷ m.restarts ∷ windows_bytes m.windows

-- a chart: its motions, one after the other
abbrev pub chart_bytes : Chart → List ℕ
chart_bytes [] = []
chart_bytes (m ∷ ms) = motion_bytes m ++ chart_bytes ms

-- the bytes are those of a motion of n timers, `used` many, and then the rest
pub record Laid (n : ℕ) (bytes : List ℕ) (m : Motion) (used : ℕ) : Type 0 where
  pub rest : List ℕ
  pub whole : bytes ≡ motion_bytes m ++ rest
  pub size : used ≡ length (motion_bytes m)
  pub fits : MotionOf n m

-- What a board stands for, and what the calls that are accepted make of it: from their arguments alone. Assumes nothing.
use Rattle.std.specs.Prelude.{ℕ, List, [], ◌∷◌, ◌++◌, Some, None, Ok, Err, Option, Result}
use Rattle.chart.specs.declared.types.Timers.{Timers}
use Rattle.chart.specs.declared.types.MotionFault.{MotionFault}
use Rattle.chart.specs.Charts.{Motion, Chart}
use Rattle.chart.specs.Ranges.{timers_of}
use Rattle.chart.specs.Reading.{motion_of}

-- a board just made has no chart; an opened one has timers and a chart
pub data Standing : Type 0 where
  blank : Standing
  charted : Timers → Chart → Standing

-- an accepted open gives the empty chart, whatever the board had before
abbrev pub with_timers : Standing → Option Timers → Standing
with_timers s None = s
with_timers s (Some n) = charted n []

abbrev pub opened : ℕ → Standing → Standing
opened n s = with_timers s (timers_of n)

-- an accepted motion adds the motion read to the chart's end
abbrev pub with_motion : Timers → Chart → Result (Motion × ℕ) MotionFault → Chart
with_motion n c (Ok (m, used)) = c ++ m ∷ []
with_motion n c (Err e) = c

abbrev pub moved : List ℕ → Standing → Standing
moved bytes blank = blank
moved bytes (charted n c) = charted n (with_motion n c (motion_of n bytes))

-- an accepted join adds the chart that the other board has
abbrev pub joined : Standing → Standing → Standing
joined blank other = blank
joined (charted n c) blank = charted n c
joined (charted n c) (charted k d) = charted n (c ++ d)

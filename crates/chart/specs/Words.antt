-- What is said of windows and motions, in words. Assumes nothing.
use Rattle.std.specs.Prelude.{ℕ, zero, suc, ◌+◌, Bool, true, false, cond, List, [], ◌∷◌, ◌++◌, codes, decimal}
use Rattle.chart.specs.declared.types.Sign.{Sign}
use Rattle.chart.specs.declared.types.Sign.TheVariants.{AtMost, Under, AtLeast, Over, Equal}
use Rattle.chart.specs.declared.types.Window.{Window}
use Rattle.chart.specs.Charts.{Motion, restarts_timer}

abbrev pub sign_words : Sign → List ℕ
sign_words AtMost = codes "at most"
sign_words Under = codes "under"
sign_words AtLeast = codes "at least"
sign_words Over = codes "over"
sign_words Equal = codes "exactly"

-- "timer 1 at least 3"
abbrev pub window_words : Window → List ℕ
window_words w = codes "timer " ++ (decimal w.timer ++ (codes " " ++ (sign_words w.sign ++ (codes " " ++ decimal w.number))))

-- each window, and a semicolon after it
unfoldable pub windows_words : List Window → List ℕ
windows_words [] = []
windows_words (w ∷ ws) = window_words w ++ (codes "; " ++ windows_words ws)

-- the restarted timers from timer i on, `left` of them; `first` says that none was named before: "timer 1, timer 3", or "none"
abbrev pub separator : Bool → List ℕ
separator true = []
separator false = codes ", "

unfoldable pub restarts_from : Motion → (left i : ℕ) → (first : Bool) → List ℕ
restarts_from m zero i first = cond first (codes "none") []
restarts_from m (suc left) i first =
    cond (restarts_timer m i)
    (separator first ++ (codes "timer " ++ (decimal i ++ restarts_from m left (i + 1) false)))
    (restarts_from m left (i + 1) first)

-- "timer 1 at least 3; restarts none"
abbrev pub parts_words : Motion → List ℕ
parts_words m = windows_words m.windows ++ (codes "restarts " ++ restarts_from m 8 1 true)

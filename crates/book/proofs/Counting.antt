-- One motion of a chart's part after the other. Assumes nothing.
use Rattle.std.proofs.Common.{◌≡◌, ℕ, zero, suc, ◌+◌, ◌-◌, ◌<◌, ◌≤◌, Bool, true, false, cond, leb, List, [], ◌∷◌, length, get_or, take, drop, map, Ok, Err, Result, refl, sym, ap, ◌∙◌, ⊎_elim, arith, get_or-drop}
use Rattle.std.proofs.lemmas.Bool.{cond-true, cond-false, le-leb, lt-leb, lt-ltb, cases_lt}
use Rattle.std.specs.Result.{result_map_both}
use Rattle.chart.specs.declared.types.Timers.{Timers}
use Rattle.chart.specs.declared.types.MotionFault.{MotionFault}
use Rattle.chart.specs.Charts.{Motion, Chart}
use Rattle.chart.specs.Reading.{motion_of}
use Rattle.faults.specs.declared.types.AtMotion.{AtMotion}
use Rattle.faults.specs.declared.types.BoardFault.TheVariants as board
use Rattle.faults.specs.declared.types.ChartFault.{ChartFault}
use Rattle.faults.specs.declared.types.ChartFault.TheVariants.{Board}
use Rattle.faults.specs.declared.types.BookFault.{BookFault}
use Rattle.book.specs.declared.head.Head.{Head}
use Rattle.book.specs.Layout.{place_of}
use Rattle.book.specs.Parts.{head_of, at_motion, onward, motions_from, chart_by, count_by, count_of}
use Rattle.book.specs.Reads.{Read, first, reads_from, placed, in_chart, in_book, opened, opened_at, motions_of}

pub motions_end : (most : ℕ) (n : Timers) (part : List ℕ) (at k : ℕ) → length part ≤ at → motions_from most n part at k ≡ Ok []
unfolding motions_from
motions_end zero n part at k h = refl
motions_end (suc most) n part at k h = cond-true _ _ _ (le-leb (length part) at h)

pub motions_step : (most : ℕ) (n : Timers) (part : List ℕ) (at k : ℕ) → 0 < most → at < length part → (r : Result (Motion × ℕ) MotionFault) → motion_of n (drop at part) ≡ r
    → motions_from most n part at k ≡ onward k at r (λ used. motions_from (most - 1) n part (at + used) (k + 1))
unfolding motions_from
motions_step most n part at k some inside r e =
    let rest : ℕ → Result Chart AtMotion = λ used. motions_from (most - 1) n part (at + used) (k + 1) in
    let s : most ≡ suc (most - 1) = omega arith in
    ap (λ (m : ℕ). motions_from m n part at k) s ∙ cond-false _ _ _ (lt-leb (length part) at inside)
    ∙ ap (λ (q : Result (Motion × ℕ) MotionFault). onward k at q rest) e

pub reads_end : (most : ℕ) (n : Timers) (part : List ℕ) (at k : ℕ) → length part ≤ at → reads_from most n part at k ≡ []
unfolding reads_from
reads_end zero n part at k h = refl
reads_end (suc most) n part at k h = cond-true _ _ _ (le-leb (length part) at h)

pub reads_step : (most : ℕ) (n : Timers) (part : List ℕ) (at k : ℕ) → 0 < most → at < length part → (r : Result (Motion × ℕ) MotionFault) → motion_of n (drop at part) ≡ r
    → reads_from most n part at k ≡ first k at r (λ used. reads_from (most - 1) n part (at + used) (k + 1))
unfolding reads_from
reads_step most n part at k some inside r e =
    let rest : ℕ → List (Read AtMotion) = λ used. reads_from (most - 1) n part (at + used) (k + 1) in
    let s : most ≡ suc (most - 1) = omega arith in
    ap (λ (m : ℕ). reads_from m n part at k) s ∙ cond-false _ _ _ (lt-leb (length part) at inside)
    ∙ ap (λ (q : Result (Motion × ℕ) MotionFault). first k at q rest) e

pub small_after : (bs : List ℕ) → ((i : ℕ) → get_or bs i 0 < 256) → (at i : ℕ) → get_or (drop at bs) i 0 < 256
small_after bs small at i = rw get_or-drop (small (at + i))

-- a head has two bytes
pub head_long : (part : List ℕ) (h : Head) → head_of part ≡ Ok h → 2 ≤ length part
head_long part h e =
    ⊎_elim (λ (q : length part < 2). absurd (go q)) (λ (q : 2 ≤ length part). q) (cases_lt (length part) 2)
  where
    go : length part < 2 → ⊥
    go q = let z = sym (cond-true _ _ _ (lt-ltb (length part) 2 q)) ∙ e in grind arith

-- the number of the last motion, or the fault after it, where k came before
abbrev pub last_of : {E : Type 0} → ℕ → List (Read E) → Result ℕ E
last_of k [] = Ok k
last_of k (Ok (j, m) ∷ xs) = last_of j xs
last_of k (Err e ∷ xs) = Err e

module _ (c start : ℕ) (n : Timers) (part : List ℕ) where
  abbrev told : AtMotion → BookFault
  told e = in_chart c start (Board e)

  -- how many motions there are, after k
  abbrev counted : ℕ → Result Chart AtMotion → Result ℕ BookFault
  counted k r = result_map_both (λ ms. k + length ms) told r

  shifted : (k : ℕ) (m : Motion) (r : Result Chart AtMotion) → counted (k + 1) r ≡ counted k (result_map_both (λ ms. m ∷ ms) (λ e. e) r)
  shifted k m (Ok ms) = ap Ok (omega arith)
  shifted k m (Err e) = refl

  module _ (at k : ℕ) (reads : ℕ → List (Read AtMotion)) (motions : ℕ → Result Chart AtMotion) (ih : (used : ℕ) → last_of (k + 1) (map (in_book c start) (reads used)) ≡ counted (k + 1) (motions used)) where
    one : (r : Result (Motion × ℕ) MotionFault) → last_of k (map (in_book c start) (first k at r reads)) ≡ counted k (onward k at r motions)
    one (Err e) = refl
    one (Ok p) = ih p.1 ∙ shifted k p.0 (motions p.1)

    here : (b : Bool) (r : Result (Motion × ℕ) MotionFault) → last_of k (map (in_book c start) (cond b [] (first k at r reads))) ≡ counted k (cond b (Ok []) (onward k at r motions))
    here true r = ap Ok (omega arith)
    here false r = one r

  pub last_read : (most at k : ℕ) → last_of k (map (in_book c start) (reads_from most n part at k)) ≡ counted k (motions_from most n part at k)
  unfolding reads_from motions_from
  last_read zero at k = ap Ok (omega arith)
  last_read (suc most) at k =
      here at k (λ used. reads_from most n part (at + used) (k + 1)) (λ used. motions_from most n part (at + used) (k + 1)) (λ used. last_read most (at + used) (k + 1)) (leb (length part) at) (motion_of n (drop at part))

-- what was opened has as many motions as the chart, or its first fault
abbrev pub all_of : Result (Head × List (Read BookFault)) BookFault → Result ℕ BookFault
all_of (Err e) = Err e
all_of (Ok (h, xs)) = last_of 0 xs

module _ (c start : ℕ) (part : List ℕ) where
  by_head : (r : Result Head ChartFault) → all_of (opened c start part r) ≡ result_map_both (λ n. n) (in_chart c start) (result_map_both {T = Head × Chart} (λ p. length p.1) (λ e. e) (chart_by part r))
  by_head (Err e) = refl
  by_head (Ok h) = last_read c start h.timers part (length part) 2 0 ∙ plain (motions_from (length part) h.timers part 2 0)
    where
      plain : (r : Result Chart AtMotion) → counted c start h.timers part 0 r ≡ result_map_both (λ n. n) (in_chart c start) (result_map_both {T = Head × Chart} (λ p. length p.1) (λ e. e) (result_map_both (λ ms. (h, ms)) Board r))
      plain (Ok ms) = ap Ok (omega arith)
      plain (Err e) = refl

pub all_counted : (bytes : List ℕ) (c : ℕ) (r : Result (Head × List (Read BookFault)) BookFault) → r ≡ motions_of bytes c → all_of r ≡ count_of bytes c
all_counted bytes c r e = ap all_of e ∙ by_place (place_of bytes c)
  where
    by_place : (p : Result (ℕ × ℕ) BookFault) → all_of (opened_at bytes c p) ≡ count_by bytes c p
    by_place (Err f) = refl
    by_place (Ok p) = let part = take p.1 (drop p.0 bytes) in by_head c p.0 part (head_of part)

-- what is still to come of a part, at byte `at` after k motions
module _ (c start : ℕ) (n : Timers) (part : List ℕ) where
  abbrev pub coming_at : (at k : ℕ) → List (Read BookFault)
  coming_at at k = map (in_book c start) (reads_from (length part - k) n part at k)

  pub coming_end : (at k : ℕ) → length part ≤ at → coming_at at k ≡ []
  coming_end at k h = ap (map (in_book c start)) (reads_end (length part - k) n part at k h)

  module _ (at k : ℕ) (few : k + 2 ≤ at) (inside : at < length part) where
    pub coming_ok : (m : Motion) (used : ℕ) → motion_of n (drop at part) ≡ Ok (m, used) → coming_at at k ≡ Ok (k + 1, m) ∷ coming_at (at + used) (k + 1)
    coming_ok m used e =
        let less : length part - k - 1 ≡ length part - (k + 1) = omega arith in
        ap (map (in_book c start)) (reads_step (length part - k) n part at k (omega arith) inside (Ok (m, used)) e)
        ∙ ap (λ (q : ℕ). Ok (k + 1, m) ∷ map (in_book c start) (reads_from q n part (at + used) (k + 1))) less

    pub coming_err : (e : MotionFault) → motion_of n (drop at part) ≡ Err e → coming_at at k ≡ Err (in_chart c start (Board (at_motion (k + 1) at (board.Motion e)))) ∷ coming_at (length part) k
    coming_err e q =
        ap (map (in_book c start)) (reads_step (length part - k) n part at k (omega arith) inside (Err e) q)
        ∙ ap (λ (xs : List (Read BookFault)). Err (in_chart c start (Board (at_motion (k + 1) at (board.Motion e)))) ∷ xs) (sym (coming_end (length part) k (omega arith)))

    -- the same, from what comes next
    pub coming_next : (m : Motion) (used : ℕ) → placed k at (motion_of n (drop at part)) ≡ Ok (m, used) → coming_at at k ≡ Ok (k + 1, m) ∷ coming_at (at + used) (k + 1)
    coming_next m used = go (motion_of n (drop at part)) refl
      where
        go : (r : Result (Motion × ℕ) MotionFault) → motion_of n (drop at part) ≡ r → placed k at r ≡ Ok (m, used) → coming_at at k ≡ Ok (k + 1, m) ∷ coming_at (at + used) (k + 1)
        go (Ok p) e q = coming_ok m used (e ∙ cc)
        go (Err f) e q = let z : ◌≡◌ {A = ℕ} 0 1 = cc in absurd (omega arith)

    pub coming_fault : (f : ChartFault) → placed k at (motion_of n (drop at part)) ≡ Err f → coming_at at k ≡ Err (in_chart c start f) ∷ coming_at (length part) k
    coming_fault f = go (motion_of n (drop at part)) refl
      where
        go : (r : Result (Motion × ℕ) MotionFault) → motion_of n (drop at part) ≡ r → placed k at r ≡ Err f → coming_at at k ≡ Err (in_chart c start f) ∷ coming_at (length part) k
        go (Ok p) e q = let z : ◌≡◌ {A = ℕ} 0 1 = cc in absurd (omega arith)
        go (Err g) e q = let same : Board (at_motion (k + 1) at (board.Motion g)) ≡ f = cc in coming_err g e ∙ ap (λ (x : ChartFault). Err (in_chart c start x) ∷ coming_at (length part) k) same

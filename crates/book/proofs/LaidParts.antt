-- A chart is read exactly where it is laid out. Assumes nothing.
use Rattle.std.proofs.Common.{◌≡◌, ℕ, zero, suc, ◌+◌, ◌-◌, ◌<◌, ◌≤◌, Bool, true, false, cond, eqb, List, [], ◌∷◌, ◌++◌, length, get_or, take, drop, Some, None, Ok, Err, Option, Result, sym, refl, ap, ◌∙◌, subst, ⊎_elim, arith, lit<, length-drop, length-take, drop-cons, get_or-take}
use lib.Seq.{drop-append_seam}
use Rattle.std.proofs.lemmas.List.{drop-drop, drop_all, get_or_past}
use Rattle.std.proofs.lemmas.Bool.{cond-false, le-ltb, lt-leb, eqb-true, cases_lt}
use Rattle.std.specs.Result.{result_map_both}
use Rattle.chart.specs.declared.types.Timers.{Timers}
use Rattle.chart.specs.declared.types.MotionFault.{MotionFault}
use Rattle.chart.specs.Charts.{Motion, Chart, ChartOf}
use Rattle.chart.specs.Laid.{motion_bytes, chart_bytes, Laid}
use Rattle.chart.specs.Ranges.{timers_of}
use Rattle.chart.specs.Reading.{motion_of}
use Rattle.chart.proofs.Ranges.{timers_some, timers_back}
use Rattle.chart.proofs.Layouts.{laid_from_read, read_from_laid, laid_sized, mapped_back}
use Rattle.faults.specs.declared.types.AtMotion.{AtMotion}
use Rattle.faults.specs.declared.types.ChartFault.{ChartFault}
use Rattle.faults.specs.declared.types.ChartFault.TheVariants.{Board}
use Rattle.faults.specs.declared.types.BookFault.{BookFault}
use Rattle.faults.specs.declared.types.BookFault.TheVariants as book
use Rattle.book.specs.declared.head.Kind.{Kind}
use Rattle.book.specs.declared.head.Kind.TheVariants.{Tick, Edge}
use Rattle.book.specs.declared.head.Head.{Head}
use Rattle.book.specs.Layout.{place_of}
use Rattle.book.specs.Kinds.{kind_of, kind_byte}
use Rattle.book.specs.Parts.{head_by, head_of, onward, motions_from, chart_by, chart_of, part_count, count_by, count_of, PartOf, Counts, at_chart}
use Rattle.book.proofs.Counting.{motions_end, motions_step, small_after, head_long}

onward_back : (k at : ℕ) (r : Result (Motion × ℕ) MotionFault) (rest : ℕ → Result Chart AtMotion) (ms : Chart) → onward k at r rest ≡ Ok ms
    → (m : Motion) × (used : ℕ) × (ns : Chart) × (r ≡ Ok (m, used)) × (rest used ≡ Ok ns) × (ms ≡ m ∷ ns)
onward_back k at (Err e) rest ms h = absurd (grind arith)
onward_back k at (Ok p) rest ms h =
    let q = mapped_back (λ ns. p.0 ∷ ns) (rest p.1) ms h in
    (p.0, p.1, q.0, refl, q.1, sym q.2)

module _ (n : Timers) (part : List ℕ) (small : (i : ℕ) → get_or part i 0 < 256) where
  -- the chart's motions of n timers lie in the part from `at` to its end
  abbrev pub Lies : ℕ → Chart → Type 0
  Lies at ms = (drop at part ≡ chart_bytes ms) × ChartOf n.count ms

  laid_end : (at : ℕ) (ms : Chart) → ◌≡◌ {A = Result Chart AtMotion} (Ok []) (Ok ms) → length part ≤ at → Lies at ms
  laid_end at ms e h =
      let q : [] ≡ ms = cc in
      subst (Lies at) q (drop_all at part h, tt)

  -- the motions that were read are laid out from there to the end
  pub motions_laid : (most at k : ℕ) (ms : Chart) → motions_from most n part at k ≡ Ok ms → length part ≤ at + most → Lies at ms
  unfolding motions_from
  motions_laid zero at k ms e h = laid_end at ms e (omega arith)
  motions_laid (suc most) at k ms e h =
      ⊎_elim
      (λ (inside : at < length part).
      let q = onward_back k at (motion_of n (drop at part)) (λ used. motions_from most n part (at + used) (k + 1)) ms (sym (cond-false _ _ _ (lt-leb (length part) at inside)) ∙ e) in
      let m = q.0 in
      let used = q.1 in
      let l = laid_from_read n (drop at part) (small_after part small at) m used q.3 in
      let s = laid_sized n.count (drop at part) m used l in
      let ih = motions_laid most (at + used) (k + 1) q.2 q.4 (omega arith) in
      let rest : l.rest ≡ chart_bytes q.2 =
      sym (drop-append_seam (motion_bytes m) l.rest) ∙ ap (drop (length (motion_bytes m))) (sym l.whole) ∙ ap (λ (u : ℕ). drop u (drop at part)) (sym l.size) ∙ drop-drop used at part ∙ ih.0 in
      subst (Lies at) (sym q.5) (l.whole ∙ ap (λ (xs : List ℕ). motion_bytes m ++ xs) rest, (l.fits, ih.1)))
      (λ (past : length part ≤ at). laid_end at ms (sym (motions_end (suc most) n part at k past) ∙ e) past)
      (cases_lt at (length part))

  -- motions that are laid out so are read
  pub motions_read : (ms : Chart) (most at k : ℕ) → Lies at ms → length part ≤ at + most → motions_from most n part at k ≡ Ok ms
  motions_read [] most at k l h =
      let e = ap length l.0 in
      let d = length-drop at part in
      motions_end most n part at k (omega arith)
  motions_read (m ∷ ms) most at k l h =
      let laid : Laid n.count (drop at part) m (length (motion_bytes m)) = record { rest = chart_bytes ms; whole = l.0; size = refl; fits = l.1.0 } in
      let s = laid_sized n.count (drop at part) m (length (motion_bytes m)) laid in
      let d = length-drop at part in
      let used = length (motion_bytes m) in
      let step = motions_step most n part at k (omega arith) (omega arith) (Ok (m, used)) (read_from_laid n (drop at part) m used laid) in
      let tail : drop (at + used) part ≡ chart_bytes ms = sym (drop-drop used at part) ∙ ap (drop used) l.0 ∙ drop-append_seam (motion_bytes m) (chart_bytes ms) in
      let ih = motions_read ms (most - 1) (at + used) (k + 1) (tail, l.1.1) (omega arith) in
      step ∙ ap (result_map_both (λ ns. m ∷ ns) (λ e. e)) ih

-- ---- the head

kind_back : (byte : ℕ) (k : Kind) → kind_of byte ≡ Some k → kind_byte k ≡ byte
kind_back byte k e = first (eqb byte 1) refl e
  where
    second : (b : Bool) → eqb byte 2 ≡ b → cond b (Some Edge) None ≡ Some k → kind_byte k ≡ byte
    second true q h = let z : Edge ≡ k = cc in ap kind_byte (sym z) ∙ sym (eqb-true byte 2 q)
    second false q h = absurd (grind arith)

    first : (b : Bool) → eqb byte 1 ≡ b → cond b (Some Tick) (cond (eqb byte 2) (Some Edge) None) ≡ Some k → kind_byte k ≡ byte
    first true q h = let z : Tick ≡ k = cc in ap kind_byte (sym z) ∙ sym (eqb-true byte 1 q)
    first false q h = second (eqb byte 2) refl h

kind_forth : (k : Kind) → kind_of (kind_byte k) ≡ Some k
kind_forth Tick = refl
kind_forth Edge = refl

head_parts : (o : Option Kind) (t : Option Timers) (h : Head) → head_by o t ≡ Ok h → (o ≡ Some h.kind) × (t ≡ Some h.timers)
head_parts None t h e = absurd (grind arith)
head_parts (Some k) None h e = absurd (grind arith)
head_parts (Some k) (Some t) h e =
    let q : record { kind = k; timers = t } ≡ h = cc in
    (ap (λ (x : Head). Some x.kind) q, ap (λ (x : Head). Some x.timers) q)

-- a part whose head was read begins with its two bytes
head_laid : (part : List ℕ) (h : Head) → head_of part ≡ Ok h → part ≡ kind_byte h.kind ∷ h.timers.count ∷ drop 2 part
head_laid part h e =
    let long = head_long part h e in
    let p = head_parts (kind_of (get_or part 0 0)) (timers_of (get_or part 1 0)) h (sym (cond-false _ _ _ (le-ltb (length part) 2 long)) ∙ e) in
    let k = kind_back (get_or part 0 0) h.kind p.0 in
    let t = timers_back (get_or part 1 0) h.timers p.1 in
    drop-cons part 0 0 (omega arith) ∙ ap (λ (xs : List ℕ). get_or part 0 0 ∷ xs) (drop-cons part 1 0 (omega arith))
    ∙ ap (λ (x : ℕ). x ∷ get_or part 1 0 ∷ drop 2 part) (sym k) ∙ ap (λ (x : ℕ). kind_byte h.kind ∷ x ∷ drop 2 part) (sym t)

head_read : (h : Head) (rest : List ℕ) → head_of (kind_byte h.kind ∷ h.timers.count ∷ rest) ≡ Ok h
head_read h rest =
    cond-false _ _ _ (le-ltb (length (kind_byte h.kind ∷ h.timers.count ∷ rest)) 2 (omega arith))
    ∙ ap (λ (o : Option Kind). head_by o (timers_of h.timers.count)) (kind_forth h.kind) ∙ ap (head_by (Some h.kind)) (timers_some h.timers)

-- ---- the part

chart_back : (part : List ℕ) (r : Result Head ChartFault) (h : Head) (ms : Chart) → chart_by part r ≡ Ok (h, ms)
    → (r ≡ Ok h) × (motions_from (length part) h.timers part 2 0 ≡ Ok ms)
chart_back part (Err e) h ms q = absurd (grind arith)
chart_back part (Ok g) h ms q = go (motions_from (length part) g.timers part 2 0) refl q
  where
    go : (r : Result Chart AtMotion) → motions_from (length part) g.timers part 2 0 ≡ r → result_map_both {U = Head × Chart} (λ ns. (g, ns)) Board r ≡ Ok (h, ms)
        → (◌≡◌ {A = Result Head ChartFault} (Ok g) (Ok h)) × (motions_from (length part) h.timers part 2 0 ≡ Ok ms)
    go (Err a) x y = absurd (grind arith)
    go (Ok ns) x y =
        let both : (g, ns) ≡ (h, ms) = cc in
        let a : g ≡ h = ap (λ (z : Head × Chart). z.0) both in
        let b : ns ≡ ms = ap (λ (z : Head × Chart). z.1) both in
        (ap Ok a, ap (λ (z : Head). motions_from (length part) z.timers part 2 0) (sym a) ∙ x ∙ ap Ok b)

pub part_laid : (part : List ℕ) → ((i : ℕ) → get_or part i 0 < 256) → (h : Head) (ms : Chart) → chart_of part ≡ Ok (h, ms) → PartOf part h ms
part_laid part small h ms e =
    let p = chart_back part (head_of part) h ms e in
    let l = motions_laid h.timers part small (length part) 2 0 ms p.1 (omega arith) in
    record {
      whole = head_laid part h p.0 ∙ ap (λ (xs : List ℕ). kind_byte h.kind ∷ h.timers.count ∷ xs) l.0;
      fits = l.1;
    }

pub part_read : (part : List ℕ) → ((i : ℕ) → get_or part i 0 < 256) → (h : Head) (ms : Chart) → PartOf part h ms → chart_of part ≡ Ok (h, ms)
part_read part small h ms l =
    let head : head_of part ≡ Ok h = ap head_of l.whole ∙ head_read h (chart_bytes ms) in
    let tail : drop 2 part ≡ chart_bytes ms = ap (drop 2) l.whole in
    ap (chart_by part) head ∙ ap (result_map_both (λ ns. (h, ns)) Board) (motions_read h.timers part small ms (length part) 2 0 (tail, l.fits) (omega arith))

-- ---- the book

count_back : (r : Result (Head × Chart) ChartFault) (c : ℕ) → result_map_both {T = Head × Chart} (λ p. length p.1) (λ e. e) r ≡ Ok c → (h : Head) × (ms : Chart) × (r ≡ Ok (h, ms)) × (c ≡ length ms)
count_back (Err e) c q = absurd (grind arith)
count_back (Ok p) c q = let z : length p.1 ≡ c = cc in (p.0, p.1, refl, sym z)

plain_back : (f : ChartFault → BookFault) (r : Result ℕ ChartFault) (c : ℕ) → result_map_both (λ x. x) f r ≡ Ok c → r ≡ Ok c
plain_back f (Ok x) c e = cc
plain_back f (Err x) c e = absurd (grind arith)

module _ (bytes : List ℕ) (small : (i : ℕ) → get_or bytes i 0 < 256) where
  small_within : (start size i : ℕ) → get_or (take size (drop start bytes)) i 0 < 256
  small_within start size i =
      ⊎_elim
      (λ (h : i < size). rw (get_or-take size (drop start bytes) i 0 h) (small_after bytes small start i))
      (λ (h : size ≤ i). let l : length (take size (drop start bytes)) ≤ i = simp length-take (omega arith) in rw (get_or_past (take size (drop start bytes)) i 0 l) (lit< tt))
      (cases_lt i size)

  -- chart k has that many motions exactly where its part is laid out so
  pub counts_laid : (k c : ℕ) → count_of bytes k ≡ Ok c → Counts bytes k c
  counts_laid k c e = go (place_of bytes k) refl e
    where
      go : (r : Result (ℕ × ℕ) BookFault) → place_of bytes k ≡ r → count_by bytes k r ≡ Ok c → Counts bytes k c
      go (Err f) q h = absurd (grind arith)
      go (Ok p) q h =
          let part = take p.1 (drop p.0 bytes) in
          let x = count_back (chart_of part) c (plain_back _ (part_count part) c h) in
          record {
            part = part;
            head = x.0;
            motions = x.1;
            named = ap (result_map_both (λ (s : ℕ × ℕ). take s.1 (drop s.0 bytes)) (λ (f : BookFault). f)) q;
            laid = part_laid part (small_within p.0 p.1) x.0 x.1 x.2;
            all = x.3;
          }

  pub counts_read : (k c : ℕ) → Counts bytes k c → count_of bytes k ≡ Ok c
  counts_read k c l =
      let cut : ℕ × ℕ → List ℕ = λ s. take s.1 (drop s.0 bytes) in
      let p = mapped_back cut (place_of bytes k) l.part l.named in
      let is : chart_of l.part ≡ Ok (l.head, l.motions) =
      part_read l.part (subst (λ (xs : List ℕ). (i : ℕ) → get_or xs i 0 < 256) p.2 (small_within p.0.0 p.0.1)) l.head l.motions l.laid in
      ap (count_by bytes k) p.1
      ∙ ap (λ (xs : List ℕ). result_map_both (λ (n : ℕ). n) (λ (f : ChartFault). book.Chart (at_chart k p.0.0 f)) (part_count xs)) p.2
      ∙ ap (λ (r : Result (Head × Chart) ChartFault). result_map_both (λ (n : ℕ). n) (λ (f : ChartFault). book.Chart (at_chart k p.0.0 f)) (result_map_both (λ (x : Head × Chart). length x.1) (λ (f : ChartFault). f) r)) is
      ∙ ap Ok (sym l.all)

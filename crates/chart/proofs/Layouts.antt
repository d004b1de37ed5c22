-- A motion is read exactly where it is laid out. Assumes nothing.
use Rattle.std.proofs.Common.{◌≡◌, ℕ, zero, suc, ◌+◌, ◌*◌, ◌/◌, ◌%◌, ◌^◌, ◌<◌, ◌≤◌, Bool, true, false, cond, eqb, ltb, leb, ◌⊎◌, List, [], ◌∷◌, ◌++◌, length, get_or, drop, Some, None, Ok, Err, Option, Result, sym, refl, ap, ◌∙◌, subst, inl, inr, ⊎_elim, append_assoc, le_trans, add-one, arith, length-append, get_or-drop, drop-cons}
use Rattle.std.proofs.lemmas.Bool.{eqb-true, ltb-false, leb-false}
use Rattle.std.proofs.lemmas.List.{drop-drop}
use Rattle.std.proofs.lemmas.Nat.{le_bytes_4}
use Rattle.std.specs.Result.{result_map_both}
use Rattle.chart.specs.declared.types.Timers.{Timers}
use Rattle.chart.specs.declared.types.Sign.{Sign}
use Rattle.chart.specs.declared.types.Sign.TheVariants.{AtMost, Under, AtLeast, Over, Equal}
use Rattle.chart.specs.declared.types.Window.{Window}
use Rattle.chart.specs.declared.types.MotionFault.{MotionFault}
use Rattle.chart.specs.declared.types.MotionFault.TheVariants as fault
use Rattle.chart.specs.Bytes.{four, four_bytes}
use Rattle.chart.specs.Lists.{All}
use Rattle.chart.specs.Charts.{Motion, WindowOf}
use Rattle.chart.specs.Reading.{sign_of, signed, window_by, window_at, before, windows_from, motion_of}
use Rattle.chart.specs.Laid.{sign_byte, window_bytes, windows_bytes, motion_bytes, Laid}
use Rattle.chart.proofs.Ranges.{past_le, past_within}
use Rattle.chart.proofs.Parts.{window_made, same_window}
use Rattle.chart.proofs.Windows.{by_windows}

-- ---- from what was read to the bytes

-- a result that is no fault came past a test
pub past : {A : Type 0} (b : Bool) (x : MotionFault) (r : Result A MotionFault) (w : A) → cond b (Err x) r ≡ Ok w → (b ≡ false) × (r ≡ Ok w)
past true x r w e = absurd (grind arith)
past false x r w e = (refl, e)

pub mapped_back : {A B E : Type 0} (f : A → B) (r : Result A E) (y : B) → result_map_both f (λ e. e) r ≡ Ok y → (x : A) × (r ≡ Ok x) × (f x ≡ y)
mapped_back f (Err e) y h = absurd (grind arith)
mapped_back f (Ok x) y h = (x, refl, cc)

pick : (b : Bool) (x g : Sign) (r : Option Sign) → cond b (Some x) r ≡ Some g → ((b ≡ true) × (x ≡ g)) ⊎ (r ≡ Some g)
pick true x g r e = inl (refl, cc)
pick false x g r e = inr e

sign_step : (s : ℕ) (x g : Sign) (r : Option Sign) → (r ≡ Some g → sign_byte g ≡ s) → cond (eqb s (sign_byte x)) (Some x) r ≡ Some g → sign_byte g ≡ s
sign_step s x g r more e =
    ⊎_elim (λ (p : (eqb s (sign_byte x) ≡ true) × (x ≡ g)). ap sign_byte (sym p.1) ∙ sym (eqb-true s (sign_byte x) p.0)) more (pick (eqb s (sign_byte x)) x g r e)

sign_back : (s : ℕ) (g : Sign) → sign_of s ≡ Some g → sign_byte g ≡ s
sign_back s g e =
    sign_step s AtMost g _ (sign_step s Under g _ (sign_step s AtLeast g _ (sign_step s Over g _ (sign_step s Equal g None (λ (h : None ≡ Some g). absurd (grind arith)))))) e

-- what the parts of a window that was read are
signed_back : (t v at : ℕ) (some : 1 ≤ t) (most : t ≤ 8) (o : Option Sign) (w : Window) → signed t v at some most o ≡ Ok w → (o ≡ Some w.sign) × (w.timer ≡ t) × (w.number ≡ v)
signed_back t v at some most None w e = absurd (grind arith)
signed_back t v at some most (Some g) w e =
    let made : v ≤ 1000000000 → Window = λ range. record { timer = t; sign = g; number = v; some = some; most = most; range = range } in
    let p = past_le (fault.Number (at + 2)) w v 1000000000 (λ range. Ok (made range)) e in
    let q : made p.0 ≡ w = cc p.1 in
    (ap (λ (x : Window). Some x.sign) q, sym (ap (λ (x : Window). x.timer) q), sym (ap (λ (x : Window). x.number) q))

four_back : (a b c d : ℕ) → a < 256 → b < 256 → c < 256 → d < 256 → four_bytes (a + 256 * b + 65536 * c + 16777216 * d) ≡ a ∷ b ∷ c ∷ d ∷ []
four_back a b c d ha hb hc hd =
    let n : ℕ = a + 256 * b + 65536 * c + 16777216 * d in
    let top : n / 16777216 ≡ n / 16777216 % 256 = omega arith in
    rw top (le_bytes_4 (a ∷ b ∷ c ∷ d ∷ []) n refl small (omega arith))
  where
    small : (i : ℕ) → get_or (a ∷ b ∷ c ∷ d ∷ []) i 0 < 256
    small zero = ha
    small (suc zero) = hb
    small (suc (suc zero)) = hc
    small (suc (suc (suc zero))) = hd
    small (suc (suc (suc (suc i)))) = omega arith

window_back : (n : Timers) (t s a b c d at : ℕ) (w : Window) → a < 256 → b < 256 → c < 256 → d < 256
    → window_by n t s (a + 256 * b + 65536 * c + 16777216 * d) at ≡ Ok w → (window_bytes w ≡ t ∷ s ∷ a ∷ b ∷ c ∷ d ∷ []) × (w.timer ≤ n.count)
window_back n t s a b c d at w ha hb hc hd e =
    let v : ℕ = a + 256 * b + 65536 * c + 16777216 * d in
    let rest : 1 ≤ t → t ≤ n.count → Result Window MotionFault = λ some most. signed t v at some (le_trans most n.most) (sign_of s) in
    let p = past_within (fault.Timer at) w 1 n.count t rest e in
    let r = signed_back t v at p.0 (le_trans p.1 n.most) (sign_of s) w p.2 in
    let g = sign_back s w.sign r.0 in
    let l = four_back a b c d ha hb hc hd in
    (rw (r.1, g, r.2, l), rw r.1 p.1)

one : (bs : List ℕ) (i j : ℕ) → j ≡ i + 1 → i < length bs → drop i bs ≡ get_or bs i 0 ∷ drop j bs
one bs i j e h = rw (e, add-one) (drop-cons bs i 0 h)

six : (bs : List ℕ) (at : ℕ) → at + 6 ≤ length bs
    → drop at bs ≡ get_or bs at 0 ∷ get_or bs (at + 1) 0 ∷ get_or bs (at + 2) 0 ∷ get_or bs (at + 2 + 1) 0 ∷ get_or bs (at + 2 + 2) 0 ∷ get_or bs (at + 2 + 3) 0 ∷ drop (at + 6) bs
six bs at h =
    let e₀ = one bs at (at + 1) refl (omega arith) in
    let e₁ = one bs (at + 1) (at + 2) (omega arith) (omega arith) in
    let e₂ = one bs (at + 2) (at + 2 + 1) (omega arith) (omega arith) in
    let e₃ = one bs (at + 2 + 1) (at + 2 + 2) (omega arith) (omega arith) in
    let e₄ = one bs (at + 2 + 2) (at + 2 + 3) (omega arith) (omega arith) in
    let e₅ = one bs (at + 2 + 3) (at + 6) (omega arith) (omega arith) in
    cc

before_back : (r : Result Window MotionFault) (rest : Result (List Window) MotionFault) (ws : List Window) → before r rest ≡ Ok ws
    → (w : Window) × (vs : List Window) × (r ≡ Ok w) × (rest ≡ Ok vs) × (ws ≡ w ∷ vs)
before_back (Err e) rest ws h = absurd (grind arith)
before_back (Ok w) (Err e) ws h = absurd (grind arith)
before_back (Ok w) (Ok vs) ws h = (w, vs, refl, refl, cc)

pub length_windows : (ws : List Window) → length (windows_bytes ws) ≡ 6 * length ws
length_windows [] = refl
length_windows (w ∷ ws) = let ih = length_windows ws in simp length-append (omega arith)

module _ (n : Timers) (bs : List ℕ) (small : (i : ℕ) → get_or bs i 0 < 256) where
  windows_laid : (left k : ℕ) (ws : List Window) → windows_from n bs left k ≡ Ok ws → 2 + 6 * (k + left) ≤ length bs
      → (length ws ≡ left) × (drop (2 + 6 * k) bs ≡ windows_bytes ws ++ drop (2 + 6 * (k + left)) bs) × (All (WindowOf n.count) ws)
  unfolding windows_from
  windows_laid zero k ws e h =
      let q : [] ≡ ws = cc in
      let z : k ≡ k + 0 = omega arith in
      let P : List Window → Type 0 = λ vs. (length vs ≡ 0) × (drop (2 + 6 * k) bs ≡ windows_bytes vs ++ drop (2 + 6 * (k + 0)) bs) × (All (WindowOf n.count) vs) in
      subst P q (refl, ap (λ (j : ℕ). drop (2 + 6 * j) bs) z, tt)
  windows_laid (suc left) k ws e h =
      let at : ℕ = 2 + 6 * k in
      let p = before_back (window_at n bs at) (windows_from n bs left (k + 1)) ws e in
      let w = p.0 in
      let vs = p.1 in
      let b = window_back n (get_or bs at 0) (get_or bs (at + 1) 0) (get_or bs (at + 2) 0) (get_or bs (at + 2 + 1) 0) (get_or bs (at + 2 + 2) 0) (get_or bs (at + 2 + 3) 0) at w (small _) (small _) (small _) (small _) p.2 in
      let ih = windows_laid left (k + 1) vs p.3 (omega arith) in
      let here : drop at bs ≡ window_bytes w ++ drop (at + 6) bs = six bs at (omega arith) ∙ ap (λ (xs : List ℕ). xs ++ drop (at + 6) bs) (sym b.0) in
      let next : at + 6 ≡ 2 + 6 * (k + 1) = omega arith in
      let end : k + 1 + left ≡ k + suc left = omega arith in
      let front : drop at bs ≡ (window_bytes w ++ windows_bytes vs) ++ drop (2 + 6 * (k + suc left)) bs =
      here ∙ ap (λ (j : ℕ). window_bytes w ++ drop j bs) next ∙ ap (λ (xs : List ℕ). window_bytes w ++ xs) ih.1
      ∙ ap (λ (j : ℕ). window_bytes w ++ (windows_bytes vs ++ drop (2 + 6 * j) bs)) end
      ∙ sym (append_assoc (window_bytes w) (windows_bytes vs) (drop (2 + 6 * (k + suc left)) bs)) in
      let P : List Window → Type 0 = λ us. (length us ≡ suc left) × (drop (2 + 6 * k) bs ≡ windows_bytes us ++ drop (2 + 6 * (k + suc left)) bs) × (All (WindowOf n.count) us) in
      subst P (sym p.4) (ap suc ih.0, front, (b.1, ih.2))

  pub laid_from_read : (m : Motion) (used : ℕ) → motion_of n bs ≡ Ok (m, used) → Laid n.count bs m used
  laid_from_read m used e =
      let c : ℕ = get_or bs 0 0 in
      let f : List Window → Motion × ℕ = λ ws. (record { windows = ws; restarts = get_or bs 1 0 }, 2 + 6 * get_or bs 0 0) in
      let p₀ = past (ltb (length bs) 2) fault.Cut _ (m, used) e in
      let p₁ = past (ltb 16 c) fault.Windows _ (m, used) p₀.1 in
      let p₂ = past (leb (2 ^ n.count) (get_or bs 1 0)) fault.Restart _ (m, used) p₁.1 in
      let p₃ = past (ltb (length bs) (2 + 6 * c)) fault.Cut _ (m, used) p₂.1 in
      let q = mapped_back f (windows_from n bs c 0) (m, used) p₃.1 in
      let ws = q.0 in
      let long : 2 + 6 * c ≤ length bs = ltb-false (length bs) (2 + 6 * c) p₃.0 in
      let l = windows_laid c 0 ws q.1 (omega arith) in
      let zero_c : 0 + c ≡ c = omega arith in
      let front : bs ≡ (length ws ∷ get_or bs 1 0 ∷ windows_bytes ws) ++ drop (2 + 6 * c) bs =
      one bs 0 1 refl (omega arith) ∙ ap (λ (xs : List ℕ). c ∷ xs) (one bs 1 2 refl (omega arith))
      ∙ ap (λ (xs : List ℕ). c ∷ get_or bs 1 0 ∷ xs) (l.1 ∙ ap (λ (j : ℕ). windows_bytes ws ++ drop (2 + 6 * j) bs) zero_c)
      ∙ ap (λ (j : ℕ). j ∷ get_or bs 1 0 ∷ (windows_bytes ws ++ drop (2 + 6 * c) bs)) (sym l.0) in
      let P : Motion × ℕ → Type 0 = λ p. Laid n.count bs p.0 p.1 in
      let size : 2 + 6 * c ≡ length (length ws ∷ get_or bs 1 0 ∷ windows_bytes ws) = omega (arith, l.0, length_windows ws) in
      let few : length ws ≤ 16 = omega (arith, l.0, ltb-false 16 c p₁.0) in
      subst P q.2 (record {
        rest = drop (2 + 6 * c) bs;
        whole = front;
        size = size;
        fits = record { few = few; timers = l.2; restarted = leb-false (2 ^ n.count) (get_or bs 1 0) p₂.0 };
      })

-- ---- from the bytes to what is read

sign_forth : (s : Sign) → sign_of (sign_byte s) ≡ Some s
sign_forth AtMost = refl
sign_forth Under = refl
sign_forth AtLeast = refl
sign_forth Over = refl
sign_forth Equal = refl

window_forth : (n : Timers) (at : ℕ) (w : Window) → w.timer ≤ n.count → window_by n w.timer (sign_byte w.sign) w.number at ≡ Ok w
window_forth n at w f =
    window_made n w.timer (sign_byte w.sign) w.number at w.some f w.sign (sign_forth w.sign) w.range ∙ ap Ok (same_window _ w refl refl refl)

at_drop : (bs xs : List ℕ) (at j i : ℕ) → drop at bs ≡ xs → i ≡ at + j → get_or bs i 0 ≡ get_or xs j 0
at_drop bs xs at j i e q = ap (λ (l : ℕ). get_or bs l 0) q ∙ sym (get_or-drop at bs j 0) ∙ ap (λ (l : List ℕ). get_or l j 0) e

windows_read : (n : Timers) (bs : List ℕ) (ws : List Window) (k : ℕ) (rest : List ℕ) → drop (2 + 6 * k) bs ≡ windows_bytes ws ++ rest → All (WindowOf n.count) ws → windows_from n bs (length ws) k ≡ Ok ws
unfolding windows_from
windows_read n bs [] k rest e f = refl
windows_read n bs (w ∷ ws) k rest e f =
    let at : ℕ = 2 + 6 * k in
    let xs : List ℕ = window_bytes w ++ (windows_bytes ws ++ rest) in
    let whole : drop at bs ≡ xs = e ∙ append_assoc (window_bytes w) (windows_bytes ws) rest in
    let t : get_or bs at 0 ≡ w.timer = at_drop bs xs at 0 at whole (omega arith) in
    let s : get_or bs (at + 1) 0 ≡ sign_byte w.sign = at_drop bs xs at 1 (at + 1) whole refl in
    let v₀ : get_or bs (at + 2) 0 ≡ w.number % 256 = at_drop bs xs at 2 (at + 2) whole refl in
    let v₁ : get_or bs (at + 2 + 1) 0 ≡ w.number / 256 % 256 = at_drop bs xs at 3 (at + 2 + 1) whole (omega arith) in
    let v₂ : get_or bs (at + 2 + 2) 0 ≡ w.number / 65536 % 256 = at_drop bs xs at 4 (at + 2 + 2) whole (omega arith) in
    let v₃ : get_or bs (at + 2 + 3) 0 ≡ w.number / 16777216 = at_drop bs xs at 5 (at + 2 + 3) whole (omega arith) in
    let v : four bs (at + 2) ≡ w.number = omega (arith, v₀, v₁, v₂, v₃) in
    let here : window_at n bs at ≡ Ok w = ap (λ (x : ℕ). window_by n x (get_or bs (at + 1) 0) (four bs (at + 2)) at) t ∙ ap (λ (x : ℕ). window_by n w.timer x (four bs (at + 2)) at) s
    ∙ ap (λ (x : ℕ). window_by n w.timer (sign_byte w.sign) x at) v ∙ window_forth n at w f.0 in
    let six_on : at + 6 ≡ 2 + 6 * (k + 1) = omega arith in
    let tail : drop (2 + 6 * (k + 1)) bs ≡ windows_bytes ws ++ rest = ap (λ (j : ℕ). drop j bs) (sym six_on) ∙ sym (drop-drop 6 at bs) ∙ ap (drop 6) whole in
    let ih = windows_read n bs ws (k + 1) rest tail f.1 in
    ap (λ (r : Result Window MotionFault). before r (windows_from n bs (length ws) (k + 1))) here ∙ ap (before (Ok w)) ih

pub read_from_laid : (n : Timers) (bs : List ℕ) (m : Motion) (used : ℕ) → Laid n.count bs m used → motion_of n bs ≡ Ok (m, used)
read_from_laid n bs m used l =
    let ws = m.windows in
    let c : get_or bs 0 0 ≡ length ws = ap (λ (x : List ℕ). get_or x 0 0) l.whole in
    let r : get_or bs 1 0 ≡ m.restarts = ap (λ (x : List ℕ). get_or x 1 0) l.whole in
    let tail : drop (2 + 6 * 0) bs ≡ windows_bytes ws ++ l.rest = ap (drop 2) l.whole in
    let made : windows_from n bs (get_or bs 0 0) 0 ≡ Ok ws = rw c (windows_read n bs ws 0 l.rest tail l.fits.timers) in
    let small : get_or bs 1 0 < 2 ^ n.count = rw r l.fits.restarted in
    let size : used ≡ 2 + 6 * length ws = omega (arith, l.size, length_windows ws) in
    let all : length bs ≡ length (motion_bytes m) + length l.rest = ap length l.whole ∙ length-append (motion_bytes m) l.rest in
    by_windows n bs (omega (arith, l.size)) (omega (arith, c, l.fits.few)) small (omega (arith, c, l.size)) (Ok ws) made
    ∙ ap (λ (x : ℕ). Ok (record { windows = ws; restarts = x }, 2 + 6 * get_or bs 0 0)) r
    ∙ ap (λ (x : ℕ). Ok (m, 2 + 6 * x)) c ∙ ap (λ (x : ℕ). Ok (m, x)) (sym size)

-- a motion has two bytes or more, and lies within those it was read from
pub laid_sized : (n : ℕ) (bs : List ℕ) (m : Motion) (used : ℕ) → Laid n bs m used → (2 ≤ used) × (used ≤ length bs)
laid_sized n bs m used l =
    let all : length bs ≡ length (motion_bytes m) + length l.rest = ap length l.whole ∙ length-append (motion_bytes m) l.rest in
    (omega (arith, l.size), omega (arith, l.size))

-- What a test of a range answers. Assumes nothing.
use Rattle.std.proofs.Common.{◌≡◌, ℕ, ◌<◌, ◌≤◌, Bool, true, false, T, leb, Some, None, Ok, Err, Option, Result, sym, refl, ap, ◌∙◌, arith, leb→le}
use native.Mathlib.Bridge.{le_prop}
use Rattle.std.proofs.lemmas.Bool.{le-leb, lt-leb}
use Rattle.chart.specs.declared.types.Timers.{Timers}
use Rattle.chart.specs.Ranges.{when_true, if_le, if_within, timers_of}

module _ {A : Type 0} (a b : ℕ) (met : a ≤ b → A) (unmet : A) where
  when_met : (t : Bool) (fact : T t → a ≤ b) → t ≡ true → (h : a ≤ b) → when_true t (λ x. met (fact x)) unmet ≡ met h
  when_met true fact e h = ap met (le_prop (fact tt) h)
  when_met false fact e h = absurd (grind arith)

  pub le_met : (h : a ≤ b) → if_le a b met unmet ≡ met h
  le_met h = when_met (leb a b) (leb→le a b) (le-leb a b h) h

  when_unmet : (t : Bool) (fact : T t → a ≤ b) → t ≡ false → when_true t (λ x. met (fact x)) unmet ≡ unmet
  when_unmet true fact e = absurd (grind arith)
  when_unmet false fact e = refl

  pub le_unmet : b < a → if_le a b met unmet ≡ unmet
  le_unmet h = when_unmet (leb a b) (leb→le a b) (lt-leb a b h)

module _ {A : Type 0} (low high x : ℕ) (met : low ≤ x → x ≤ high → A) (unmet : A) where
  abbrev above : low ≤ x → A
  above some = if_le x high (met some) unmet

  pub within_met : (some : low ≤ x) (most : x ≤ high) → if_within low high x met unmet ≡ met some most
  within_met some most = le_met low x above unmet some ∙ le_met x high (met some) unmet most

  pub within_under : x < low → if_within low high x met unmet ≡ unmet
  within_under h = le_unmet low x above unmet h

  pub within_over : low ≤ x → high < x → if_within low high x met unmet ≡ unmet
  within_over some h = le_met low x above unmet some ∙ le_unmet x high (met some) unmet h

-- a result that is no fault came past the test
module _ {A E : Type 0} (fault : E) (w : A) where
  pub past_le : (a b : ℕ) (met : a ≤ b → Result A E) → if_le a b met (Err fault) ≡ Ok w → (h : a ≤ b) × (met h ≡ Ok w)
  past_le a b met e = go (leb a b) (leb→le a b) e
    where
      go : (t : Bool) (fact : T t → a ≤ b) → when_true t (λ p. met (fact p)) (Err fault) ≡ Ok w → (h : a ≤ b) × (met h ≡ Ok w)
      go true fact q = (fact tt, q)
      go false fact q = absurd (grind arith)

  pub past_within : (low high x : ℕ) (met : low ≤ x → x ≤ high → Result A E) → if_within low high x met (Err fault) ≡ Ok w
      → (some : low ≤ x) × (most : x ≤ high) × (met some most ≡ Ok w)
  past_within low high x met e =
      let p = past_le low x (λ some. if_le x high (met some) (Err fault)) e in
      let q = past_le x high (met p.0) p.1 in
      (p.0, q.0, q.1)

-- the numbers of timers that a machine may have
abbrev made : (count : ℕ) → 1 ≤ count → count ≤ 8 → Option Timers
made count some most = Some (record { count = count; some = some; most = most })

pub timers_some : (t : Timers) → timers_of t.count ≡ Some t
timers_some t = within_met 1 8 t.count (made t.count) None t.some t.most

pub timers_under : (count : ℕ) → count < 1 → timers_of count ≡ None
timers_under count h = within_under 1 8 count (made count) None h

pub timers_over : (count : ℕ) → 8 < count → timers_of count ≡ None
timers_over count h = within_over 1 8 count (made count) None (omega arith) h

pub timers_back : (count : ℕ) (t : Timers) → timers_of count ≡ Some t → t.count ≡ count
timers_back count t e = go (leb 1 count) (leb→le 1 count) (leb count 8) (leb→le count 8) e
  where
    go : (a : Bool) (f : T a → 1 ≤ count) (b : Bool) (g : T b → count ≤ 8) → when_true a (λ x. when_true b (λ y. made count (f x) (g y)) None) None ≡ Some t → t.count ≡ count
    go true f true g q = let h : record { count = count; some = f tt; most = g tt } ≡ t = cc in sym (ap (λ (x : Timers). x.count) h)
    go true f false g q = absurd (grind arith)
    go false f b g q = absurd (grind arith)

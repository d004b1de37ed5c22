-- Rows of a square table lie apart, and a table is filled row by row. Assumes nothing.
use Rattle.std.proofs.Common.{◌≡◌, ℕ, ◌+◌, ◌-◌, ◌*◌, ◌<◌, ◌≤◌, ◌⊎◌, List, ◌++◌, length, take, drop, set, sym, refl, ap, ◌∙◌, subst, inl, inr, ⊎_elim, add-mul, eq-or-lt_of_le, arith, get_or-set_other, get_or-set_same}
use native.Mathlib.Decide.{dec_lt}
use borrow.Rule.Slice.PartMut.{put_mid}
use Rattle.std.proofs.lemmas.List.{length-take-le, get_or-take, get_or-drop, get_or_append_left, get_or-append_right}
use Rattle.std.proofs.lemmas.Nat.{mul-le}
use Rattle.bound.specs.Meaning.{Meaning}
use Rattle.table.specs.Cells.{at, cell, Beyond, Only, Holds}

-- a row above another ends before that begins
pub row_before : (u w side : ℕ) → u < w → u * side + side ≤ w * side
row_before u w side h = omega (arith, mul-le (u + 1) side w side (omega arith) (omega arith), add-mul u 1 side)

pub row_within : (u side : ℕ) → u < side → u * side + side ≤ side * side
row_within u side h = row_before u side side h

apart : (u w : ℕ) → (u ≡ w → ⊥) → (u < w) ⊎ (w < u)
apart u w ne = elim (dec_lt u w) [ yes h ↦ inl h | no n ↦ inr (omega arith) ]

module _ {B : Type 0} (m : Meaning B) where
  -- ── one place after the other ──

  pub only_more : (start v : ℕ) (before now : List B) (x : B) → Only m start v before now → Only m start (v + 1) before (set now (start + v) x)
  only_more start v before now x o =
      record {
        below = λ i h. get_or-set_other now (start + v) i x m.opened (λ e. omega (arith, e)) ∙ o.below i h;
        above = λ i h. get_or-set_other now (start + v) i x m.opened (λ e. omega (arith, e)) ∙ o.above i (omega arith);
      }

  pub holds_more : (start v : ℕ) (f : ℕ → B) (now : List B) (x : B) → start + v < length now → x ≡ f v → Holds m start v f now → Holds m start (v + 1) f (set now (start + v) x)
  holds_more start v f now x inside e h w l =
      ⊎_elim
      (λ (q : w ≡ v). subst (λ (y : ℕ). at m (set now (start + v) x) (start + y) ≡ f y) (sym q) (get_or-set_same now (start + v) x m.opened inside ∙ e))
      (λ (q : w < v). get_or-set_other now (start + v) (start + w) x m.opened (λ e. omega (arith, e)) ∙ h w q)
      (eq-or-lt_of_le {n = w} {m = v} (omega arith))

  -- ── a part of a list, written in its place ──

  module _ (start k : ℕ) (before part : List B) (within : start + k ≤ length before) (long : length part ≡ k) where
    taken : length (take start before) ≡ start
    taken = length-take-le start before (omega arith)

    pub part_was : (v : ℕ) → v < k → at m (take k (drop start before)) v ≡ at m before (start + v)
    part_was v h = get_or-take k (drop start before) v m.opened h ∙ get_or-drop start before v m.opened

    pub part_is : (v : ℕ) → v < k → at m (put_mid start k before part) (start + v) ≡ at m part v
    part_is v h =
        let e : (start + v) - start ≡ v = omega arith in
        get_or-append_right (take start before) (part ++ drop k (drop start before)) start (start + v) m.opened taken (omega arith)
        ∙ ap (at m (part ++ drop k (drop start before))) e ∙ get_or_append_left part (drop k (drop start before)) m.opened v (omega arith)

    pub part_only : Only m start k before (put_mid start k before part)
    part_only =
        record {
          below = λ i h. get_or_append_left (take start before) (part ++ drop k (drop start before)) m.opened i (omega (arith, taken)) ∙ get_or-take start before i m.opened h;
          above = λ i h.
              let e : start + (k + ((i - start) - k)) ≡ i = omega arith in
              get_or-append_right (take start before) (part ++ drop k (drop start before)) start i m.opened taken (omega arith)
              ∙ get_or-append_right part (drop k (drop start before)) k (i - start) m.opened long (omega arith)
              ∙ get_or-drop k (drop start before) ((i - start) - k) m.opened ∙ get_or-drop start before (k + ((i - start) - k)) m.opened ∙ ap (at m before) e;
        }

  -- the first rows are what the rule made of what stood there; the others and what lies beyond the table are as they were
  pub record Filled (side : ℕ) (P : ℕ → ℕ → B → B → Type 0) (rows : ℕ) (before now : List B) : Type 0 where
    pub done : (u v : ℕ) → u < rows → v < side → P u v (cell m side before u v) (cell m side now u v)
    pub left : (u v : ℕ) → rows ≤ u → u < side → v < side → cell m side now u v ≡ cell m side before u v
    pub beyond : Beyond m (side * side) before now

  pub filled_none : (side : ℕ) (P : ℕ → ℕ → B → B → Type 0) (before : List B) → Filled side P 0 before before
  filled_none side P before = record { done = λ u v l. absurd (omega arith); left = λ u v l h j. refl; beyond = λ i l. refl }

  -- ── one row after the other ──

  module _ (side u start : ℕ) (before after : List B) (is : start ≡ u * side) (only : Only m start side before after) where
    pub row_others : (w v : ℕ) → v < side → (w ≡ u → ⊥) → cell m side after w v ≡ cell m side before w v
    row_others w v hv ne =
        ⊎_elim
        (λ (l : w < u). only.below (w * side + v) (omega (arith, is, row_before w u side l)))
        (λ (l : u < w). only.above (w * side + v) (omega (arith, is, row_before u w side l)))
        (apart w u ne)

    pub row_beyond : u < side → Beyond m (side * side) before after
    row_beyond h i l = only.above i (omega (arith, is, row_within u side h))

    -- the rows that a rule has filled, with one row more
    pub filled_more : (P : ℕ → ℕ → B → B → Type 0) (first : List B) → u < side → Filled side P u first before
        → ((v : ℕ) → v < side → P u v (at m before (start + v)) (at m after (start + v))) → Filled side P (u + 1) first after
    filled_more P first h f row =
        record {
          done = λ w v l hv. ⊎_elim
              (λ (q : w ≡ u). subst (λ (y : ℕ). P y v (cell m side first y v) (cell m side after y v)) (sym q)
              (subst (λ a. P u v a (cell m side after u v)) (f.left u v (omega arith) h hv)
              (subst (λ (i : ℕ). P u v (at m before (i + v)) (at m after (i + v))) is (row v hv))))
              (λ (q : w < u). subst (P w v (cell m side first w v)) (sym (row_others w v hv (λ e. omega (arith, e)))) (f.done w v q hv))
              (eq-or-lt_of_le {n = w} {m = u} (omega arith));
          left = λ w v l hw hv. row_others w v hv (λ e. omega (arith, e)) ∙ f.left w v (omega arith) hw hv;
          beyond = λ i l. row_beyond h i l ∙ f.beyond i l;
        }

  -- places that a sweep has not come to: those before it, and those after
  pub unswept : (base other count v : ℕ) (before now : List B) → (other < base → other + count ≤ base) → v < count → Only m base v before now
      → at m now (other + v) ≡ at m before (other + v)
  unswept base other count v before now clear h o =
      elim (dec_lt other base) [ yes l ↦ let k = clear l in o.below (other + v) (omega arith) | no n ↦ o.above (other + v) (omega arith) ]

-- of two rows, the one that starts first ends before the other starts
pub starts_apart : (u w side a b : ℕ) → a ≡ u * side → b ≡ w * side → a < b → a + side ≤ b
starts_apart u w side a b ea eb l =
    elim (dec_lt u w) [
      | yes h ↦ omega (arith, ea, eb, row_before u w side h)
      | no n ↦ absurd (omega (arith, ea, eb, mul-le w side u side (omega arith) (omega arith)))
    ]

-- Two tables of bounds end to end: what they allow, and that no size grows. Assumes nothing.
use Rattle.std.proofs.Common.{◌≡◌, ℕ, suc, ◌+◌, ◌<◌, ◌≤◌, Bool, true, false, cond, ◌⊎◌, sym, subst, inl, inr, arith}
use native.Mathlib.Decide.{dec_lt}
use Rattle.bound.specs.Differences.{Differences}
use Rattle.bound.specs.Meaning.{Meaning, Laws, Inside}
use Rattle.bound.proofs.Lawful.{tighter_both, tighter_either}
use Rattle.runs.specs.Tables.{IsJoined}
use Rattle.runs.specs.Places.{allowed_at}
use Rattle.runs.specs.Joining.{JoinedTo}
use Rattle.runs.proofs.Lists.{by_parts}

module _ {B : Type 0} (m : Meaning B) (laws : Laws m) (n : ℕ) (S T W : ℕ → ℕ → B) (joined : JoinedTo m n S T W) where
  abbrev D : Differences
  D = m.differences

  -- bounds that are equal allow the same
  moved : (a b : B) → a ≡ b → Inside m a b
  moved a b e d h = subst (λ x. m.allows x d) e h

  first_out : (u v : ℕ) → u < suc n + suc n → v < suc n + suc n → Inside m (W u v) (S u v)
  first_out u v hu hv =
      by_parts (suc n) (suc n) (λ u. Inside m (W u v) (S u v)) (λ u l. moved (W u v) (S u v) (joined.first u v (omega arith) hv (inl l)))
      (λ i l. by_parts (suc n) (suc n) (λ v. Inside m (W (suc n + i) v) (S (suc n + i) v))
      (λ v k. moved (W (suc n + i) v) (S (suc n + i) v) (joined.first (suc n + i) v (omega arith) (omega arith) (inr k)))
      (λ j k d h. ((tighter_both m laws (S (suc n + i) (suc n + j)) (T i j) d).0 (moved _ _ (joined.middle i j l k) d h)).0) v hv) u hu

  second_out : (i j : ℕ) → i < suc n + suc n → j < suc n + suc n → Inside m (W (suc n + i) (suc n + j)) (T i j)
  second_out i j hi hj = go (dec_lt i (suc n)) (dec_lt j (suc n))
    where
      go : Dec (i < suc n) → Dec (j < suc n) → Inside m (W (suc n + i) (suc n + j)) (T i j)
      go (yes l) (yes k) = λ d h. ((tighter_both m laws (S (suc n + i) (suc n + j)) (T i j) d).0 (moved _ _ (joined.middle i j l k) d h)).1
      go (yes l) (no k) = moved _ _ (joined.second i j hi hj (inr (omega arith)))
      go (no l) _ = moved _ _ (joined.second i j hi hj (inl (omega arith)))

  middle_either : (i j : ℕ) → i < suc n → j < suc n
      → Inside m (S (suc n + i) (suc n + j)) (W (suc n + i) (suc n + j)) ⊎ Inside m (T i j) (W (suc n + i) (suc n + j))
  middle_either i j l k =
      subst (λ x. (Inside m (S (suc n + i) (suc n + j)) x ⊎ Inside m (T i j) x)) (sym (joined.middle i j l k))
      (tighter_either m laws (S (suc n + i) (suc n + j)) (T i j))

  -- JOINED
  pub joined_to : IsJoined D (suc n) (allowed_at m S) (allowed_at m T) (allowed_at m W)
  joined_to =
      record {
        left_out = first_out;
        left_in = λ u v hu hv e. moved (S u v) (W u v) (sym (joined.first u v hu hv e));
        middle_either = middle_either;
        right_out = second_out;
        right_in = λ i j hi hj e. moved (T i j) (W (suc n + i) (suc n + j)) (sym (joined.second i j hi hj e));
        open_right = λ u j hu hj e d. moved m.opened (W u (suc n + j)) (sym (joined.open_onward u j hu hj e)) d (laws.open_allows d);
        open_left = λ i v hi e hv d. moved m.opened (W (suc n + i) v) (sym (joined.open_back i v hi e hv)) d (laws.open_allows d);
      }

  -- SMALL: no size is above the greatest of the two tables.
  pub joined_small : (most : ℕ) → ((u v : ℕ) → u < suc n + suc n → v < suc n + suc n → m.size_of (S u v) ≤ most)
      → ((u v : ℕ) → u < suc n + suc n → v < suc n + suc n → m.size_of (T u v) ≤ most)
      → (u v : ℕ) → u < suc n + (suc n + suc n) → v < suc n + (suc n + suc n) → m.size_of (W u v) ≤ most
  joined_small most h_s h_t u v hu hv =
      by_parts (suc n) (suc n + suc n) (λ u. Small (W u v))
      (λ u lu. by_parts (suc n) (suc n + suc n) (λ v. Small (W u v))
      (λ v lv. small (joined.first u v (omega arith) (omega arith) (inl lu)) (h_s u v (omega arith) (omega arith)))
      (λ j lj. to_right u lu j lj (dec_lt j (suc n))) v hv)
      (λ i li. by_parts (suc n) (suc n + suc n) (λ v. Small (W (suc n + i) v))
      (λ v lv. to_left i li (dec_lt i (suc n)) v lv)
      (λ j lj. inside i j li lj (dec_lt i (suc n)) (dec_lt j (suc n))) v hv) u hu
    where
      Small : B → Type 0
      Small b = m.size_of b ≤ most

      small : {a b : B} → a ≡ b → Small b → Small a
      small e h = subst (λ x. m.size_of x ≤ most) (sym e) h

      opened : m.size_of m.opened ≤ most
      opened = let e = laws.open_size in omega arith

      one_of : (t : Bool) (a b : B) → m.size_of a ≤ most → m.size_of b ≤ most → m.size_of (cond t a b) ≤ most
      one_of true a b h k = h
      one_of false a b h k = k

      to_right : (u : ℕ) → u < suc n → (j : ℕ) → j < suc n + suc n → Dec (j < suc n) → Small (W u (suc n + j))
      to_right u lu j lj (yes l) = small (joined.first u (suc n + j) (omega arith) (omega arith) (inl lu)) (h_s u (suc n + j) (omega arith) (omega arith))
      to_right u lu j lj (no l) = small (joined.open_onward u j lu lj (omega arith)) opened

      to_left : (i : ℕ) → i < suc n + suc n → Dec (i < suc n) → (v : ℕ) → v < suc n → Small (W (suc n + i) v)
      to_left i li (yes l) v lv = small (joined.first (suc n + i) v (omega arith) (omega arith) (inr lv)) (h_s (suc n + i) v (omega arith) (omega arith))
      to_left i li (no l) v lv = small (joined.open_back i v li (omega arith) lv) opened

      inside : (i j : ℕ) → i < suc n + suc n → j < suc n + suc n → Dec (i < suc n) → Dec (j < suc n) → Small (W (suc n + i) (suc n + j))
      inside i j li lj (yes p) (yes q) =
          small (joined.middle i j p q)
          (one_of (m.tighter (S (suc n + i) (suc n + j)) (T i j)) (S (suc n + i) (suc n + j)) (T i j) (h_s (suc n + i) (suc n + j) (omega arith) (omega arith)) (h_t i j li lj))
      inside i j li lj (yes p) (no q) = small (joined.second i j li lj (inr (omega arith))) (h_t i j li lj)
      inside i j li lj (no p) _ = small (joined.second i j li lj (inl (omega arith))) (h_t i j li lj)

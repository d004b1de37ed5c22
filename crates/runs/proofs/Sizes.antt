-- Sizes under pivots. After pivots on k nodes no size is above (k + 1) times the greatest at first, though each pivot adds two sizes:
-- a way that would pass a node twice is never tighter than one that is there already. So sums in a join stay within a kind's reach.
use Rattle.std.proofs.Common.{◌≡◌, ℕ, ◌+◌, ◌*◌, ◌<◌, ◌≤◌, Bool, true, false, ◌||◌, ◌⊎◌, List, [], ◌∷◌, length, sym, refl, subst, inl, inr, mul-le-mul_right, add-mul, one-mul, arith}
use Rattle.bound.specs.Differences.{Differences, Ordered, zero_of}
use Rattle.runs.specs.Tables.{Table, Lower, Sum, Pivoted, Within}
use Rattle.bound.specs.Solver.{◌⊞◌, nil, v0, v1, v2, v3, v4, le_from2}
use Rattle.runs.specs.Sizes.{Mask, tick, count, Used, AllUsed, OnWay, SizedBy}
use Rattle.runs.proofs.Sums.{sum_map, sum_right, sum_left}
use Rattle.runs.proofs.Pivot.{pivot_keeps, pivot_settles}

-- ── Some of the nodes of a list ──

abbrev union : (ps : List ℕ) → Mask ps → Mask ps → Mask ps
union [] a b = tt
union (p ∷ ps) a b = (a.0 || b.0, union ps a.1 b.1)

-- two choices have a node in common, or together as many as one and the other
overlap : (R S : ℕ → Type 0) (ps : List ℕ) (a b : Mask ps) → AllUsed R ps a → AllUsed S ps b
    → ((q : ℕ) × R q × S q) ⊎ (count ps (union ps a b) ≡ count ps a + count ps b)
overlap R S [] a b h k = inr refl
overlap R S (p ∷ ps) a b h k = go a.0 b.0 h.0 k.0 (overlap R S ps a.1 b.1 h.1 k.1)
  where
    Rest : Type 0
    Rest = ((q : ℕ) × R q × S q) ⊎ (count ps (union ps a.1 b.1) ≡ count ps a.1 + count ps b.1)

    go : (x y : Bool) → Used x (R p) → Used y (S p) → Rest
        → ((q : ℕ) × R q × S q) ⊎ (tick (x || y) + count ps (union ps a.1 b.1) ≡ (tick x + count ps a.1) + (tick y + count ps b.1))
    go true true h k r = inl (p, h, k)
    go true false h k (inl s) = inl s
    go true false h k (inr e) = inr (omega arith)
    go false true h k (inl s) = inl s
    go false true h k (inr e) = inr (omega arith)
    go false false h k (inl s) = inl s
    go false false h k (inr e) = inr (omega arith)

used_union : (R S Q : ℕ → Type 0) → ((q : ℕ) → R q → Q q) → ((q : ℕ) → S q → Q q) → (ps : List ℕ) (a b : Mask ps)
    → AllUsed R ps a → AllUsed S ps b → AllUsed Q ps (union ps a b)
used_union R S Q f g [] a b h k = tt
used_union R S Q f g (p ∷ ps) a b h k = (go a.0 b.0 h.0 k.0, used_union R S Q f g ps a.1 b.1 h.1 k.1)
  where
    go : (x y : Bool) → Used x (R p) → Used y (S p) → Used (x || y) (Q p)
    go true y h k = f p h
    go false true h k = g p k
    go false false h k = tt

pub used_map : (R Q : ℕ → Type 0) → ((q : ℕ) → R q → Q q) → (ps : List ℕ) (a : Mask ps) → AllUsed R ps a → AllUsed Q ps a
used_map R Q f [] a h = tt
used_map R Q f (p ∷ ps) a h = (go a.0 h.0, used_map R Q f ps a.1 h.1)
  where
    go : (x : Bool) → Used x (R p) → Used x (Q p)
    go true h = f p h
    go false h = tt

count_length : (ps : List ℕ) (a : Mask ps) → count ps a ≤ length ps
count_length [] a = omega arith
count_length (p ∷ ps) a = go a.0 (count_length ps a.1)
  where
    go : (x : Bool) → count ps a.1 ≤ length ps → tick x + count ps a.1 ≤ length (p ∷ ps)
    go true h = omega arith
    go false h = omega arith

-- ── Ways through nodes ──

-- How a pivot on p changes a size: the place stays unless the way by p is chosen, and keeps its size where it allows the same as before.
pub record Resized (D : Differences) (W : Table D) (p : ℕ) (size size' : ℕ → ℕ → ℕ) (u v : ℕ) : Type 0 where
  pub either : Within D (W u v) (Sum D (W u p) (W p v)) ⊎ (Within D (Sum D (W u p) (W p v)) (W u v) × (size' u v ≤ size u p + size p v))
  pub equal : Within D (W u v) (Sum D (W u p) (W p v)) → size' u v ≡ size u v

-- at first
pub sized_first : (D : Differences) (N : ℕ) (W : Table D) (B : ℕ) (size : ℕ → ℕ → ℕ) → ((u v : ℕ) → u < N → v < N → size u v ≤ B) → SizedBy D N W [] B size
sized_first D N W B size h u v hu hv = (tt, tt, let e = one-mul B in let k = h u v hu hv in omega arith)

-- so no size is above (k + 1) × B
pub sized_bound : (D : Differences) (N : ℕ) (W : Table D) (ps : List ℕ) (B : ℕ) (size : ℕ → ℕ → ℕ) → SizedBy D N W ps B size
    → (u v : ℕ) → u < N → v < N → size u v ≤ (length ps + 1) * B
sized_bound D N W ps B size s u v hu hv = go (s u v hu hv)
  where
    go : ((a : Mask ps) × AllUsed (OnWay D N W u v) ps a × (size u v ≤ (count ps a + 1) * B)) → size u v ≤ (length ps + 1) * B
    go (a, h, k) =
        let c : count ps a + 1 ≤ length ps + 1 = let l = count_length ps a in omega arith in
        let m : (count ps a + 1) * B ≤ (length ps + 1) * B = mul-le-mul_right B c in
        omega arith

module _ {D : Differences} (o : Ordered D) (N : ℕ) (W : Table D) (low : (u v : ℕ) → Lower D (W u v)) (p : ℕ) (hp : p < N) (free : W p p (zero_of D)) where
  open D use {Diff, le, add, neg}

  -- a node q on both ways: the way by p is no tighter than the place
  shared : (u v q : ℕ) → u < N → v < N → OnWay D N W u p q → OnWay D N W p v q → Within D (W u v) (Sum D (W u p) (W p v))
  shared u v q hu hv a b d h =
      go (a.settled.through u v hu hv d h) (a.settled.through p p hp hp (zero_of D) free)
    where
      go : Sum D (W u q) (W q v) d → Sum D (W p q) (W q p) (zero_of D) → Sum D (W u p) (W p v) d
      go (e, f, he, hf, l) (g, k, hg, hk, m) = (
        add e k,
        add g f,
        a.passing (add e k) (e, k, he, hk, o.le_refl (add e k)),
        b.passing (add g f) (g, f, hg, hf, o.le_refl (add g f)),
        le_from2 o (d ∷ e ∷ f ∷ g ∷ k ∷ []) v0 (v1 ⊞ v4 ⊞ (v3 ⊞ v2)) v0 (v1 ⊞ v2) nil (v3 ⊞ v4) refl l m,
      )

  -- a node on a way stays on it where the place stays
  stays : (u v q : ℕ) → Within D (W u v) (Sum D (W u p) (W p v)) → OnWay D N W u v q → OnWay D N (Pivoted D W p) u v q
  stays u v q keep a =
      record {
        below = a.below;
        settled = pivot_keeps o N W low p hp free q a.below a.settled;
        passing = λ d h.
            let k = a.passing d (sum_map o (Pivoted D W p u q) (Pivoted D W p q v) (W u q) (W q v) (λ e x. x.0) (λ f x. x.0) d h) in
            (k, keep d k);
      }

  -- a node on the way to p, or from p, is on the way by p
  comes : (u v q : ℕ) → Within D (Sum D (W u p) (W p v)) (W u v) → OnWay D N W u p q → OnWay D N (Pivoted D W p) u v q
  comes u v q choose a =
      record {
        below = a.below;
        settled = pivot_keeps o N W low p hp free q a.below a.settled;
        passing = λ d h.
            let k : Sum D (W u p) (W p v) d =
            sum_map o (Sum D (W u q) (W q p)) (W p v) (W u p) (W p v) a.passing (λ f x. x) d
            (sum_left o (W u q) (W q p) (W p v) d
            (sum_map o (Pivoted D W p u q) (Pivoted D W p q v) (W u q) (Sum D (W q p) (W p v)) (λ e x. x.0) (λ f x. x.1) d h)) in
            (choose d k, k);
      }

  goes : (u v q : ℕ) → Within D (Sum D (W u p) (W p v)) (W u v) → OnWay D N W p v q → OnWay D N (Pivoted D W p) u v q
  goes u v q choose a =
      record {
        below = a.below;
        settled = pivot_keeps o N W low p hp free q a.below a.settled;
        passing = λ d h.
            let k : Sum D (W u p) (W p v) d =
            sum_map o (W u p) (Sum D (W p q) (W q v)) (W u p) (W p v) (λ f x. x) a.passing d
            (sum_right o (W u p) (W p q) (W q v) d
            (sum_map o (Pivoted D W p u q) (Pivoted D W p q v) (Sum D (W u p) (W p q)) (W q v) (λ e x. x.1) (λ f x. x.0) d h)) in
            (choose d k, k);
      }

  itself : (u v : ℕ) → Within D (Sum D (W u p) (W p v)) (W u v) → OnWay D N (Pivoted D W p) u v p
  itself u v choose =
      record {
        below = hp;
        settled = pivot_settles o N W p free;
        passing = λ d h.
            let k = sum_map o (Pivoted D W p u p) (Pivoted D W p p v) (W u p) (W p v) (λ e x. x.0) (λ f x. x.0) d h in
            (choose d k, k);
      }

  -- STEP: a pivot keeps the rule, with one node more.
  pub sized_step : (ps : List ℕ) (B : ℕ) (size size' : ℕ → ℕ → ℕ) → SizedBy D N W ps B size
      → ((u v : ℕ) → u < N → v < N → Resized D W p size size' u v) → SizedBy D N (Pivoted D W p) (p ∷ ps) B size'
  sized_step ps B size size' s r u v hu hv = pick (r u v hu hv).either (s u p hu hp) (s p v hp hv)
    where
      Place : ℕ → ℕ → Type 0
      Place u v = (a : Mask ps) × AllUsed (OnWay D N W u v) ps a × (size u v ≤ (count ps a + 1) * B)

      Result : Type 0
      Result = (a : Mask (p ∷ ps)) × AllUsed (OnWay D N (Pivoted D W p) u v) (p ∷ ps) a × (size' u v ≤ (count (p ∷ ps) a + 1) * B)

      old : Within D (W u v) (Sum D (W u p) (W p v)) → Place u v → Result
      old keep (a, h, k) = (
        (false, a),
        (tt, used_map (OnWay D N W u v) (OnWay D N (Pivoted D W p) u v) (λ q. stays u v q keep) ps a h),
        (let e : 0 + count ps a ≡ count ps a = omega arith in
            let f : size' u v ≡ size u v = (r u v hu hv).equal keep in
            let g : size' u v ≤ (count ps a + 1) * B = omega arith in
            subst (λ z. size' u v ≤ (z + 1) * B) (sym e) g),
      )

      new : Within D (Sum D (W u p) (W p v)) (W u v) → size' u v ≤ size u p + size p v → (b c : Mask ps)
          → AllUsed (OnWay D N W u p) ps b → AllUsed (OnWay D N W p v) ps c → size u p ≤ (count ps b + 1) * B → size p v ≤ (count ps c + 1) * B
          → ((q : ℕ) × OnWay D N W u p q × OnWay D N W p v q) ⊎ (count ps (union ps b c) ≡ count ps b + count ps c) → Result
      new choose l b c hb hc kb kc (inl (q, x, y)) = old (shared u v q hu hv x y) (s u v hu hv)
      new choose l b c hb hc kb kc (inr e) = (
        (true, union ps b c),
        (
          itself u v choose,
          used_union (OnWay D N W u p) (OnWay D N W p v) (OnWay D N (Pivoted D W p) u v) (λ q. comes u v q choose) (λ q. goes u v q choose) ps b c hb hc,
        ),
        (let f : (count ps b + 1) + (count ps c + 1) ≡ (1 + count ps (union ps b c)) + 1 = omega arith in
            let m : ((count ps b + 1) + (count ps c + 1)) * B ≡ (count ps b + 1) * B + (count ps c + 1) * B = add-mul (count ps b + 1) (count ps c + 1) B in
            let g : size' u v ≤ ((count ps b + 1) + (count ps c + 1)) * B = omega arith in
            subst (λ z. size' u v ≤ z * B) f g),
      )

      pick : Within D (W u v) (Sum D (W u p) (W p v)) ⊎ (Within D (Sum D (W u p) (W p v)) (W u v) × (size' u v ≤ size u p + size p v))
          → Place u p → Place p v → Result
      pick (inl keep) _ _ = old keep (s u v hu hv)
      pick (inr (choose, l)) (b, hb, kb) (c, hc, kc) = new choose l b c hb hc kb kc (overlap (OnWay D N W u p) (OnWay D N W p v) ps b c hb hc)

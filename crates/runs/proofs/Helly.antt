-- Helly's theorem on a line: demands from below and from above that agree in pairs are all met by one point. It needs the order to be total, and no more.
use Rattle.std.proofs.Common.{ℕ, zero, suc, ◌<◌, ◌⊎◌, List, [], ◌∷◌, refl, inl, inr, arith}
use Rattle.bound.specs.Differences.{Differences, Ordered, minus}
use Rattle.runs.specs.Tables.{Set, Lower, Sum}
use Rattle.chart.specs.Lists.{All}
use Rattle.runs.proofs.Lists.{all_map, up_to}
use Rattle.bound.specs.Solver.{◌⊞◌, ◌⊟◌, v0, v1, v2, v3, le_same, le_from}

-- ── Demands ──

-- A set that is closed downwards, and the place from which it measures.
pub record Demand (D : Differences) : Type 1 where
  pub set : Set D
  pub lower : Lower D set
  pub place : D.Diff

-- r is high enough for the demand: place − r is in the set.
abbrev pub Above : (D : Differences) → D.Diff → Demand D → Type 0
Above D r q = q.set (minus D q.place r)

-- r is low enough for the demand: r − place is in the set.
abbrev pub Below : (D : Differences) → D.Diff → Demand D → Type 0
Below D r q = q.set (minus D r q.place)

-- A demand from below and one from above leave room for a point.
abbrev pub Agree : (D : Differences) → Demand D → Demand D → Type 0
Agree D q p = Sum D q.set p.set (minus D q.place p.place)

module _ {D : Differences} (o : Ordered D) where
  open D use {Diff, le, add, neg}

  -- the lesser of two points that have a property has it
  pub lesser_of : (P : Diff → Type 0) (a b : Diff) → P a → P b → (c : Diff) × P c × le c a × le c b
  lesser_of P a b h k = go (o.total a b)
    where
      go : le a b ⊎ le b a → (c : Diff) × P c × le c a × le c b
      go (inl e) = (a, h, o.le_refl a, e)
      go (inr e) = (b, k, e, o.le_refl b)

  pub greater_of : (P : Diff → Type 0) (a b : Diff) → P a → P b → (c : Diff) × P c × le a c × le b c
  greater_of P a b h k = go (o.total a b)
    where
      go : le a b ⊎ le b a → (c : Diff) × P c × le a c × le b c
      go (inl e) = (b, k, e, o.le_refl b)
      go (inr e) = (a, h, o.le_refl a, e)

  -- points of P, one high enough for each of Q 0, .., Q (k − 1): one that is high enough for all
  pub highest : (P : Set D) (Q : ℕ → Set D) → ((i : ℕ) (a b : Diff) → le a b → Q i a → Q i b)
      → (start : Diff) → P start → (k : ℕ) → ((i : ℕ) → i < k → (e : Diff) × P e × Q i e)
      → (e : Diff) × P e × ((i : ℕ) → i < k → Q i e)
  highest P Q up s hs zero h = (s, hs, λ i l. absurd (omega arith))
  highest P Q up s hs (suc k) h = go (highest P Q up s hs k (λ i l. h i (omega arith))) (h k (omega arith))
    where
      go : ((e : Diff) × P e × ((i : ℕ) → i < k → Q i e)) → ((e : Diff) × P e × Q k e) → (e : Diff) × P e × ((i : ℕ) → i < suc k → Q i e)
      go (e, pe, qe) (f, pf, qf) = more (greater_of P e f pe pf)
        where
          more : ((c : Diff) × P c × le e c × le f c) → (e : Diff) × P e × ((i : ℕ) → i < suc k → Q i e)
          more (c, pc, ec, fc) = (c, pc, up_to k (λ i. Q i c) (λ i l. up i e c ec (qe i l)) (up k f c fc qf))

  pub above_up : (q : Demand D) (r s : Diff) → le r s → Above D r q → Above D s q
  above_up q r s h k =
      q.lower (minus D q.place r) (minus D q.place s)
      (le_from o (q.place ∷ r ∷ s ∷ []) (v0 ⊟ v2) (v0 ⊟ v1) v1 v2 refl h) k

  pub below_down : (q : Demand D) (r s : Diff) → le s r → Below D r q → Below D s q
  below_down q r s h k =
      q.lower (minus D r q.place) (minus D s q.place)
      (le_from o (q.place ∷ r ∷ s ∷ []) (v2 ⊟ v0) (v1 ⊟ v0) v2 v1 refl h) k

  -- demands that agree have a point
  pub agreed_point : (q p : Demand D) → Agree D q p → (r : Diff) × Above D r q × Below D r p
  agreed_point q p (e, f, he, hf, h) = (
    minus D q.place e,
    q.lower e (minus D q.place (minus D q.place e)) (le_same o (q.place ∷ e ∷ []) (v0 ⊟ (v0 ⊟ v1)) v1 refl) he,
    p.lower f (minus D (minus D q.place e) p.place)
        (le_from o (q.place ∷ p.place ∷ e ∷ f ∷ []) (v0 ⊟ v2 ⊟ v1) v3 (v0 ⊟ v1) (v2 ⊞ v3) refl h) hf,
  )

  -- one demand from below, and any from above
  under_all : (q : Demand D) (r : Diff) → Above D r q → (ps : List (Demand D)) → All (Agree D q) ps
      → (s : Diff) × Above D s q × All (Below D s) ps
  under_all q r h [] k = (r, h, tt)
  under_all q r h (p ∷ ps) k =
      let (s, hs, ks) = under_all q r h ps k.1 in
      let (t, ht, kt) = agreed_point q p k.0 in
      let (m, hm, ms, mt) = lesser_of (λ z. Above D z q) s t hs ht in
      (m, hm, (below_down p t m mt kt, all_map (Below D s) (Below D m) (λ z. below_down z s m ms) ps ks))

  -- any from below, each of which has a point that is low enough for all from above
  over_all : (ps : List (Demand D)) (r : Diff) → All (Below D r) ps → (qs : List (Demand D))
      → All (λ q. (s : Diff) × Above D s q × All (Below D s) ps) qs
      → (s : Diff) × All (Above D s) qs × All (Below D s) ps
  over_all ps r h [] k = (r, tt, h)
  over_all ps r h (q ∷ qs) k =
      let (s, hs, ks) = over_all ps r h qs k.1 in
      let (t, ht, kt) = k.0 in
      let (m, hm, ms, mt) = greater_of (λ z. All (Below D z) ps) s t ks kt in
      (m, (above_up q t m mt ht, all_map (Above D s) (Above D m) (λ z. above_up z s m ms) qs hs), hm)

  -- HELLY: demands qs from below and ps from above, some of each, that agree in pairs, are met by one point.
  pub helly : (q : Demand D) (qs : List (Demand D)) (p : Demand D) (ps : List (Demand D))
      → All (λ q. All (Agree D q) (p ∷ ps)) (q ∷ qs)
      → (r : Diff) × All (Above D r) (q ∷ qs) × All (Below D r) (p ∷ ps)
  helly q qs p ps h =
      let start : (q : Demand D) → All (Agree D q) (p ∷ ps) → (s : Diff) × Above D s q × All (Below D s) (p ∷ ps)
      = λ q k. let (r, hr, _) = agreed_point q p k.0 in under_all q r hr (p ∷ ps) k in
      let (r, _, hr) = start q h.0 in
      over_all (p ∷ ps) r hr (q ∷ qs)
      (all_map (λ q. All (Agree D q) (p ∷ ps)) (λ q. (s : Diff) × Above D s q × All (Below D s) (p ∷ ps)) start (q ∷ qs) h)

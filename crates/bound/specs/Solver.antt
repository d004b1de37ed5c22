-- The solver for sums of differences: two expressions with the same coefficients have the same value, and one order follows from others. Assumes nothing.
use Rattle.std.specs.Prelude.{◌≡◌, ℕ, zero, suc, Bool, true, false, not, List, [], ◌∷◌, ℤ, pos, negsuc, refl}
use Rattle.std.proofs.Common.{sym, subst}
use Rattle.std.proofs.Math.IntN.{suc_ℤ, pred_ℤ}
use Rattle.bound.specs.Differences.{Differences, Same, Ordered, zero_of}
use Rattle.bound.specs.Groups.{≤_trans, ≈-refl, ≈-sym, ≈-trans, add-≤, add-≈, zero_left}

infixl 60 ◌⊞◌ ◌⊟◌
-- A sum of variables, read in a list of differences.
pub data Expr : Type 0 where
  var : ℕ → Expr
  nil : Expr
  ◌⊞◌ : Expr → Expr → Expr
  opp : Expr → Expr

abbrev pub ◌⊟◌ : Expr → Expr → Expr
a ⊟ b = a ⊞ opp b

-- One more (true) or one less (false).
abbrev pub step : Bool → ℤ → ℤ
step true k = suc_ℤ k
step false k = pred_ℤ k

-- The coefficient of variable i goes up or down by one.
abbrev pub bump : Bool → ℕ → List ℤ → List ℤ
bump s zero [] = step s (pos 0) ∷ []
bump s zero (k ∷ ks) = step s k ∷ ks
bump s (suc i) [] = pos 0 ∷ bump s i []
bump s (suc i) (k ∷ ks) = k ∷ bump s i ks

-- The coefficients of an expression, or of its opposite, added to those given.
abbrev pub collect : Expr → Bool → List ℤ → List ℤ
collect (var i) s ks = bump s i ks
collect nil s ks = ks
collect (a ⊞ b) s ks = collect a s (collect b s ks)
collect (opp a) s ks = collect a (not s) ks

abbrev pub noughts : {A : Type 0} → List A → List ℤ
noughts [] = []
noughts (x ∷ xs) = pos 0 ∷ noughts xs

-- The normal form: one coefficient for each difference of the list.
abbrev pub coefficients : {A : Type 0} → List A → Expr → List ℤ
coefficients xs e = collect e true (noughts xs)

abbrev pub v0 : Expr
v0 = var 0

abbrev pub v1 : Expr
v1 = var 1

abbrev pub v2 : Expr
v2 = var 2

abbrev pub v3 : Expr
v3 = var 3

abbrev pub v4 : Expr
v4 = var 4

abbrev pub v5 : Expr
v5 = var 5

abbrev pub v6 : Expr
v6 = var 6

abbrev pub v7 : Expr
v7 = var 7

module _ {D : Differences} (o : Ordered D) where
  open D use {Diff, le, add, neg}

  -- what is added and taken away again
  cancel : (a b : Diff) → Same D (add a (add (neg a) b)) b
  cancel a b = ≈-trans o (≈-sym o (o.add_assoc a (neg a) b)) (≈-trans o (add-≈ o (o.add_neg a) (≈-refl o b)) (zero_left o b))

  cancel_neg : (a b : Diff) → Same D (add (neg a) (add a b)) b
  cancel_neg a b =
      ≈-trans o (≈-sym o (o.add_assoc (neg a) a b)) (≈-trans o (add-≈ o (≈-trans o (o.add_comm (neg a) a) (o.add_neg a)) (≈-refl o b)) (zero_left o b))

  -- a + (b + c) = b + (a + c)
  swap_front : (a b c : Diff) → Same D (add a (add b c)) (add b (add a c))
  swap_front a b c = ≈-trans o (≈-sym o (o.add_assoc a b c)) (≈-trans o (add-≈ o (o.add_comm a b) (≈-refl o c)) (o.add_assoc b a c))

  -- a difference that gives nought with a is −a
  neg_unique : (a b : Diff) → Same D (add a b) (zero_of D) → Same D b (neg a)
  neg_unique a b h =
      ≈-trans o (≈-sym o (cancel_neg a b)) (≈-trans o (add-≈ o (≈-refl o (neg a)) h) (o.add_zero (neg a)))

  pub neg-≈ : {a b : Diff} → Same D a b → Same D (neg a) (neg b)
  neg-≈ {a} {b} h = neg_unique b (neg a) (≈-trans o (add-≈ o (≈-sym o h) (≈-refl o (neg a))) (o.add_neg a))

  neg_neg : (a : Diff) → Same D (neg (neg a)) a
  neg_neg a = ≈-sym o (neg_unique (neg a) a (≈-trans o (o.add_comm (neg a) a) (o.add_neg a)))

  neg_zero : Same D (neg (zero_of D)) (zero_of D)
  neg_zero = ≈-sym o (neg_unique (zero_of D) (zero_of D) (o.add_zero (zero_of D)))

  neg_add : (a b : Diff) → Same D (neg (add a b)) (add (neg a) (neg b))
  neg_add a b =
      ≈-sym o (neg_unique (add a b) (add (neg a) (neg b))
      (≈-trans o (o.add_assoc a b (add (neg a) (neg b)))
      (≈-trans o (add-≈ o (≈-refl o a) (≈-trans o (swap_front b (neg a) (neg b)) (≈-trans o (add-≈ o (≈-refl o (neg a)) (o.add_neg b)) (o.add_zero (neg a)))))
      (o.add_neg a))))

  -- ── The meaning of an expression and of its coefficients ──

  abbrev pub at : List Diff → ℕ → Diff
  at [] i = zero_of D
  at (x ∷ xs) zero = x
  at (x ∷ xs) (suc i) = at xs i

  abbrev pub value : List Diff → Expr → Diff
  value xs (var i) = at xs i
  value xs nil = zero_of D
  value xs (a ⊞ b) = add (value xs a) (value xs b)
  value xs (opp a) = neg (value xs a)

  abbrev signed : Bool → Diff → Diff
  signed true a = a
  signed false a = neg a

  abbrev timesℕ : ℕ → Diff → Diff
  timesℕ zero a = zero_of D
  timesℕ (suc n) a = add a (timesℕ n a)

  abbrev times : ℤ → Diff → Diff
  times (pos n) a = timesℕ n a
  times (negsuc n) a = timesℕ (suc n) (neg a)

  abbrev total : List Diff → List ℤ → Diff
  total [] ks = zero_of D
  total (x ∷ xs) [] = zero_of D
  total (x ∷ xs) (k ∷ ks) = add (times k x) (total xs ks)

  times_suc : (k : ℤ) (a : Diff) → Same D (times (suc_ℤ k) a) (add a (times k a))
  times_suc (pos n) a = ≈-refl o (add a (timesℕ n a))
  times_suc (negsuc zero) a = ≈-sym o (cancel a (zero_of D))
  times_suc (negsuc (suc n)) a = ≈-sym o (cancel a (timesℕ (suc n) (neg a)))

  times_pred : (k : ℤ) (a : Diff) → Same D (times (pred_ℤ k) a) (add (neg a) (times k a))
  times_pred (pos zero) a = ≈-refl o (add (neg a) (zero_of D))
  times_pred (pos (suc n)) a = ≈-sym o (cancel_neg a (timesℕ n a))
  times_pred (negsuc n) a = ≈-refl o (add (neg a) (timesℕ (suc n) (neg a)))

  times_step : (s : Bool) (k : ℤ) (a : Diff) → Same D (times (step s k) a) (add (signed s a) (times k a))
  times_step true k a = times_suc k a
  times_step false k a = times_pred k a

  signed-≈ : (s : Bool) {a b : Diff} → Same D a b → Same D (signed s a) (signed s b)
  signed-≈ true h = h
  signed-≈ false h = neg-≈ h

  signed_zero : (s : Bool) → Same D (signed s (zero_of D)) (zero_of D)
  signed_zero true = ≈-refl o (zero_of D)
  signed_zero false = neg_zero

  signed_add : (s : Bool) (a b : Diff) → Same D (signed s (add a b)) (add (signed s a) (signed s b))
  signed_add true a b = ≈-refl o (add a b)
  signed_add false a b = neg_add a b

  signed_not : (s : Bool) (a : Diff) → Same D (signed (not s) a) (signed s (neg a))
  signed_not true a = ≈-refl o (neg a)
  signed_not false a = ≈-sym o (neg_neg a)

  total_nil : (xs : List Diff) → Same D (total xs []) (zero_of D)
  total_nil [] = ≈-refl o (zero_of D)
  total_nil (x ∷ xs) = ≈-refl o (zero_of D)

  total_noughts : (xs : List Diff) → Same D (total xs (noughts xs)) (zero_of D)
  total_noughts [] = ≈-refl o (zero_of D)
  total_noughts (x ∷ xs) = ≈-trans o (zero_left o (total xs (noughts xs))) (total_noughts xs)

  -- bumping a coefficient adds the variable
  bump_right : (xs : List Diff) (s : Bool) (i : ℕ) (ks : List ℤ) → Same D (total xs (bump s i ks)) (add (signed s (at xs i)) (total xs ks))
  bump_right [] s i ks = ≈-sym o (≈-trans o (o.add_zero (signed s (zero_of D))) (signed_zero s))
  bump_right (x ∷ xs) s zero [] =
      ≈-trans o (add-≈ o (times_step s (pos 0) x) (total_nil xs)) (≈-trans o (o.add_zero (add (signed s x) (zero_of D))) (≈-refl o (add (signed s x) (zero_of D))))
  bump_right (x ∷ xs) s zero (k ∷ ks) = ≈-trans o (add-≈ o (times_step s k x) (≈-refl o (total xs ks))) (o.add_assoc (signed s x) (times k x) (total xs ks))
  bump_right (x ∷ xs) s (suc i) [] =
      ≈-trans o (zero_left o (total xs (bump s i []))) (≈-trans o (bump_right xs s i []) (add-≈ o (≈-refl o (signed s (at xs i))) (total_nil xs)))
  bump_right (x ∷ xs) s (suc i) (k ∷ ks) =
      ≈-trans o (add-≈ o (≈-refl o (times k x)) (bump_right xs s i ks)) (swap_front (times k x) (signed s (at xs i)) (total xs ks))

  collect_right : (xs : List Diff) (e : Expr) (s : Bool) (ks : List ℤ)
      → Same D (total xs (collect e s ks)) (add (signed s (value xs e)) (total xs ks))
  collect_right xs (var i) s ks = bump_right xs s i ks
  collect_right xs nil s ks = ≈-sym o (≈-trans o (add-≈ o (signed_zero s) (≈-refl o (total xs ks))) (zero_left o (total xs ks)))
  collect_right xs (a ⊞ b) s ks =
      ≈-trans o (collect_right xs a s (collect b s ks))
      (≈-trans o (add-≈ o (≈-refl o (signed s (value xs a))) (collect_right xs b s ks))
      (≈-trans o (≈-sym o (o.add_assoc (signed s (value xs a)) (signed s (value xs b)) (total xs ks)))
      (add-≈ o (≈-sym o (signed_add s (value xs a) (value xs b))) (≈-refl o (total xs ks)))))
  collect_right xs (opp a) s ks =
      ≈-trans o (collect_right xs a (not s) ks) (add-≈ o (signed_not s (value xs a)) (≈-refl o (total xs ks)))

  coefficients_right : (xs : List Diff) (e : Expr) → Same D (total xs (coefficients xs e)) (value xs e)
  coefficients_right xs e =
      ≈-trans o (collect_right xs e true (noughts xs))
      (≈-trans o (add-≈ o (≈-refl o (value xs e)) (total_noughts xs)) (o.add_zero (value xs e)))

  -- ── The solver ──

  -- Expressions with the same coefficients have the same value: `rearrange (x ∷ y ∷ []) (v0 ⊞ v1) (v1 ⊞ v0) refl`.
  pub rearrange : (xs : List Diff) (a b : Expr) → coefficients xs a ≡ coefficients xs b → Same D (value xs a) (value xs b)
  rearrange xs a b e =
      ≈-trans o (≈-sym o (coefficients_right xs a))
      (subst (λ ks. Same D (total xs ks) (value xs b)) (sym e) (coefficients_right xs b))

  cancel_right : (a b c : Diff) → le (add a c) (add b c) → le a b
  cancel_right a b c h =
      let xs = a ∷ c ∷ [] in let ys = b ∷ c ∷ [] in
      ≤_trans o (rearrange xs v0 (v0 ⊞ v1 ⊟ v1) refl).0
      (≤_trans o (o.add_le (add a c) (add b c) (neg c) h) (rearrange ys (v0 ⊞ v1 ⊟ v1) v0 refl).0)

  -- a ≤ b where both have the same coefficients
  pub le_same : (xs : List Diff) (a b : Expr) → coefficients xs a ≡ coefficients xs b → le (value xs a) (value xs b)
  le_same xs a b e = (rearrange xs a b e).0

  -- a ≤ b from c ≤ d, where a + d = b + c
  pub le_from : (xs : List Diff) (a b c d : Expr) → coefficients xs (a ⊞ d) ≡ coefficients xs (b ⊞ c)
      → le (value xs c) (value xs d) → le (value xs a) (value xs b)
  le_from xs a b c d e h =
      cancel_right (value xs a) (value xs b) (value xs d)
      (≤_trans o (rearrange xs (a ⊞ d) (b ⊞ c) e).0 (add-≤ o (o.le_refl (value xs b)) h))

  -- a ≤ b from c ≤ d and e ≤ f, where a + (d + f) = b + (c + e)
  pub le_from2 : (xs : List Diff) (a b c d e f : Expr) → coefficients xs (a ⊞ (d ⊞ f)) ≡ coefficients xs (b ⊞ (c ⊞ e))
      → le (value xs c) (value xs d) → le (value xs e) (value xs f) → le (value xs a) (value xs b)
  le_from2 xs a b c d e f q h k = le_from xs a b (c ⊞ e) (d ⊞ f) q (add-≤ o h k)

  -- a ≤ b from c ≤ d, e ≤ f and g ≤ k, where a + (d + f + k) = b + (c + e + g)
  pub le_from3 : (xs : List Diff) (a b c d e f g k : Expr)
      → coefficients xs (a ⊞ (d ⊞ f ⊞ k)) ≡ coefficients xs (b ⊞ (c ⊞ e ⊞ g))
      → le (value xs c) (value xs d) → le (value xs e) (value xs f) → le (value xs g) (value xs k) → le (value xs a) (value xs b)
  le_from3 xs a b c d e f g k q h i j = le_from xs a b (c ⊞ e ⊞ g) (d ⊞ f ⊞ k) q (add-≤ o (add-≤ o h i) j)

  -- the same for equality
  pub same_from : (xs : List Diff) (a b c d : Expr) → coefficients xs (a ⊞ d) ≡ coefficients xs (b ⊞ c)
      → Same D (value xs c) (value xs d) → Same D (value xs a) (value xs b)
  same_from xs a b c d e h = (le_from xs a b c d e h.0, le_from xs b a d c (sym e) h.1)

  pub same_from2 : (xs : List Diff) (a b c d e f : Expr) → coefficients xs (a ⊞ (d ⊞ f)) ≡ coefficients xs (b ⊞ (c ⊞ e))
      → Same D (value xs c) (value xs d) → Same D (value xs e) (value xs f) → Same D (value xs a) (value xs b)
  same_from2 xs a b c d e f q h k = same_from xs a b (c ⊞ e) (d ⊞ f) q (add-≈ o h k)

  pub same_from3 : (xs : List Diff) (a b c d e f g k : Expr)
      → coefficients xs (a ⊞ (d ⊞ f ⊞ k)) ≡ coefficients xs (b ⊞ (c ⊞ e ⊞ g))
      → Same D (value xs c) (value xs d) → Same D (value xs e) (value xs f) → Same D (value xs g) (value xs k) → Same D (value xs a) (value xs b)
  same_from3 xs a b c d e f g k q h i j = same_from xs a b (c ⊞ e ⊞ g) (d ⊞ f ⊞ k) q (add-≈ o (add-≈ o h i) j)

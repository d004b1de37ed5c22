-- What holds of every element of a list, and of every number below another.
use Rattle.std.proofs.Common.{◌≡◌, ℕ, zero, suc, ◌+◌, ◌-◌, ◌<◌, ◌⊎◌, List, [], ◌∷◌, ◌++◌, length, refl, ap, subst, inl, inr, arith}
use native.Mathlib.Decide.{dec_lt}
use borrow.Author.Count.{below_more}
use Rattle.chart.specs.Lists.{All}
use Rattle.runs.specs.Lists.{At, row}
use Rattle.runs.specs.Lists.At.{here, later}

-- ── All of a list ──

pub all_map {ℓ} : {A : Type ℓ} (P Q : A → Type 0) → ((x : A) → P x → Q x) → (xs : List A) → All P xs → All Q xs
all_map P Q f [] h = tt
all_map P Q f (x ∷ xs) h = (f x h.0, all_map P Q f xs h.1)

pub all_both {ℓ} : {A : Type ℓ} (P Q : A → Type 0) (xs : List A) → All P xs → All Q xs → All (λ x. P x × Q x) xs
all_both P Q [] h k = tt
all_both P Q (x ∷ xs) h k = ((h.0, k.0), all_both P Q xs h.1 k.1)

pub all_last {ℓ} : {A : Type ℓ} (P : A → Type 0) (xs ys : List A) → All P (xs ++ ys) → All P ys
all_last P [] ys h = h
all_last P (x ∷ xs) ys h = all_last P xs ys h.1

pub all_units {ℓ} : {A : Type ℓ} (xs : List A) → All (λ x. Unit {0}) xs
all_units [] = tt
all_units (x ∷ xs) = (tt, all_units xs)

-- a rule that holds for every two of two lists, in the other order
pub all_flip {ℓ κ} : {A : Type ℓ} {B : Type κ} (R : A → B → Type 0) (xs : List A) (ys : List B)
    → All (λ x. All (λ y. R x y) ys) xs → All (λ y. All (λ x. R x y) xs) ys
all_flip R [] ys h = all_units ys
all_flip R (x ∷ xs) ys h = all_both (λ y. R x y) (λ y. All (λ x. R x y) xs) ys h.0 (all_flip R xs ys h.1)

-- the first where the decision is yes, else the second
abbrev pub pick : {A : Type 0} {B : Type 0} → Dec A → B → B → B
pick (yes a) x y = x
pick (no n) x y = y

-- what holds below n and at n holds up to n
pub up_to : (n : ℕ) (P : ℕ → Type 0) → ((u : ℕ) → u < n → P u) → P n → (u : ℕ) → u < suc n → P u
up_to n P below this u h = below_more P n below this u (omega arith)

-- what holds below m and m above every number below k holds below m + k
pub by_parts : (m k : ℕ) (P : ℕ → Type 0) → ((u : ℕ) → u < m → P u) → ((i : ℕ) → i < k → P (m + i)) → (u : ℕ) → u < m + k → P u
by_parts m k P h g u l = go (dec_lt u m)
  where
    go : Dec (u < m) → P u
    go (yes s) = h u s
    go (no s) = let e : m + (u - m) ≡ u = omega arith in subst P e (g (u - m) (omega arith))

pub all_append {ℓ} : {A : Type ℓ} (P : A → Type 0) (xs ys : List A) → All P xs → All P ys → All P (xs ++ ys)
all_append P [] ys h k = k
all_append P (x ∷ xs) ys h k = (h.0, all_append P xs ys h.1 k)

pub all_first {ℓ} : {A : Type ℓ} (P : A → Type 0) (xs ys : List A) → All P (xs ++ ys) → All P xs
all_first P [] ys h = tt
all_first P (x ∷ xs) ys h = (h.0, all_first P xs ys h.1)

pub length_row : {A : Type 0} (f : ℕ → A) (k : ℕ) → length (row f k) ≡ k
length_row f zero = refl
length_row f (suc k) = ap suc (length_row f k)

pub row_all {ℓ} : {A : Type ℓ} (P : A → Type 0) (f : ℕ → A) (m : ℕ) → ((i : ℕ) → i < m → P (f i)) → All P (row f m)
row_all P f zero h = tt
row_all P f (suc m) h = (h m (omega arith), row_all P f m (λ i l. h i (omega arith)))

pub all_row {ℓ} : {A : Type ℓ} (P : A → Type 0) (f : ℕ → A) (m : ℕ) → All P (row f m) → (i : ℕ) → i < m → P (f i)
all_row P f zero h i l = absurd (omega arith)
all_row P f (suc m) h i l = up_to m (λ i. P (f i)) (all_row P f m h.1) h.0 i l

abbrev pub grid {ℓ} : {A : Type ℓ} → (ℕ → ℕ → A) → ℕ → ℕ → List A
grid f m zero = []
grid f m (suc k) = row (f k) m ++ grid f m k

pub grid_all {ℓ} : {A : Type ℓ} (P : A → Type 0) (f : ℕ → ℕ → A) (m k : ℕ) → ((i j : ℕ) → i < k → j < m → P (f i j)) → All P (grid f m k)
grid_all P f m zero h = tt
grid_all P f m (suc k) h =
    all_append P (row (f k) m) (grid f m k) (row_all P (f k) m (λ j l. h k j (omega arith) l)) (grid_all P f m k (λ i j l r. h i j (omega arith) r))

pub all_grid {ℓ} : {A : Type ℓ} (P : A → Type 0) (f : ℕ → ℕ → A) (m k : ℕ) → All P (grid f m k) → (i j : ℕ) → i < k → j < m → P (f i j)
all_grid P f m zero h i j l r = absurd (omega arith)
all_grid P f m (suc k) h i j l r =
    up_to k (λ i. P (f i j)) (λ i s. all_grid P f m k (all_last P (row (f k) m) (grid f m k) h) i j s r)
    (all_row P (f k) m (all_first P (row (f k) m) (grid f m k) h) j r) i l

abbrev pub each {ℓ κ} : {A : Type ℓ} {B : Type κ} → (A → B) → List A → List B
each f [] = []
each f (x ∷ xs) = f x ∷ each f xs

pub all_each {ℓ κ} : {A : Type ℓ} {B : Type κ} (P : B → Type 0) (f : A → B) (xs : List A) → All (λ x. P (f x)) xs → All P (each f xs)
all_each P f [] h = tt
all_each P f (x ∷ xs) h = (h.0, all_each P f xs h.1)

pub each_all {ℓ κ} : {A : Type ℓ} {B : Type κ} (P : B → Type 0) (f : A → B) (xs : List A) → All P (each f xs) → All (λ x. P (f x)) xs
each_all P f [] h = tt
each_all P f (x ∷ xs) h = (h.0, each_all P f xs h.1)

-- what holds of all holds of the one at a place, and the other way round
pub all_at : {A : Type 0} (P : A → Type 0) {xs : List A} {j : ℕ} {x : A} → All P xs → At xs j x → P x
all_at P h here = h.0
all_at P h (later a) = all_at P h.1 a

pub at_all : {A : Type 0} (P : A → Type 0) (xs : List A) → ((j : ℕ) (x : A) → At xs j x → P x) → All P xs
at_all P [] h = tt
at_all P (x ∷ xs) h = (h 0 x here, at_all P xs (λ j y a. h (suc j) y (later a)))

-- places of the first and of the last part of a list
pub at_first : {A : Type 0} {xs : List A} {j : ℕ} {x : A} (ys : List A) → At xs j x → At (xs ++ ys) j x
at_first ys here = here
at_first ys (later a) = later (at_first ys a)

-- the place j of what follows xs
abbrev pub past : {A : Type 0} → List A → ℕ → ℕ
past [] j = j
past (x ∷ xs) j = suc (past xs j)

pub at_last : {A : Type 0} (xs : List A) {ys : List A} {j : ℕ} {y : A} → At ys j y → At (xs ++ ys) (past xs j) y
at_last [] a = a
at_last (x ∷ xs) a = later (at_last xs a)

pub past_first : {A : Type 0} (xs : List A) → past xs 0 ≡ length xs
past_first [] = refl
past_first (x ∷ xs) = ap suc (past_first xs)

pub past_last : {A : Type 0} (xs ys : List A) → past xs (length ys) ≡ length (xs ++ ys)
past_last [] ys = refl
past_last (x ∷ xs) ys = ap suc (past_last xs ys)

pub past_suc : {A : Type 0} (xs : List A) (j : ℕ) → past xs (suc j) ≡ suc (past xs j)
past_suc [] j = refl
past_suc (x ∷ xs) j = ap suc (past_suc xs j)

-- a place of a list with one more at the end
pub at_split : {A : Type 0} (xs : List A) {y x : A} {j : ℕ} → At (xs ++ y ∷ []) j x → ((k : ℕ) × At xs k x) ⊎ (x ≡ y)
at_split [] here = inr refl
at_split [] (later a) = elim a [ ]
at_split (z ∷ xs) here = inl (0, here)
at_split {A} (z ∷ xs) {y} {x} (later a) = go (at_split xs a)
  where
    go : ((k : ℕ) × At xs k x) ⊎ (x ≡ y) → ((k : ℕ) × At (z ∷ xs) k x) ⊎ (x ≡ y)
    go (inl (k, b)) = inl (suc k, later b)
    go (inr e) = inr e

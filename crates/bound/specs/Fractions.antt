-- Fractions are an ordered group, and can be shifted and halved. A fraction is read as (up − down) over bottom, over the naturals, where `omega` multiplies out. Assumes nothing.
use Rattle.std.specs.Prelude.{◌≡◌, ℕ, ◌+◌, ◌*◌, ◌<◌, ◌≤◌, ℤ, pos, ◌+ℤ◌, ◌-ℤ◌, ◌*ℤ◌}
use Rattle.std.proofs.Common.{ap, inl, inr, mul-le-mul_right, le_of_mul-le-mul_right, arith}
use borrow.Author.Differences.{ints, up, down, sum_is_lem, neg_is}
use Rattle.std.proofs.lemmas.Int.{by_lt_z}
use Rattle.bound.specs.Differences.{Same, Less, Ordered}
use Rattle.bound.specs.Edges.{Fraction, fraction_le, fraction_add, fraction_neg, fraction_whole, fractions}

-- ---- the order, over the naturals
pub le_out : (x y : Fraction) → fraction_le x y → up x.top * y.bottom + down y.top * x.bottom ≤ up y.top * x.bottom + down x.top * y.bottom
le_out x y h = omega (arith, ints, h.crosswise)

pub le_in : (x y : Fraction) → up x.top * y.bottom + down y.top * x.bottom ≤ up y.top * x.bottom + down x.top * y.bottom → fraction_le x y
le_in x y h = record { crosswise = omega (arith, ints) }

pub less_out : (x y : Fraction) → Less fractions x y → up x.top * y.bottom + down y.top * x.bottom < up y.top * x.bottom + down x.top * y.bottom
less_out x y h = by_lt_z (x.top *ℤ pos y.bottom) (y.top *ℤ pos x.bottom) (λ l. omega (arith, ints)) (λ l. absurd (h.1 (record { crosswise = l })))

pub less_in : (x y : Fraction) → up x.top * y.bottom + down y.top * x.bottom < up y.top * x.bottom + down x.top * y.bottom → Less fractions x y
less_in x y h = (le_in x y (omega arith), λ k. omega (arith, le_out y x k))

pub same_in : (x y : Fraction) → up x.top * y.bottom + down y.top * x.bottom ≡ up y.top * x.bottom + down x.top * y.bottom → Same fractions x y
same_in x y e = (le_in x y (omega arith), le_in y x (omega arith))

-- ---- the sum's top, times any number
pub add_is :
    (x y : Fraction) →
    up (fraction_add x y).top + (down x.top * y.bottom + down y.top * x.bottom) ≡ down (fraction_add x y).top + (up x.top * y.bottom + up y.top * x.bottom)
add_is x y = omega (arith, ints)

pub times : {a b : ℕ} (k : ℕ) → a ≡ b → a * k ≡ b * k
times k e = ap (λ (n : ℕ). n * k) e

pub add_times :
    (x y : Fraction) (k : ℕ) →
    up (fraction_add x y).top * k + (down x.top * y.bottom + down y.top * x.bottom) * k ≡
    down (fraction_add x y).top * k + (up x.top * y.bottom + up y.top * x.bottom) * k
add_times x y k = let f = times k (add_is x y) in omega (arith, f)

-- ---- an ordered group
trans : (x y z : Fraction) → fraction_le x y → fraction_le y z → fraction_le x z
trans x y z h k =
    let p = mul-le-mul_right z.bottom (le_out x y h) in
    let q = mul-le-mul_right x.bottom (le_out y z k) in
    let r : (up x.top * z.bottom + down z.top * x.bottom) * y.bottom ≤ (up z.top * x.bottom + down x.top * z.bottom) * y.bottom = omega (arith, p, q) in
    le_in x z (le_of_mul-le-mul_right r y.positive)

comm : (x y : Fraction) → Same fractions (fraction_add x y) (fraction_add y x)
comm x y = same_in (fraction_add x y) (fraction_add y x) (omega (arith, add_times x y (y.bottom * x.bottom), add_times y x (x.bottom * y.bottom)))

-- s is x + y, l is s + z, t is y + z and r is x + t
regrouped :
    (ux vx qx uy vy qy uz vz qz us vs ut vt ul vl ur vr : ℕ) → us + (vx * qy + vy * qx) ≡ vs + (ux * qy + uy * qx) → ul + (vs * qz + vz * (qx * qy)) ≡ vl + (us * qz + uz * (qx * qy)) →
    ut + (vy * qz + vz * qy) ≡ vt + (uy * qz + uz * qy) → ur + (vx * (qy * qz) + vt * qx) ≡ vr + (ux * (qy * qz) + ut * qx) →
    ul * (qx * (qy * qz)) + vr * (qx * qy * qz) ≡ ur * (qx * qy * qz) + vl * (qx * (qy * qz))
regrouped ux vx qx uy vy qy uz vz qz us vs ut vt ul vl ur vr s l t r =
    let s' = times qz s in
    let t' = times qx t in
    let e : ul + vr ≡ ur + vl = omega (arith, s', t', l, r) in
    let e' = times (qx * (qy * qz)) e in
    omega (arith, e')

assoc : (x y z : Fraction) → Same fractions (fraction_add (fraction_add x y) z) (fraction_add x (fraction_add y z))
assoc x y z =
    same_in (fraction_add (fraction_add x y) z) (fraction_add x (fraction_add y z))
    (regrouped _ _ _ _ _ _ _ _ _ _ _ _ _ _ _ _ _ (add_is x y) (add_is (fraction_add x y) z) (add_is y z) (add_is x (fraction_add y z)))

zero_right : (x : Fraction) → Same fractions (fraction_add x (fraction_whole (pos 0))) x
zero_right x = same_in (fraction_add x (fraction_whole (pos 0))) x (omega (arith, add_times x (fraction_whole (pos 0)) x.bottom))

neg_right : (x : Fraction) → Same fractions (fraction_add x (fraction_neg x)) (fraction_whole (pos 0))
neg_right x = same_in (fraction_add x (fraction_neg x)) (fraction_whole (pos 0)) (omega (arith, neg_is x.top, ap (λ (n : ℕ). n * x.bottom) (neg_is x.top).0, ap (λ (n : ℕ). n * x.bottom) (neg_is x.top).1, add_times x (fraction_neg x) 1))

add_le : (x y z : Fraction) → fraction_le x y → fraction_le (fraction_add x z) (fraction_add y z)
add_le x y z h =
    le_in (fraction_add x z) (fraction_add y z)
    (omega (arith, mul-le-mul_right (z.bottom * z.bottom) (le_out x y h), add_times x z (y.bottom * z.bottom), add_times y z (x.bottom * z.bottom)))

pub ordered : Ordered fractions
ordered =
    record {
      le_refl = λ x. le_in x x (omega arith);
      le_trans = trans;
      total = λ x y. by_lt_z (x.top *ℤ pos y.bottom) (y.top *ℤ pos x.bottom) (λ h. inl (record { crosswise = omega (arith, ints) })) (λ h. inr (record { crosswise = h }));
      add_comm = comm;
      add_assoc = assoc;
      add_zero = zero_right;
      add_neg = neg_right;
      add_le = add_le;
      whole_add = λ m n. (omega (arith, ints), omega (arith, ints));
      whole_le = λ m n. (λ h. omega (arith, ints), λ h. omega (arith, ints));
    }

-- ---- a difference taken apart
-- half of d + c, and half of d − c
pub twice_positive : (q : ℕ) → 1 ≤ q → 1 ≤ 2 * q
twice_positive q h = omega arith

abbrev pub half_up : Fraction → ℤ → Fraction
half_up d c = record { top = d.top +ℤ c *ℤ pos d.bottom; bottom = 2 * d.bottom; positive = twice_positive d.bottom d.positive }

abbrev pub half_down : Fraction → ℤ → Fraction
half_down d c = record { top = d.top -ℤ c *ℤ pos d.bottom; bottom = 2 * d.bottom; positive = twice_positive d.bottom d.positive }

half_up_is : (d : Fraction) (c : ℤ) → up (half_up d c).top + (down d.top + down c * d.bottom) ≡ down (half_up d c).top + (up d.top + up c * d.bottom)
half_up_is d c = omega (arith, ints)

half_down_is : (d : Fraction) (c : ℤ) → up (half_down d c).top + (down d.top + up c * d.bottom) ≡ down (half_down d c).top + (up d.top + down c * d.bottom)
half_down_is d c = omega (arith, ints)

-- e and f are the halves of d + c and of d − c, and s is e + f
halves_raw :
    (ud vd q uc vc ue ve uf vf us vs : ℕ) → ue + (vd + vc * q) ≡ ve + (ud + uc * q) → uf + (vd + uc * q) ≡ vf + (ud + vc * q) →
    us + (ve * (2 * q) + vf * (2 * q)) ≡ vs + (ue * (2 * q) + uf * (2 * q)) → ud * (2 * q * (2 * q)) + vs * q ≡ us * q + vd * (2 * q * (2 * q))
halves_raw ud vd q uc vc ue ve uf vf us vs e f s = omega (arith, times (2 * q * q) e, times (2 * q * q) f, times q s)

pub halves : (d : Fraction) (c : ℤ) → Same fractions d (fraction_add (half_up d c) (half_down d c))
halves d c =
    same_in d (fraction_add (half_up d c) (half_down d c))
    (halves_raw _ _ _ (up c) (down c) _ _ _ _ _ _ (half_up_is d c) (half_down_is d c) (add_is (half_up d c) (half_down d c)))

minus_is : (a b : ℤ) → up (a -ℤ b) + down a + up b ≡ down (a -ℤ b) + up a + down b
minus_is a b = omega (arith, ints)

pub half_up_less : (d : Fraction) (a b : ℤ) → Less fractions d (fraction_whole (a +ℤ b)) → Less fractions (half_up d (a -ℤ b)) (fraction_whole a)
half_up_less d a b h =
    less_in (half_up d (a -ℤ b)) (fraction_whole a)
    (omega (
      arith,
      less_out d (fraction_whole (a +ℤ b)) h,
      half_up_is d (a -ℤ b),
      times d.bottom (sum_is_lem a b),
      times d.bottom (minus_is a b),
    ))

pub half_down_less : (d : Fraction) (a b : ℤ) → Less fractions d (fraction_whole (a +ℤ b)) → Less fractions (half_down d (a -ℤ b)) (fraction_whole b)
half_down_less d a b h =
    less_in (half_down d (a -ℤ b)) (fraction_whole b)
    (omega (
      arith,
      less_out d (fraction_whole (a +ℤ b)) h,
      half_down_is d (a -ℤ b),
      times d.bottom (sum_is_lem a b),
      times d.bottom (minus_is a b),
    ))

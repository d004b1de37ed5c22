-- Edges keep the laws of a kind of bound. Assumes nothing.
use Rattle.std.specs.Prelude.{◌≡◌, ◌+◌, ◌^◌, ◌≤◌, Bool, true, false, ◌↔◌, ℤ, pos, ◌+ℤ◌, ◌-ℤ◌, ◌≤ℤ◌, ◌<ℤ◌, int_le, int_lt, unsigned_abs, refl}
use Rattle.std.proofs.Common.{sym, subst, arith, lit≤}
use Rattle.std.proofs.Math.IntN.{+ℤ_comm}
use Rattle.std.proofs.lemmas.Int.{ints}
use Rattle.bound.specs.Answered.{never, none_above, some_is}
use Rattle.bound.specs.Fractions.{ordered, less_in, le_out, half_up, half_down, halves, half_up_less, half_down_less}
use Rattle.bound.specs.Groups.{≈-sym, add-≤}
use Rattle.bound.specs.Strict.{sub_back, sub_front, sub_le, sub_less, le_less, less_le, add_less_left, add_less_right}
use Rattle.bound.specs.Differences.{Same, Less}
use Rattle.bound.specs.Edges.{Fraction, fraction_le, fraction_add, fraction_neg, fraction_whole, fractions, edge_allows, mark_of, edge_size, edge_plus, edge_tighter, edge_meaning}
use Rattle.bound.specs.Meaning.{Laws, Stands, SumOf, Inside, Outside}
use Rattle.bound.specs.declared.edge.Edge.{Edge}
use Rattle.bound.specs.declared.edge.Edge.TheVariants.{Open, Number}
use Rattle.bound.specs.declared.edge.Mark.{Mark}
use Rattle.bound.specs.declared.edge.Mark.TheVariants.{AtMost, Under}

lower : (b : Edge) (d e : Fraction) → fraction_le e d → edge_allows b d → edge_allows b e
lower Open d e p h = tt
lower (Number AtMost c) d e p h = ordered.le_trans e d (fraction_whole c) p h
lower (Number Under c) d e p h = le_less ordered e d (fraction_whole c) p h

written_allows : (strict : Bool) (c : ℤ) (d : Fraction) → edge_allows (Number (mark_of strict) c) d ↔ Stands fractions strict d c
written_allows true c d = (λ h. h, λ h. h)
written_allows false c d = (λ h. h, λ h. h)

-- ---- sums
abbrev minus : Fraction → ℤ → Fraction
minus d c = fraction_add d (fraction_neg (fraction_whole c))

-- d is (d − c) + c, and c + (d − c)
back : (d : Fraction) (c : ℤ) → Same fractions d (fraction_add (minus d c) (fraction_whole c))
back d c = ≈-sym ordered (sub_back ordered d (fraction_whole c))

front : (d : Fraction) (c : ℤ) → Same fractions d (fraction_add (fraction_whole c) (minus d c))
front d c = ≈-sym ordered (sub_front ordered d (fraction_whole c))

-- c − 1 is under c
under : (c : ℤ) → Less fractions (fraction_whole (c -ℤ pos 1)) (fraction_whole c)
under c = less_in (fraction_whole (c -ℤ pos 1)) (fraction_whole c) (omega (arith, ints))

at_most : (c : ℤ) → fraction_le (fraction_whole c) (fraction_whole c)
at_most c = ordered.le_refl (fraction_whole c)

-- d within a + b leaves d − b within a
minus_le : (d : Fraction) (a b : ℤ) → fraction_le d (fraction_whole (a +ℤ b)) → fraction_le (minus d b) (fraction_whole a)
minus_le d a b h = sub_le ordered d (fraction_whole a) (fraction_whole b) (ordered.le_trans _ _ _ h (ordered.whole_add a b).0)

minus_less : (d : Fraction) (a b : ℤ) → Less fractions d (fraction_whole (a +ℤ b)) → Less fractions (minus d b) (fraction_whole a)
minus_less d a b h = sub_less ordered d (fraction_whole a) (fraction_whole b) (less_le ordered _ _ _ h (ordered.whole_add a b).0)

sum_splits : (a b : Edge) (d : Fraction) → edge_allows (edge_plus a b) d → SumOf edge_meaning a b d
sum_splits Open Open d h = (minus d (pos 0), fraction_whole (pos 0), tt, tt, back d (pos 0))
sum_splits Open (Number AtMost b) d h = (minus d b, fraction_whole b, tt, at_most b, back d b)
sum_splits Open (Number Under b) d h = (minus d (b -ℤ pos 1), fraction_whole (b -ℤ pos 1), tt, under b, back d (b -ℤ pos 1))
sum_splits (Number AtMost a) Open d h = (fraction_whole a, minus d a, at_most a, tt, front d a)
sum_splits (Number AtMost a) (Number AtMost b) d h = (minus d b, fraction_whole b, minus_le d a b h, at_most b, back d b)
sum_splits (Number AtMost a) (Number Under b) d h = (fraction_whole a, minus d a, at_most a, minus_less d b a (rw (+ℤ_comm b a) h), front d a)
sum_splits (Number Under a) Open d h = (fraction_whole (a -ℤ pos 1), minus d (a -ℤ pos 1), under a, tt, front d (a -ℤ pos 1))
sum_splits (Number Under a) (Number AtMost b) d h = (minus d b, fraction_whole b, minus_less d a b h, at_most b, back d b)
sum_splits (Number Under a) (Number Under b) d h = (half_up d (a -ℤ b), half_down d (a -ℤ b), half_up_less d a b h, half_down_less d a b h, halves d (a -ℤ b))

-- d at most e + f, with e within a and f within b, is within a + b
joined_le : (d e f : Fraction) (a b : ℤ) → fraction_le d (fraction_add e f) → fraction_le (fraction_add e f) (fraction_add (fraction_whole a) (fraction_whole b)) → fraction_le d (fraction_whole (a +ℤ b))
joined_le d e f a b h k = ordered.le_trans _ _ _ h (ordered.le_trans _ _ _ k (ordered.whole_add a b).1)

joined_less :
    (d e f : Fraction) (a b : ℤ) → fraction_le d (fraction_add e f) → Less fractions (fraction_add e f) (fraction_add (fraction_whole a) (fraction_whole b)) →
    Less fractions d (fraction_whole (a +ℤ b))
joined_less d e f a b h k = le_less ordered _ _ _ h (less_le ordered _ _ _ k (ordered.whole_add a b).1)

sum_joins : (a b : Edge) (d : Fraction) → SumOf edge_meaning a b d → edge_allows (edge_plus a b) d
sum_joins Open b d s = tt
sum_joins (Number m a) Open d s = tt
sum_joins (Number AtMost a) (Number AtMost b) d (e, f, p, q, r) = joined_le d e f a b r.0 (add-≤ ordered p q)
sum_joins (Number AtMost a) (Number Under b) d (e, f, p, q, r) = joined_less d e f a b r.0 (add_less_right ordered _ _ _ _ p q)
sum_joins (Number Under a) (Number AtMost b) d (e, f, p, q, r) = joined_less d e f a b r.0 (add_less_left ordered _ _ _ _ p q)
sum_joins (Number Under a) (Number Under b) d (e, f, p, q, r) = joined_less d e f a b r.0 (add_less_left ordered _ _ _ _ p q.0)

sum_size : (a b : Edge) → edge_size (edge_plus a b) ≤ edge_size a + edge_size b
sum_size Open b = omega arith
sum_size (Number m a) Open = omega arith
sum_size (Number m a) (Number n b) = omega (arith, ints)

-- ---- the tighter of two
whole_less : (a b : ℤ) → a <ℤ b → Less fractions (fraction_whole a) (fraction_whole b)
whole_less a b h = less_in (fraction_whole a) (fraction_whole b) (omega (arith, ints))

-- between two whole numbers lies the half of their sum
between : (a b : ℤ) → a <ℤ b → (d : Fraction) × Less fractions (fraction_whole a) d × Less fractions d (fraction_whole b)
between a b h =
    let d : Fraction = record { top = a +ℤ b; bottom = 2; positive = lit≤ tt } in
    (d, less_in (fraction_whole a) d (omega (arith, ints)), less_in d (fraction_whole b) (omega (arith, ints)))

yes_le : (a b : ℤ) → int_le a b ≡ true → fraction_le (fraction_whole a) (fraction_whole b)
yes_le a b e = (ordered.whole_le a b).0 (omega (arith, ints))

yes_lt : (a b : ℤ) → int_lt a b ≡ true → a <ℤ b
yes_lt a b e = omega (arith, ints)

tighter_yes : (a b : Edge) → edge_tighter a b ≡ true → Inside edge_meaning a b
tighter_yes Open Open e d h = tt
tighter_yes Open (Number n b) e d h = never (sym e)
tighter_yes (Number m a) Open e d h = tt
tighter_yes (Number AtMost a) (Number AtMost b) e d h = ordered.le_trans _ _ _ h (yes_le a b e)
tighter_yes (Number AtMost a) (Number Under b) e d h = le_less ordered _ _ _ h (whole_less a b (yes_lt a b e))
tighter_yes (Number Under a) (Number AtMost b) e d h = ordered.le_trans _ _ _ h.0 (yes_le a b e)
tighter_yes (Number Under a) (Number Under b) e d h = less_le ordered _ _ _ h (yes_le a b e)

-- the test failed
no_le : (a b : ℤ) → int_le a b ≡ false → b <ℤ a
no_le a b e = omega (arith, ints)

no_lt : (a b : ℤ) → int_lt a b ≡ false → fraction_le (fraction_whole b) (fraction_whole a)
no_lt a b e = (ordered.whole_le b a).0 (omega (arith, ints))

-- no whole number bounds them all
above : (b : ℤ) → fraction_le (fraction_whole (b +ℤ pos 1)) (fraction_whole b) → ⊥
above b h = omega (arith, ints, le_out (fraction_whole (b +ℤ pos 1)) (fraction_whole b) h)

tighter_no : (a b : Edge) → edge_tighter a b ≡ false → Outside edge_meaning a b
tighter_no Open Open e = never e
tighter_no Open (Number AtMost b) e = (fraction_whole (b +ℤ pos 1), tt, above b)
tighter_no Open (Number Under b) e = (fraction_whole (b +ℤ pos 1), tt, λ h. above b h.0)
tighter_no (Number m a) Open e = never e
tighter_no (Number AtMost a) (Number AtMost b) e = (fraction_whole a, at_most a, (whole_less b a (no_le a b e)).1)
tighter_no (Number AtMost a) (Number Under b) e = (fraction_whole a, at_most a, λ h. h.1 (no_lt a b e))
tighter_no (Number Under a) (Number AtMost b) e = let (d, over, below) = between b a (no_le a b e) in (d, below, over.1)
tighter_no (Number Under a) (Number Under b) e = (fraction_whole b, whole_less b a (no_le a b e), λ h. h.1 (at_most b))

-- a tighter number is no larger, whatever the marks
no_larger : (m n : Mark) (a b : ℤ) → edge_tighter (Number m a) (Number n b) ≡ true → a ≤ℤ b
no_larger AtMost AtMost a b e = omega (arith, ints)
no_larger AtMost Under a b e = omega (arith, ints)
no_larger Under n a b e = omega (arith, ints)

-- tighter both ways is the same number
both_ways : (a b : Edge) → edge_tighter a b ≡ true → edge_tighter b a ≡ true → edge_size a ≡ edge_size b
both_ways Open Open p q = refl
both_ways Open (Number n b) p q = never (sym p)
both_ways (Number m a) Open p q = never (sym q)
both_ways (Number m a) (Number n b) p q = omega (arith, ints, no_larger m n a b p, no_larger n m b a q)

-- what lies inside is found tighter
inside : (a b : Edge) → Inside edge_meaning a b → edge_tighter a b ≡ true
inside a b i = go (edge_tighter a b) refl
  where
    go : (t : Bool) → edge_tighter a b ≡ t → edge_tighter a b ≡ true
    go true e = e
    go false e = let (d, h, k) = tighter_no a b e in absurd (k (i d h))

pub lawful : Laws edge_meaning
lawful =
    record {
      ordered = ordered;
      range_enough = lit≤ tt;
      reach_enough = lit≤ tt;
      lower = lower;
      written_none = λ strict c. none_above (Number (mark_of strict) c) (unsigned_abs c) (2 ^ 34);
      written_allows = λ strict c b e. subst (λ (x : Edge). (d : Fraction) → edge_allows x d ↔ Stands fractions strict d c) (some_is _ _ _ _ e) (written_allows strict c);
      written_size = λ strict c b e. subst (λ (x : Edge). edge_size x ≤ unsigned_abs c + 1) (some_is _ _ _ _ e) (omega arith);
      open_allows = λ d. tt;
      open_size = refl;
      sum_none = λ a b. none_above (edge_plus a b) (edge_size a + edge_size b) (2 ^ 50);
      sum_allows = λ a b s e. subst (λ (x : Edge). (d : Fraction) → edge_allows x d ↔ SumOf edge_meaning a b d) (some_is _ _ _ _ e) (λ d. (sum_splits a b d, sum_joins a b d));
      sum_size = λ a b s e. subst (λ (x : Edge). edge_size x ≤ edge_size a + edge_size b) (some_is _ _ _ _ e) (sum_size a b);
      tighter_yes = tighter_yes;
      tighter_no = tighter_no;
      same_size = λ a b i j. both_ways a b (inside a b i) (inside b a j);
    }

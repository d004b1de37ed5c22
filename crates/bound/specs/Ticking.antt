-- Ticks keep the laws of a kind of bound. Assumes nothing.
use Rattle.std.specs.Prelude.{◌≡◌, ◌+◌, ◌^◌, ◌≤◌, Bool, true, false, ◌↔◌, ℤ, pos, ◌+ℤ◌, ◌-ℤ◌, ◌≤ℤ◌, unsigned_abs, refl}
use Rattle.std.proofs.Common.{sym, subst, inl, inr, arith, lit≤}
use Rattle.std.proofs.lemmas.Int.{by_lt_z, ints}
use Rattle.bound.specs.Answered.{never, none_above, some_is}
use Rattle.bound.specs.Differences.{Ordered}
use Rattle.bound.specs.Meaning.{Laws, Stands, SumOf, Inside, Outside}
use Rattle.bound.specs.Ticks.{ticks, tick_allows, tick_of, tick_size, tick_plus, tick_tighter, tick_meaning}
use Rattle.bound.specs.declared.tick.Tick.{Tick}
use Rattle.bound.specs.declared.tick.Tick.TheVariants.{Open, AtMost}

ordered : Ordered ticks
ordered =
    record {
      le_refl = λ a. omega (arith, ints);
      le_trans = λ a b c p q. omega (arith, ints);
      total = λ a b. by_lt_z a b (λ h. inl (omega (arith, ints))) inr;
      add_comm = λ a b. (omega (arith, ints), omega (arith, ints));
      add_assoc = λ a b c. (omega (arith, ints), omega (arith, ints));
      add_zero = λ a. (omega (arith, ints), omega (arith, ints));
      add_neg = λ a. (omega (arith, ints), omega (arith, ints));
      add_le = λ a b c p. omega (arith, ints);
      whole_add = λ a b. (omega (arith, ints), omega (arith, ints));
      whole_le = λ a b. (λ h. h, λ h. h);
    }

lower : (b : Tick) (d e : ℤ) → e ≤ℤ d → tick_allows b d → tick_allows b e
lower Open d e p h = tt
lower (AtMost c) d e p h = omega (arith, ints)

written_allows : (strict : Bool) (c : ℤ) (d : ℤ) → tick_allows (tick_of strict c) d ↔ Stands ticks strict d c
written_allows true c d = (λ h. (omega (arith, ints), λ k. omega (arith, ints)), λ h. by_lt_z d c (λ l. omega (arith, ints)) (λ l. absurd (h.1 l)))
written_allows false c d = (λ h. h, λ h. h)

written_size : (strict : Bool) (c : ℤ) → tick_size (tick_of strict c) ≤ unsigned_abs c + 1
written_size true c = omega (arith, ints)
written_size false c = omega (arith, ints)

sum_allows : (a b : Tick) (d : ℤ) → tick_allows (tick_plus a b) d ↔ SumOf tick_meaning a b d
sum_allows Open Open d = (λ h. (d, pos 0, tt, tt, (omega (arith, ints), omega (arith, ints))), λ h. tt)
sum_allows Open (AtMost b) d = (λ h. (d -ℤ b, b, tt, omega (arith, ints), (omega (arith, ints), omega (arith, ints))), λ h. tt)
sum_allows (AtMost a) Open d = (λ h. (a, d -ℤ a, omega (arith, ints), tt, (omega (arith, ints), omega (arith, ints))), λ h. tt)
sum_allows (AtMost a) (AtMost b) d =
    (λ h. (a, d -ℤ a, omega (arith, ints), omega (arith, ints), (omega (arith, ints), omega (arith, ints))), λ h. let (e, f, p, q, r) = h in omega (arith, ints, r.0))

sum_size : (a b : Tick) → tick_size (tick_plus a b) ≤ tick_size a + tick_size b
sum_size Open b = omega arith
sum_size (AtMost a) Open = omega arith
sum_size (AtMost a) (AtMost b) = omega (arith, ints)

tighter_yes : (a b : Tick) → tick_tighter a b ≡ true → Inside tick_meaning a b
tighter_yes Open Open e d h = tt
tighter_yes Open (AtMost b) e d h = never (sym e)
tighter_yes (AtMost a) Open e d h = tt
tighter_yes (AtMost a) (AtMost b) e d h = omega (arith, ints)

tighter_no : (a b : Tick) → tick_tighter a b ≡ false → Outside tick_meaning a b
tighter_no Open Open e = never e
tighter_no Open (AtMost b) e = (b +ℤ pos 1, tt, λ h. omega (arith, ints))
tighter_no (AtMost a) Open e = never e
tighter_no (AtMost a) (AtMost b) e = (a, omega (arith, ints), λ h. omega (arith, ints))

same_size : (a b : Tick) → Inside tick_meaning a b → Inside tick_meaning b a → tick_size a ≡ tick_size b
same_size Open Open i j = refl
same_size Open (AtMost b) i j = let h = i (b +ℤ pos 1) tt in absurd (omega (arith, ints))
same_size (AtMost a) Open i j = let h = j (a +ℤ pos 1) tt in absurd (omega (arith, ints))
same_size (AtMost a) (AtMost b) i j = let h = i a (omega (arith, ints)) in let k = j b (omega (arith, ints)) in omega (arith, ints)

pub lawful : Laws tick_meaning
lawful =
    record {
      ordered = ordered;
      range_enough = lit≤ tt;
      reach_enough = lit≤ tt;
      lower = lower;
      written_none = λ strict c. none_above (tick_of strict c) (unsigned_abs c) (2 ^ 34);
      written_allows = λ strict c b e. subst (λ (x : Tick). (d : ℤ) → tick_allows x d ↔ Stands ticks strict d c) (some_is _ _ _ _ e) (written_allows strict c);
      written_size = λ strict c b e. subst (λ (x : Tick). tick_size x ≤ unsigned_abs c + 1) (some_is _ _ _ _ e) (written_size strict c);
      open_allows = λ d. tt;
      open_size = refl;
      sum_none = λ a b. none_above (tick_plus a b) (tick_size a + tick_size b) (2 ^ 50);
      sum_allows = λ a b s e. subst (λ (x : Tick). (d : ℤ) → tick_allows x d ↔ SumOf tick_meaning a b d) (some_is _ _ _ _ e) (sum_allows a b);
      sum_size = λ a b s e. subst (λ (x : Tick). tick_size x ≤ tick_size a + tick_size b) (some_is _ _ _ _ e) (sum_size a b);
      tighter_yes = tighter_yes;
      tighter_no = tighter_no;
      same_size = same_size;
    }

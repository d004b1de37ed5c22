-- What timers read after a wait and after a restart. Assumes nothing.
use Rattle.std.proofs.Common.{◌≡◌, ℕ, zero, suc, ◌≤◌, Bool, true, false, cond, refl, ap, arith}
use Rattle.bound.specs.Differences.{Differences, Same, Ordered, zero_of}
use Rattle.runs.specs.Runs.{Reading, reads, Lawful, SameReading, grown, restarted}
use Rattle.bound.specs.Groups.{≤-refl, ≤_trans, ≈-refl, ≈-sym, ≈-trans, add-≤, add-≈}

module _ (D : Differences) where
  pub reads_some : (σ : Reading D) (i : ℕ) → 1 ≤ i → reads D σ i ≡ σ i
  reads_some σ zero l = absurd (omega arith)
  reads_some σ (suc i) l = refl

  pub reads_grown : (σ : Reading D) (w : D.Diff) (i : ℕ) → 1 ≤ i → reads D (grown D σ w) i ≡ D.add (reads D σ i) w
  reads_grown σ w zero l = absurd (omega arith)
  reads_grown σ w (suc i) l = refl

  pub reads_restarted : (r : ℕ → Bool) (ρ : Reading D) (i : ℕ) → r i ≡ true → reads D (restarted D r ρ) i ≡ zero_of D
  reads_restarted r ρ zero e = refl
  reads_restarted r ρ (suc i) e = ap (λ b. cond b (zero_of D) (ρ (suc i))) e

  pub reads_left : (r : ℕ → Bool) (ρ : Reading D) (i : ℕ) → r i ≡ false → reads D (restarted D r ρ) i ≡ reads D ρ i
  reads_left r ρ zero e = refl
  reads_left r ρ (suc i) e = ap (λ b. cond b (zero_of D) (ρ (suc i))) e

module _ {D : Differences} (o : Ordered D) (n : ℕ) where
  pub grown_lawful : (σ : Reading D) (w : D.Diff) → D.le (zero_of D) w → Lawful D n σ → Lawful D n (grown D σ w)
  grown_lawful σ w h l zero k = ≤-refl o
  grown_lawful σ w h l (suc i) k = ≤_trans o (o.add_zero (zero_of D)).1 (add-≤ o (l (suc i) k) h)

  pub restarted_lawful : (r : ℕ → Bool) (ρ : Reading D) → Lawful D n ρ → Lawful D n (restarted D r ρ)
  restarted_lawful r ρ l zero k = ≤-refl o
  restarted_lawful r ρ l (suc i) k = go (r (suc i))
    where
      go : (b : Bool) → D.le (zero_of D) (cond b (zero_of D) (ρ (suc i)))
      go true = ≤-refl o
      go false = l (suc i) k

  pub equal_refl : (σ : Reading D) → SameReading D n σ σ
  equal_refl σ i k = ≈-refl o (reads D σ i)

  pub equal_sym : (σ ε : Reading D) → SameReading D n σ ε → SameReading D n ε σ
  equal_sym σ ε h i k = ≈-sym o (h i k)

  pub equal_trans : (σ ρ ε : Reading D) → SameReading D n σ ρ → SameReading D n ρ ε → SameReading D n σ ε
  equal_trans σ ρ ε h g i k = ≈-trans o (h i k) (g i k)

  pub grown_equal : (σ ρ : Reading D) (w : D.Diff) → SameReading D n σ ρ → SameReading D n (grown D σ w) (grown D ρ w)
  grown_equal σ ρ w h zero k = ≈-refl o (zero_of D)
  grown_equal σ ρ w h (suc i) k = add-≈ o (h (suc i) k) (≈-refl o w)

  pub restarted_equal : (r : ℕ → Bool) (σ ρ : Reading D) → SameReading D n σ ρ → SameReading D n (restarted D r σ) (restarted D r ρ)
  restarted_equal r σ ρ h zero k = ≈-refl o (zero_of D)
  restarted_equal r σ ρ h (suc i) k = go (r (suc i))
    where
      go : (b : Bool) → Same D (cond b (zero_of D) (σ (suc i))) (cond b (zero_of D) (ρ (suc i)))
      go true = ≈-refl o (zero_of D)
      go false = h (suc i) k

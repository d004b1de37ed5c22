-- Sizes in the working of a motion and of a limit: no sum is refused. Assumes nothing.
use Rattle.std.proofs.Common.{◌≡◌, ℕ, ◌+◌, ◌^◌, ◌≤◌, Bool, ℤ, nat_abs, Some, arith, lit≤}
use Rattle.bound.specs.Meaning.{Meaning, Laws}
use Rattle.runs.proofs.Bounds.{sum_there}

-- the most that a written bound's size can be, and a place's by way of one
abbrev pub written_most : ℕ
written_most = 10 ^ 9 + 1

abbrev pub spread_most : ℕ
spread_most = 2 ^ 40 + (10 ^ 9 + 1)

module _ {B : Type 0} (m : Meaning B) (laws : Laws m) where
  pub written_small : (strict : Bool) (c : ℤ) (b : B) → nat_abs c ≤ 10 ^ 9 → m.written strict c ≡ Some b → m.size_of b ≤ written_most
  written_small strict c b small e = let h = laws.written_size strict c b e in omega arith

  -- a sum of sizes up to x and y, where x + y is within every reach
  sum_within : (x y : ℕ) → x + y ≤ 2 ^ 46 → (a b : B) → m.size_of a ≤ x → m.size_of b ≤ y
      → (s : B) × (m.sum a b ≡ Some s) × (m.size_of s ≤ x + y)
  sum_within x y enough a b ha hb = go (sum_there m laws a b (omega arith))
    where
      go : ((s : B) × (m.sum a b ≡ Some s)) → (s : B) × (m.sum a b ≡ Some s) × (m.size_of s ≤ x + y)
      go (s, e) = (s, e, let h = laws.sum_size a b s e in omega arith)

  -- a place and a written bound, in either order
  pub spread_sum : (a b : B) → m.size_of a ≤ 2 ^ 40 → m.size_of b ≤ written_most → (s : B) × (m.sum a b ≡ Some s) × (m.size_of s ≤ spread_most)
  spread_sum a b ha hb = sum_within (2 ^ 40) written_most (lit≤ tt) a b ha hb

  pub spread_sum_back : (a b : B) → m.size_of a ≤ written_most → m.size_of b ≤ 2 ^ 40 → (s : B) × (m.sum a b ≡ Some s) × (m.size_of s ≤ written_most + 2 ^ 40)
  spread_sum_back a b ha hb = sum_within written_most (2 ^ 40) (lit≤ tt) a b ha hb

  -- two places of the table with the new now, and two of a table
  pub pivot_sum : (a b : B) → m.size_of a ≤ spread_most → m.size_of b ≤ spread_most → (s : B) × (m.sum a b ≡ Some s) × (m.size_of s ≤ spread_most + spread_most)
  pivot_sum a b ha hb = sum_within spread_most spread_most (lit≤ tt) a b ha hb

  pub limit_sum : (a b : B) → m.size_of a ≤ 2 ^ 40 → m.size_of b ≤ 2 ^ 40 → (s : B) × (m.sum a b ≡ Some s) × (m.size_of s ≤ 2 ^ 40 + 2 ^ 40)
  limit_sum a b ha hb = sum_within (2 ^ 40) (2 ^ 40) (lit≤ tt) a b ha hb

-- The numbers from 1 to k: a sum over them, and the first at which a test holds.
use Rattle.std.specs.Prelude.{ℕ, zero, suc, ◌≤◌, ◌<◌, Bool, true, false, cond, ◌≡◌, ℤ, pos, ◌+ℤ◌, Option, Some, None}
use Rattle.std.specs.Option.{option_or}

-- f 1 + f 2 + .. + f k
unfoldable pub sum_to : ℕ → (ℕ → ℤ) → ℤ
sum_to zero f = pos 0
sum_to (suc k) f = sum_to k f +ℤ f (suc k)

-- n is the first of 1 to k at which the test holds
pub record First (test : ℕ → Bool) (k n : ℕ) : Type 0 where
  pub low : 1 ≤ n
  pub high : n ≤ k
  pub holds : test n ≡ true
  pub none_before : (m : ℕ) → 1 ≤ m → m < n → test m ≡ false

-- the first of 1 to k at which the test holds
unfoldable pub first_of : ℕ → (ℕ → Bool) → Option ℕ
first_of zero test = None
first_of (suc k) test = option_or (first_of k test) (cond (test (suc k)) (Some (suc k)) None)

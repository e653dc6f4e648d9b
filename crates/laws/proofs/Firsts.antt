-- The laws of `first_of` and of `sum_to`, over the numbers from 1 to k.
--     first_says                what `first_of` finds is the first; where it finds none, the test holds nowhere
--     first_found, first_not    and back
--     first_same, sum_same      they turn only on the values from 1 to k
--     nowhere_any               where none of several tests holds, each holds nowhere
use Prim.Native.Nat.{ℕ, zero, suc, ◌≤◌, ◌<◌}
use mathlib.Core.Bool.{Bool, true, false, cond}
use mathlib.Core.List.{List, [], ◌∷◌}
use Rattle.std.specs.Prelude.{Option, Some, None}
use Rattle.std.specs.Option.{option_or}
use mathlib.Core.Path.{◌≡◌, refl, sym, ap, ◌∙◌}
use native.Mathlib.Decide.{ℕ_discrete}
use native.Mathlib.Omega.{arith}
use lib.IntN.{ℤ}
use Rattle.laws.specs.Lists.{any_of}
use Rattle.laws.specs.Numbers.{First, first_of, sum_to}
use Rattle.laws.proofs.Parts.{All}
use Rattle.laws.proofs.Tests.{clash, neither}

abbrev pub Nowhere : (ℕ → Bool) → ℕ → Type 0
Nowhere t k = (n : ℕ) → 1 ≤ n → n ≤ k → t n ≡ false

abbrev pub Says : (ℕ → Bool) → ℕ → Option ℕ → Type 0
Says t k (Some n) = First t k n
Says t k None = Nowhere t k

module _ (t : ℕ → Bool) where
  one_more : (k : ℕ) (o : Option ℕ) → Says t k o → (b : Bool) → t (suc k) ≡ b → Says t (suc k) (option_or o (cond b (Some (suc k)) None))
  one_more k (Some n) f b e = record { low = f.low; high = omega (arith, f.high); holds = f.holds; none_before = f.none_before }
  one_more k None f true e = record { low = omega arith; high = omega arith; holds = e; none_before = λ m a l. f m a (omega arith) }
  one_more k None f false e = λ n a l. at n a l (ℕ_discrete n (suc k))
    where
      at : (n : ℕ) → 1 ≤ n → n ≤ suc k → Dec (n ≡ suc k) → t n ≡ false
      at n a l (yes q) = rw q e
      at n a l (no ne) = f n a (omega arith)

  pub first_says : (k : ℕ) → Says t k (first_of k t)
  unfolding first_of
  first_says zero = λ n a l. absurd (omega arith)
  first_says (suc k) = one_more k (first_of k t) (first_says k) (t (suc k)) refl

  only : (k n m : ℕ) → First t k n → First t k m → n < m → ⊥
  only k n m f g l = clash (sym f.holds ∙ g.none_before n f.low l)

  pub first_found : (k n : ℕ) → First t k n → first_of k t ≡ Some n
  first_found k n f = by (first_of k t) (first_says k)
    where
      by : (o : Option ℕ) → Says t k o → o ≡ Some n
      by None g = clash (sym f.holds ∙ g n f.low f.high)
      by (Some m) g = ap Some (omega (arith, only k n m f g, only k m n g f))

  pub first_not : (k : ℕ) → Nowhere t k → first_of k t ≡ None
  first_not k h = by (first_of k t) (first_says k)
    where
      by : (o : Option ℕ) → Says t k o → o ≡ None
      by None g = refl
      by (Some m) g = clash (sym g.holds ∙ h m g.low g.high)

pub first_same : (t u : ℕ → Bool) (k : ℕ) → ((n : ℕ) → 1 ≤ n → n ≤ k → t n ≡ u n) → first_of k t ≡ first_of k u
unfolding first_of
first_same t u zero h = refl
first_same t u (suc k) h = rw (first_same t u k (λ n a l. h n a (omega arith)), h (suc k) (omega arith) (omega arith))

pub sum_same : (f g : ℕ → ℤ) (k : ℕ) → ((n : ℕ) → 1 ≤ n → n ≤ k → f n ≡ g n) → sum_to k f ≡ sum_to k g
unfolding sum_to
sum_same f g zero h = refl
sum_same f g (suc k) h = rw (sum_same f g k (λ n a l. h n a (omega arith)), h (suc k) (omega arith) (omega arith))

pub nowhere_any : {A : Type 0} (t : A → ℕ → Bool) (k : ℕ) (xs : List A) → Nowhere (λ n. any_of (λ x. t x n) xs) k → All (λ x. Nowhere (t x) k) xs
unfolding any_of
nowhere_any t k [] h = tt
nowhere_any t k (x ∷ xs) h =
    let both : (n : ℕ) → 1 ≤ n → n ≤ k → (t x n ≡ false) × (any_of (λ x. t x n) xs ≡ false) = λ n a l. neither (t x n) (any_of (λ x. t x n) xs) (h n a l) in
    ((λ n a l. (both n a l).0), nowhere_any t k xs (λ n a l. (both n a l).1))

-- The laws of `how_many`.
--     many_few        at most all of them
--     many_none       none, where the test fails everywhere
--     many_same       it turns only on the test's values
--     many_append     in two parts
--     many_within     a test that holds only from a on, for n numbers
use Prim.Native.Nat.{ℕ, zero, suc, ◌+◌, ◌≤◌, ◌<◌}
use mathlib.Core.Bool.{Bool, true, false, cond}
use mathlib.Core.Path.{◌≡◌, refl, ◌∙◌}
use native.Mathlib.Nat.{add-zero, add-suc, add_assoc}
use native.Mathlib.Omega.{arith}
use Rattle.places.specs.Counting.{how_many}

pub many_few : (test : ℕ → Bool) (n : ℕ) → how_many n test ≤ n
unfolding how_many
many_few test zero = omega arith
many_few test (suc n) = by (test n) (many_few test n)
  where
    by : {m : ℕ} (t : Bool) → m ≤ n → m + cond t 1 0 ≤ suc n
    by true h = omega arith
    by false h = omega arith

pub many_none : (test : ℕ → Bool) (n : ℕ) → ((i : ℕ) → i < n → test i ≡ false) → how_many n test ≡ 0
unfolding how_many
many_none test zero h = refl
many_none test (suc n) h = rw (many_none test n (λ i l. h i (omega arith)), h n (omega arith))

pub many_same : (t u : ℕ → Bool) (n : ℕ) → ((i : ℕ) → i < n → t i ≡ u i) → how_many n t ≡ how_many n u
unfolding how_many
many_same t u zero h = refl
many_same t u (suc n) h = rw (many_same t u n (λ i l. h i (omega arith)), h n (omega arith))

pub many_append : (test : ℕ → Bool) (a b : ℕ) → how_many (a + b) test ≡ how_many a test + how_many b (λ i. test (a + i))
unfolding how_many
many_append test a zero = rw (add-zero a) (omega arith)
many_append test a (suc b) = rw (add-suc a b, many_append test a b) (add_assoc (how_many a test) (how_many b (λ i. test (a + i))) (cond (test (a + b)) 1 0))

pub many_within : (test : ℕ → Bool) (a n b : ℕ) → ((i : ℕ) → i < a → test i ≡ false) → ((i : ℕ) → a + n ≤ i → i < a + n + b → test i ≡ false)
    → how_many (a + n + b) test ≡ how_many n (λ i. test (a + i))
many_within test a n b before after =
    many_append test (a + n) b
    ∙ rw (many_append test a n, many_none test a before, many_none (λ i. test (a + n + i)) b (λ i l. after (a + n + i) (omega arith) (omega arith))) (omega arith)

-- The laws of `first_place`.
--     found_first     nothing before i, and the test holds at i: i is found
--     nowhere         where the test fails everywhere, nothing is found
--     found_every     nothing fails a test that holds of every element
--     found_below     what is found is below n
--     found_none      where nothing is found, the test fails everywhere
--     none_every      where no element is found that fails a test, it holds of every one
--     found_same      the search turns only on the test's values
--     found_append    a search in two parts
--     found_start     a part from the start
--     found_cut       a search that finds nothing from i on may stop there
--     found_position  std's search in a list
use Prim.Native.Nat.{ℕ, zero, suc, ◌+◌, ◌-◌, ◌≤◌, ◌<◌}
use mathlib.Core.Bool.{Bool, true, false, cond, not}
use mathlib.Core.List.{List}
use mathlib.Core.Path.{◌≡◌, refl, sym, subst, ◌∙◌}
use borrow.Author.Tests.{ltb-true, ltb-false, not-false}
use native.Mathlib.Decide.{ℕ_discrete}
use native.Mathlib.Nat.{add-zero, add-suc}
use native.Mathlib.Omega.{arith}
use lib.Dec.{ltb}
use lib.ListN.{length, get_or}
use Rattle.laws.specs.Lists.{every}
use Rattle.laws.proofs.Every.{every_at, every_all}
use Rattle.laws.proofs.Tests.{cases}
use Rattle.std.proofs.lemmas.List.Sums.{fails_before_first, passes_at_first}
use Rattle.std.specs.List.{position, position_or_len}
use Rattle.std.specs.Prelude.{Option, Some, None}
use Rattle.std.specs.Option.{option_or}
use Rattle.checks.specs.Search.{first_place, shifted}

module _ (test : ℕ → Bool) where
  -- a place that is found stays found
  stays : (i p d : ℕ) → first_place i test ≡ Some p → first_place (i + d) test ≡ Some p
  unfolding first_place
  stays i p zero e = rw (add-zero i) e
  stays i p (suc d) e = rw (add-suc i d, stays i p d e)

  pub found_first : (i n : ℕ) → i < n → first_place i test ≡ None → test i ≡ true → first_place n test ≡ Some i
  unfolding first_place
  found_first i n l h e =
      let q : suc i + (n - suc i) ≡ n = omega arith in
      subst (λ (m : ℕ). first_place m test ≡ Some i) q (stays (suc i) i (n - suc i) (rw (h, e)))

  pub nowhere : (n : ℕ) → ((i : ℕ) → i < n → test i ≡ false) → first_place n test ≡ None
  unfolding first_place
  nowhere zero h = refl
  nowhere (suc n) h = rw (nowhere n (λ i l. h i (omega arith)), h n (omega arith))

-- where a test holds of every element of a list, a search for one that fails it finds nothing
pub found_every : {A : Type 0} (test : A → Bool) (l : List A) (d : A) → every test l ≡ true → first_place (length l) (λ i. not (test (get_or l i d))) ≡ None
found_every test l d e = nowhere (λ i. not (test (get_or l i d))) (length l) (λ i h. rw (every_at test l e d i h))

none_both : (a b : Option ℕ) → option_or a b ≡ None → (a ≡ None) × (b ≡ None)
none_both (Some p) b e = let z : ◌≡◌ {A = ℕ} 0 1 = cc in absurd (omega arith)
none_both None b e = (refl, e)

none_test : (t : Bool) (n : ℕ) → cond t (Some n) None ≡ None → t ≡ false
none_test true n e = let z : ◌≡◌ {A = ℕ} 0 1 = cc in absurd (omega arith)
none_test false n e = refl

pub found_none : (test : ℕ → Bool) (n : ℕ) → first_place n test ≡ None → (i : ℕ) → i < n → test i ≡ false
unfolding first_place
found_none test zero e i l = absurd (omega arith)
found_none test (suc n) e i l =
    let parts = none_both (first_place n test) (cond (test n) (Some n) None) e in
    at (ℕ_discrete i n) (none_test (test n) n parts.1) (found_none test n parts.0 i)
  where
    at : Dec (i ≡ n) → test n ≡ false → (i < n → test i ≡ false) → test i ≡ false
    at (yes q) here before = rw q here
    at (no ne) here before = before (omega arith)

pub none_every : {A : Type 0} (test : A → Bool) (l : List A) (d : A) → first_place (length l) (λ i. not (test (get_or l i d))) ≡ None → every test l ≡ true
none_every test l d e = every_all test l d (λ i h. not-false _ (found_none (λ i. not (test (get_or l i d))) (length l) e i h))

pub found_below : (test : ℕ → Bool) (n p : ℕ) → first_place n test ≡ Some p → p < n
unfolding first_place
found_below test zero p e = let z : ◌≡◌ {A = ℕ} 0 1 = cc in absurd (omega arith)
found_below test (suc n) p e = by (first_place n test) (test n) e (found_below test n p)
  where
    by : (x : Option ℕ) (t : Bool) → option_or x (cond t (Some n) None) ≡ Some p → (x ≡ Some p → p < n) → p < suc n
    by (Some q) t z h = omega (arith, h z)
    by None true z h = let w : n ≡ p = cc in omega arith
    by None false z h = let w : ◌≡◌ {A = ℕ} 0 1 = cc in absurd (omega arith)

pub found_same : (t u : ℕ → Bool) (n : ℕ) → ((i : ℕ) → i < n → t i ≡ u i) → first_place n t ≡ first_place n u
unfolding first_place
found_same t u zero h = refl
found_same t u (suc n) h = rw (found_same t u n (λ i l. h i (omega arith)), h n (omega arith))

shifted_else : (a : ℕ) (x y : Option ℕ) → shifted a (option_or x y) ≡ option_or (shifted a x) (shifted a y)
shifted_else a (Some p) y = refl
shifted_else a None y = refl

shifted_test : (a n : ℕ) (t : Bool) → shifted a (cond t (Some n) None) ≡ cond t (Some (a + n)) None
shifted_test a n true = refl
shifted_test a n false = refl

else_assoc : (x y z : Option ℕ) → option_or (option_or x y) z ≡ option_or x (option_or y z)
else_assoc (Some p) y z = refl
else_assoc None y z = refl

pub else_none : (x : Option ℕ) → option_or x None ≡ x
else_none (Some p) = refl
else_none None = refl

pub found_append : (test : ℕ → Bool) (a b : ℕ) → first_place (a + b) test ≡ option_or (first_place a test) (shifted a (first_place b (λ i. test (a + i))))
unfolding first_place
found_append test a zero = rw (add-zero a, else_none (first_place a test))
found_append test a (suc b) =
    rw (add-suc a b, found_append test a b, shifted_else a (first_place b (λ i. test (a + i))) (cond (test (a + b)) (Some b) None), shifted_test a b (test (a + b)))
    (else_assoc (first_place a test) (shifted a (first_place b (λ i. test (a + i)))) (cond (test (a + b)) (Some (a + b)) None))

pub found_start : (test : ℕ → Bool) (n : ℕ) → shifted 0 (first_place n (λ i. test (0 + i))) ≡ first_place n test
unfolding first_place
found_start test n =
    let e : 0 + n ≡ n = omega arith in
    subst (λ (k : ℕ). shifted 0 (first_place n (λ i. test (0 + i))) ≡ first_place k test) e (sym (found_append test 0 n))

pub found_cut : (test : ℕ → Bool) (i n : ℕ) → i ≤ n → ((p : ℕ) → i ≤ p → p < n → test p ≡ false) → first_place n test ≡ first_place i test
found_cut test i n l h =
    let e : i + (n - i) ≡ n = omega arith in
    subst (λ (k : ℕ). first_place k test ≡ first_place i test) e
    (found_append test i (n - i) ∙ rw (nowhere (λ j. test (i + j)) (n - i) (λ j k. h (i + j) (omega arith) (omega arith))) (else_none (first_place i test)))

pub found_position : {A : Type 0} (test : A → Bool) (l : List A) (d : A) → position test l ≡ first_place (length l) (λ i. test (get_or l i d))
found_position test l d =
    let n = position_or_len test l in
    cases (ltb n (length l))
    (λ t. let h = ltb-true n (length l) t in
    rw t (sym (found_first (λ i. test (get_or l i d)) n (length l) h (nowhere (λ i. test (get_or l i d)) n (λ i k. fails_before_first test l i d k)) (passes_at_first test l d h))))
    (λ t. let h = ltb-false n (length l) t in
    rw t (sym (nowhere (λ i. test (get_or l i d)) (length l) (λ i k. fails_before_first test l i d (omega arith)))))

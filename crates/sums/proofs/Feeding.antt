-- The laws of `feed_all`, for any kind of entry and any step.
--     feed_length     it keeps the length
--     feed_append     some readings, and then some more
--     feed_past       a pixel whose next reading, number k × m + p, comes after them is as it was
--     feed_part       readings that stay within one sample: `over` at the part of the sums that they reach
use Prim.Native.Nat.{ℕ, suc, ◌+◌, ◌*◌, ◌/◌, ◌%◌, ◌≤◌, ◌<◌}
use mathlib.Core.List.{List, [], ◌∷◌, ◌++◌, append_assoc}
use mathlib.Core.Path.{◌≡◌, refl, sym, ap, ◌∙◌}
use native.Mathlib.Nat.{add-zero, add-suc, suc-add}
use native.Mathlib.Omega.{arith}
use lib.Arith.{digits_div, digits_mod}
use lib.ListN.{length, get_or, take, drop, set, length-set, take-append-drop}
use lib.Seq.{take-suc-set, drop-set-lt, drop-cons, get_or-set_other}
use Rattle.laws.specs.Lists.{over}
use Rattle.laws.proofs.Over.{over_part}
use Rattle.written.proofs.Places.{same_sample, place}
use Rattle.sums.specs.Feed.{feed_one, feed_all}

module _ {E : Type 0} (absent : E) (step : ℕ → E → ℕ → E) (m : ℕ) where
  abbrev one : ℕ → ℕ → List E → List E
  one = feed_one absent step m

  abbrev all : ℕ → List ℕ → List E → List E
  all = feed_all absent step m

  pub one_length : (f x : ℕ) (ss : List E) → length (one f x ss) ≡ length ss
  unfolding feed_one
  one_length f x ss = simp length-set

  pub feed_length : (xs : List ℕ) (f : ℕ) (ss : List E) → length (all f xs ss) ≡ length ss
  unfolding feed_all
  feed_length [] f ss = refl
  feed_length (x ∷ xs) f ss = feed_length xs (suc f) (one f x ss) ∙ one_length f x ss

  pub feed_append : (xs ys : List ℕ) (f : ℕ) (ss : List E) → all f (xs ++ ys) ss ≡ all (f + length xs) ys (all f xs ss)
  unfolding feed_all
  feed_append [] ys f ss = rw add-zero
  feed_append (x ∷ xs) ys f ss = rw (add-suc, ← suc-add) (feed_append xs ys (suc f) (one f x ss))

  pub feed_past : (xs : List ℕ) (f : ℕ) (ss : List E) (p k : ℕ) → p < m → f + length xs ≤ k * m + p → k * m + p < f + m
      → get_or (all f xs ss) p absent ≡ get_or ss p absent
  unfolding feed_all feed_one
  feed_past [] f ss p k l h next = refl
  feed_past (x ∷ xs) f ss p k l h next =
      feed_past xs (suc f) (one f x ss) p k l (omega arith) (omega arith)
      ∙ get_or-set_other ss (f % m) p _ absent
      (λ e. let here : f / m * m + p ≡ f = rw e (place f m (omega arith)).0 in
      let same = same_sample m p k (f / m) (omega arith) (omega arith) in
      let d : k * m + p ≡ f = rw same here in
      omega arith)

  module _ (n : ℕ) where
    -- what sample n + 1 does to an entry
    abbrev at_sample : ℕ → E → E
    at_sample x e = step (suc n) e x

    one_sample : (xs : List ℕ) (p : ℕ) (ss : List E) → length ss ≡ m → p + length xs ≤ m
        → all (n * m + p) xs ss ≡ take p ss ++ over at_sample xs (drop p ss)
    unfolding feed_all feed_one over
    one_sample [] p ss l h = sym (take-append-drop p ss)
    one_sample (x ∷ xs) p ss l h =
        let q : p < m = omega arith in
        let r : p < length ss = omega arith in
        let v = at_sample x (get_or ss p absent) in
        rw (← add-suc, digits_mod n q, digits_div n q)
        (one_sample xs (suc p) (set ss p v) (simp length-set l) (omega arith)
        ∙ rw (take-suc-set ss p v r, drop-set-lt (suc p) ss p v (omega arith), drop-cons ss p absent r)
        (append_assoc (take p ss) (v ∷ []) (over at_sample xs (drop (suc p) ss))))

    pub feed_part : (p k : ℕ) (xs : List ℕ) (ss : List E) → length ss ≡ m → length xs ≤ k → p + k ≤ m
        → take p ss ++ (over at_sample xs (take k (drop p ss)) ++ drop k (drop p ss)) ≡ all (n * m + p) xs ss
    feed_part p k xs ss l h q =
        ap (λ (y : List E). take p ss ++ y) (over_part at_sample k xs (drop p ss) h) ∙ sym (one_sample xs p ss l (omega arith))

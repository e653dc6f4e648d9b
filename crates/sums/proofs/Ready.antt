-- Feeding keeps the sums ready, for any kind of entry: where a step of sample k + 1 takes an entry that passes for k to one that passes for k + 1.
--     ready_one, ready_all     `Ready` before a reading, or several, gives `Ready` after it
use Prim.Native.Nat.{ℕ, suc, ◌+◌, ◌*◌, ◌/◌, ◌%◌, ◌≤◌, ◌<◌}
use mathlib.Core.Bool.{Bool, true}
use mathlib.Core.List.{List, [], ◌∷◌}
use mathlib.Core.Logic.{⊎_elim}
use mathlib.Core.Path.{◌≡◌, sym, ap, ◌∙◌}
use native.Mathlib.Decide.{ℕ_discrete}
use native.Mathlib.Nat.{eq-or-lt_of_le, add-zero, add-suc, suc-add, suc-mul}
use native.Mathlib.Omega.{arith}
use lib.Arith.{digits_mod}
use lib.ListN.{length, get_or}
use lib.Seq.{get_or-set_same, get_or-set_other}
use Rattle.sums.specs.Feed.{feed_one, feed_all}
use Rattle.written.proofs.Intervals.{Ready}
use Rattle.written.proofs.Places.{same_sample, place, few}
use Rattle.sums.proofs.Feeding.{one_length}

module _ {E : Type 0} (absent : E) (step : ℕ → E → ℕ → E) (test : ℕ → E → Bool) (m : ℕ) (some : 0 < m)
    (keeps : (k : ℕ) (e : E) (x : ℕ) → k ≤ 8 → (0 < k → test k e ≡ true) → test (suc k) (step (suc k) e x) ≡ true) where
  abbrev ready : ℕ → ℕ → List E → Type 0
  ready = Ready absent test m

  module _ (f x count : ℕ) (ss : List E) (room : f < 9 * m) (whole : length ss ≡ m) (before : ready f (suc count) ss) where
    abbrev n : ℕ
    n = f / m

    abbrev q : ℕ
    q = f % m

    here : (n * m + q ≡ f) × (q < m)
    here = place f m some

    other : (p k : ℕ) → p < m → (p ≡ q → ⊥) → k * m + p < suc f + m → k * m + p < f + m
    other p k h ne l =
        let e : f + m ≡ suc n * m + q = rw suc-mul (omega (arith, here)) in
        let le : k * m + p ≤ f + m = omega arith in
        ⊎_elim (λ z. absurd (ne (sym (digits_mod k h) ∙ ap (λ (y : ℕ). y % m) (z ∙ e) ∙ digits_mod (suc n) here.1))) (λ z. z) (eq-or-lt_of_le le)

    at_pixel : (p k : ℕ) → p < m → suc f ≤ k * m + p → k * m + p < suc f + m → k * m + p < suc f + count → 0 < k → Dec (p ≡ q)
        → test k (get_or (feed_one absent step m f x ss) p absent) ≡ true
    unfolding Ready feed_one
    at_pixel p k h lo hi c pos (yes e) =
        let l : q < length ss = rw whole here.1 in
        rw (e, get_or-set_same ss q _ absent l, same_sample m q k (suc n) (rw suc-mul (omega (arith, here))) (rw suc-mul (omega (arith, here))))
        (keeps n (get_or ss q absent) x (few f m some room) (before q n here.1 (omega (arith, here)) (omega (arith, here)) (omega (arith, here))))
    at_pixel p k h lo hi c pos (no ne) =
        rw (get_or-set_other ss q p _ absent ne) (before p k h (omega arith) (other p k h ne hi) (omega arith) pos)

    pub ready_one : ready (suc f) count (feed_one absent step m f x ss)
    unfolding Ready
    ready_one p k h lo hi c pos = at_pixel p k h lo hi c pos (ℕ_discrete p q)

  pub ready_all : (xs : List ℕ) (f count : ℕ) (ss : List E) → f + length xs ≤ 9 * m → length ss ≡ m
      → ready f (length xs + count) ss → ready (f + length xs) count (feed_all absent step m f xs ss)
  unfolding feed_all
  ready_all [] f count ss room whole h = rw add-zero (rw (let z : 0 + count ≡ count = omega arith in z) at h)
  ready_all (x ∷ xs) f count ss room whole h =
      rw (add-suc, ← suc-add)
      (ready_all xs (suc f) count (feed_one absent step m f x ss) (omega arith) (one_length absent step m f x ss ∙ whole)
      (ready_one f x (length xs + count) ss (omega arith) whole (rw suc-add at h)))

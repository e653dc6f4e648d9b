-- Feed in any number of pieces: the sums agree with the readings fed so far.
--     Agrees                     each pixel that has had a sample holds the entry of its samples
--     agrees_none                where nothing is fed, any sums agree
--     agrees_one, agrees_all     a reading more, and then several: what each is added to is an entry of nine samples at most
--     agrees_full, values_full   where n whole samples are fed, each pixel holds the entry of n samples, and stands for what they come to
--     written                    an entry that was written is that of its samples, which is possible for its k
--     written_possible           and so is the entry
use Prim.Native.Nat.{ℕ, zero, suc, ◌+◌, ◌*◌, ◌/◌, ◌%◌, ◌≤◌, ◌<◌}
use mathlib.Core.Bool.{true}
use mathlib.Core.List.{List, [], ◌∷◌, ◌++◌, append-nil}
use mathlib.Core.Path.{◌≡◌, sym, ap, subst, ◌∙◌}
use native.Mathlib.Decide.{ℕ_discrete}
use native.Mathlib.Nat.{suc-mul, mul-le-mul_right, lt_of_mul-lt-mul_right}
use native.Mathlib.Omega.{arith}
use lib.Arith.{digits_mod}
use lib.ListN.{length, get_or, length-append, get_or-append}
use lib.Seq.{append_snoc, get_or-append_seam, get_or-set_same, get_or-set_other}
use Rattle.settings.specs.declared.Settings.{Settings}
use Rattle.settings.proofs.Parts.{InRange}
use Rattle.entries.specs.Possible.{possible}
use Rattle.step.specs.Step.{step}
use Rattle.engines.specs.Engine.{Engine, possible_in, step_in}
use Rattle.engines.specs.Laws.{StandsFor}
use Rattle.engines.proofs.Laws as Engines
use Rattle.written.specs.Written.{samples_written}
use Rattle.sums.specs.Feed.{feed_one, feed_all}
use Rattle.sums.specs.Exact.{reading_of, entry_after}
use Rattle.written.proofs.Places.{same_sample, place, next}
use Rattle.sums.proofs.Feeding.{one_length}
use Rattle.sums.proofs.Pixel.{entry_step, entry_same, entry_possible}

-- Pixel p has had sample i + 1, and no later one: its reading number i × m + p is among those fed, and number (i + 1) × m + p is not.
pub record Agrees {E : Type 0} (engine : Engine E) (s : Settings) (m : ℕ) (readings : List ℕ) (sums : List E) : Type 0 where
  pub whole : length sums ≡ m
  pub entry : (p i : ℕ) → p < m → i * m + p < length readings → length readings ≤ i * m + p + m
      → get_or sums p engine.absent ≡ engine.entry_of (entry_after s (suc i) (reading_of m readings p))

-- the samples that a pixel has had are not touched by more readings
older : (m : ℕ) (xs ys : List ℕ) (p k n : ℕ) → 1 ≤ n → n ≤ suc k → k * m + p < length xs → reading_of m xs p n ≡ reading_of m (xs ++ ys) p n
older m xs ys p k zero a h l = absurd (omega arith)
older m xs ys p k (suc i) a h l = sym (get_or-append xs ys 0 (i * m + p) (omega (arith, mul-le-mul_right {m = i} {n = k} m (omega arith))))

module _ {E : Type 0} (engine : Engine E) (s : Settings) (r : InRange s) (m : ℕ) (some : 0 < m) where
  pub agrees_none : (sums : List E) → length sums ≡ m → Agrees engine s m [] sums
  agrees_none sums e = record { whole = e; entry = λ p i h a b. absurd (omega arith) }

  pub agrees_full : (xs : List ℕ) (sums : List E) → Agrees engine s m xs sums → (n : ℕ) → 1 ≤ n → length xs ≡ n * m
      → (p : ℕ) → p < m → get_or sums p engine.absent ≡ engine.entry_of (entry_after s n (reading_of m xs p))
  agrees_full xs sums a zero h e p l = absurd (omega arith)
  agrees_full xs sums a (suc n) h e p l =
      let d : length xs ≡ n * m + m = e ∙ suc-mul n m in
      a.entry p n l (omega arith) (omega arith)

  module _ (meant : StandsFor engine) where
    module _ (xs : List ℕ) (x : ℕ) (few : length xs < 10 * m) (sums : List E) (agrees : Agrees engine s m xs sums) where
      abbrev f : ℕ
      f = length xs

      abbrev c : ℕ
      c = f / m

      abbrev q : ℕ
      q = f % m

      abbrev new : List ℕ
      new = xs ++ x ∷ []

      here : (c * m + q ≡ f) × (q < m)
      here = place f m some

      newest : reading_of m new q (suc c) ≡ x
      newest = rw here.0 (get_or-append_seam xs x [] 0)

      same_entry : (p k : ℕ) → k * m + p < f → entry_after s (suc k) (reading_of m xs p) ≡ entry_after s (suc k) (reading_of m new p)
      same_entry p k h = entry_same s _ _ (suc k) (λ n a b. older m xs (x ∷ []) p k n a b h)

      -- what the entry stands for
      before : (k : ℕ) → k * m + q ≡ f → 1 ≤ k → engine.value_of (get_or sums q engine.absent) ≡ entry_after s k (reading_of m new q)
      before zero e l = absurd (omega arith)
      before (suc k) e l =
          let d : k * m + m + q ≡ f = rw suc-mul at e in
          let h : k * m + q < f = omega arith in
          let nine : suc k < 10 = lt_of_mul-lt-mul_right m (omega arith) in
          rw (agrees.entry q k here.1 h (omega arith))
          (meant.value s (suc k) _ (omega arith) (entry_possible s r (reading_of m xs q) (suc k) (omega arith) (omega arith)) ∙ same_entry q k h)

      pixel : (p i : ℕ) → p < m → i * m + p < suc f → suc f ≤ i * m + p + m → Dec (p ≡ q)
          → get_or (feed_one engine.absent (step_in engine s) m f x sums) p engine.absent ≡ engine.entry_of (entry_after s (suc i) (reading_of m new p))
      unfolding feed_one
      pixel p i hp a b (yes e) =
          rw (e, same_sample m q i c (omega (arith, here)) (omega (arith, here)), get_or-set_same sums q _ engine.absent (rw agrees.whole here.1))
          (ap engine.entry_of
          (subst (λ (y : ℕ). step s (suc c) (engine.value_of (get_or sums q engine.absent)) y ≡ entry_after s (suc c) (reading_of m new q)) newest
          (entry_step s r (reading_of m new q) c (engine.value_of (get_or sums q engine.absent)) (before c here.0))))
      pixel p i hp a b (no ne) =
          let apart : i * m + p ≡ f → ⊥ = λ z. ne (sym (digits_mod i hp) ∙ ap (λ (y : ℕ). y % m) z) in
          let lt : i * m + p < f = omega (arith, apart) in
          rw (get_or-set_other sums q p _ engine.absent ne)
          (agrees.entry p i hp lt (omega arith) ∙ ap engine.entry_of (same_entry p i lt))

      agrees_one : Agrees engine s m new (feed_one engine.absent (step_in engine s) m f x sums)
      agrees_one =
          let e : length new ≡ suc f = rw length-append (omega arith) in
          record {
            whole = one_length engine.absent (step_in engine s) m f x sums ∙ agrees.whole;
            entry = λ p i hp a b. pixel p i hp (rw e at a) (rw e at b) (ℕ_discrete p q);
          }

    pub agrees_all : (xs ys : List ℕ) (sums : List E) → length (xs ++ ys) ≤ 10 * m
        → Agrees engine s m xs sums → Agrees engine s m (xs ++ ys) (feed_all engine.absent (step_in engine s) m (length xs) ys sums)
    unfolding feed_all
    agrees_all xs [] sums few a = rw append-nil a
    agrees_all xs (y ∷ ys) sums few a =
        let e : length (xs ++ y ∷ []) ≡ suc (length xs) = rw length-append (omega arith) in
        let before_it : length xs < 10 * m = omega (arith, length-append xs (y ∷ ys)) in
        rw (append_snoc xs y ys, e) at
        (agrees_all (xs ++ y ∷ []) ys (feed_one engine.absent (step_in engine s) m (length xs) y sums) (rw (append_snoc xs y ys) few) (agrees_one xs y before_it sums a))

    pub values_full : (xs : List ℕ) (sums : List E) → Agrees engine s m xs sums → (n : ℕ) → 1 ≤ n → n ≤ 9 → length xs ≡ n * m
        → (p : ℕ) → p < m → engine.value_of (get_or sums p engine.absent) ≡ entry_after s n (reading_of m xs p)
    values_full xs sums a n h few e p l =
        rw (agrees_full xs sums a n h e p l) (meant.value s n _ few (entry_possible s r (reading_of m xs p) n few h))

    pub written : (xs : List ℕ) (sums : List E) → Agrees engine s m xs sums → length xs ≤ 9 * m → (p : ℕ) → p < m → (k : ℕ) → samples_written m (length xs) p ≡ k → 1 ≤ k
        → let z = entry_after s k (reading_of m xs p) in (k ≤ 9) × (get_or sums p engine.absent ≡ engine.entry_of z) × (possible s k z ≡ true)
    written xs sums a h p hp zero e l = absurd (omega arith)
    written xs sums a h p hp (suc i) e l =
        let w = rw (e, suc-mul) at (next (length xs) m some p hp) in
        let few : i < 9 = lt_of_mul-lt-mul_right m (omega arith) in
        (few, a.entry p i hp (omega arith) (omega arith), entry_possible s r (reading_of m xs p) (suc i) few (omega arith))

    pub written_possible : (xs : List ℕ) (sums : List E) → Agrees engine s m xs sums → length xs ≤ 9 * m → (p : ℕ) → p < m → (k : ℕ) → samples_written m (length xs) p ≡ k → 1 ≤ k
        → possible_in engine s k (get_or sums p engine.absent) ≡ true
    written_possible xs sums a h p hp k e l =
        let w = written xs sums a h p hp k e l in rw w.1 (Engines.entry_possible engine meant s k _ w.0 w.2)

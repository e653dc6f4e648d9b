-- Check 14 of Feed in the two intervals that the code walks, for any kind of entry. With q = f mod m and c = f div m, the pixels below q have had c + 1
-- samples and those from q on c.
--     Ready                          each entry that was written, and for which a reading comes, passes the test for its k
--     written_found, written_first     the search over all pixels is the search over the two intervals; in the first sample, over the first
--     written_ready, ready_found     where nothing is found, the sums are ready; and back
--     written_none                   a Feed that brings no reading finds nothing
use Prim.Native.Nat.{ℕ, ◌+◌, ◌*◌, ◌-◌, ◌/◌, ◌%◌, ◌≤◌, ◌<◌, min}
use mathlib.Core.Bool.{Bool, true, false, not, ◌&&◌}
use mathlib.Core.List.{List}
use mathlib.Core.Path.{◌≡◌, refl, sym, ap, ◌∙◌}
use borrow.Author.Tests.{ltb-true, ltb-false, lt-ltb, le-ltb, leb-true, le-leb, not-false}
use native.Mathlib.Nat.{add-mul, one-mul, add-zero}
use native.Mathlib.Omega.{arith}
use lib.Dec.{leb, ltb}
use lib.ListN.{get_or}
use Rattle.laws.proofs.Tests.{cases}
use Rattle.std.specs.Prelude.{None}
use Rattle.std.specs.Option.{option_or}
use Rattle.checks.specs.Search.{first_place, shifted}
use Rattle.checks.proofs.Search.{nowhere, found_none, found_same, found_append, found_cut, else_none}
use Rattle.written.specs.Written.{samples_written, impossible_at}
use Rattle.written.proofs.Places.{same_sample, place, next}

-- The next reading of a pixel p that has had k samples is number k × m + p. A count of readings comes, from number f on.
unfoldable pub Ready : {E : Type 0} → E → (ℕ → E → Bool) → ℕ → ℕ → ℕ → List E → Type 0
Ready absent test m f count sums =
    (p k : ℕ) → p < m → f ≤ k * m + p → k * m + p < f + m → k * m + p < f + count → 0 < k → test k (get_or sums p absent) ≡ true

-- two tests of the same difference
differ : (a b c d : ℕ) → a + d ≡ c + b → ltb a b ≡ ltb c d
differ a b c d e =
    cases (ltb c d) (λ t. lt-ltb a b (omega (arith, ltb-true c d t)) ∙ sym t) (λ t. le-ltb a b (omega (arith, ltb-false c d t)) ∙ sym t)

-- where the third of three holds if the first two do
none_fails : (a b c : Bool) → (a ≡ true → b ≡ true → c ≡ true) → a && b && not c ≡ false
none_fails true true c h = rw (h refl refl)
none_fails true false c h = refl
none_fails false b c h = refl

module _ {E : Type 0} (absent : E) (test : ℕ → E → Bool) (m f count : ℕ) (ss : List E) (some : 0 < m) where
  abbrev q : ℕ
  q = f % m

  abbrev c : ℕ
  c = f / m

  here : (c * m + q ≡ f) × (q < m)
  here = place f m some

  abbrev bad : ℕ → Bool
  bad = impossible_at absent test m f count ss

  abbrev fails : ℕ → ℕ → Bool
  fails k p = not (test k (get_or ss p absent))

  at_low : (p : ℕ) → p < q → bad p ≡ (ltb (m + p) (q + count) && fails (c + 1) p)
  at_low p h =
      let e : (c + 1) * m ≡ c * m + m = rw (add-mul c 1 m, one-mul m) in
      rw (lt-ltb p q h, le-leb 1 (c + 1) (omega arith), differ ((c + 1) * m + p) (f + count) (m + p) (q + count) (omega (arith, e, here)))

  at_high : (p : ℕ) → q ≤ p → bad p ≡ (leb 1 c && ltb p (q + count) && fails c p)
  at_high p h = rw (le-ltb p q h, add-zero c, differ (c * m + p) (f + count) p (q + count) (omega (arith, here)))

  abbrev low : ℕ
  low = min q (q + count - m)

  abbrev high : ℕ
  high = min (q + count) m

  low_part : first_place q bad ≡ first_place low (fails (c + 1))
  low_part =
      found_cut bad low q (omega arith) (λ p l h. at_low p h ∙ rw (le-ltb (m + p) (q + count) (omega arith)))
      ∙ found_same bad (fails (c + 1)) low (λ p h. at_low p (omega arith) ∙ rw (lt-ltb (m + p) (q + count) (omega arith)))

  high_part : 0 < c → first_place (m - q) (λ i. bad (q + i)) ≡ first_place (high - q) (λ i. fails c (q + i))
  high_part h =
      found_cut (λ i. bad (q + i)) (high - q) (m - q) (omega (arith, here))
      (λ i l k. at_high (q + i) (omega arith) ∙ rw (le-leb 1 c h, le-ltb (q + i) (q + count) (omega arith)))
      ∙ found_same (λ i. bad (q + i)) (λ i. fails c (q + i)) (high - q)
      (λ i k. at_high (q + i) (omega arith) ∙ rw (le-leb 1 c h, lt-ltb (q + i) (q + count) (omega arith)))

  none_high : c ≡ 0 → first_place (m - q) (λ i. bad (q + i)) ≡ None
  none_high e = nowhere (λ i. bad (q + i)) (m - q) (λ i k. at_high (q + i) (omega arith) ∙ rw e)

  whole : first_place m bad ≡ option_or (first_place q bad) (shifted q (first_place (m - q) (λ i. bad (q + i))))
  whole =
      let e : q + (m - q) ≡ m = omega (arith, here) in
      sym (ap (λ (k : ℕ). first_place k bad) e) ∙ found_append bad q (m - q)

  pub written_found : 0 < c → first_place m bad ≡ option_or (first_place low (fails (c + 1))) (shifted q (first_place (high - q) (λ i. fails c (q + i))))
  written_found h = whole ∙ rw (low_part, high_part h)

  pub written_first : c ≡ 0 → first_place m bad ≡ first_place low (fails (c + 1))
  written_first e = whole ∙ rw (low_part, none_high e) (else_none (first_place low (fails (c + 1))))

  pub written_ready : first_place m bad ≡ None → Ready absent test m f count ss
  unfolding Ready
  written_ready e p k h lo hi brought pos =
      let w = next f m some p h in
      let d : samples_written m f p ≡ k = same_sample m p (samples_written m f p) k (omega arith) (omega arith) in
      not-false _ (rw (d, le-leb 1 k pos, lt-ltb (k * m + p) (f + count) brought) at (found_none bad m e p h))

  pub ready_found : Ready absent test m f count ss → first_place m bad ≡ None
  unfolding Ready
  ready_found ready =
      nowhere bad m
      (λ p h. let k = samples_written m f p in
      let w = next f m some p h in
      none_fails (leb 1 k) (ltb (k * m + p) (f + count)) (test k (get_or ss p absent))
      (λ written brought. ready p k h w.0 w.1 (ltb-true (k * m + p) (f + count) brought) (leb-true 1 k written)))

  pub written_none : count ≡ 0 → first_place m bad ≡ None
  unfolding Ready
  written_none e = ready_found (λ p k h lo hi brought pos. absurd (omega arith))

-- The laws of reading a word.
use Prim.Native.Nat.{ℕ, ◌+◌, ◌-◌, ◌*◌, ◌^◌, ◌≤◌, ◌<◌}
use mathlib.Core.Bool.{Bool, true, false, cond, ◌||◌}
use mathlib.Core.Path.{◌≡◌, refl, ap, ◌∙◌}
use borrow.Author.Tests.{lt-ltb, le-ltb, le-leb, lt-leb, ltb-true, ne_eqb}
use native.Mathlib.Nat.{mul-le-mul}
use native.Mathlib.Omega.{arith}
use lib.Ieee.{of_int, binary64}
use lib.Ieee.Back.{round_whole}
use lib.Ieee.Exact.{HasValue}
use lib.Dec.{ltb}
use lib.Pow.{pow_mono}
use Rattle.std.specs.Prelude.{Ok}
use Rattle.laws.proofs.Tests.{cases}
use Rattle.word_codes.specs.Codes.{ordinary_end, saturated_at, first_saturated, last_saturated, negative_code}
use Rattle.settings.specs.Settings.{truncation_in_range}
use Rattle.settings.proofs.Parts.{truncation_parts}
use Rattle.meaning.specs.declared.WordRead.TheVariants.{Ordinary, Saturated, Negative, Unassigned}
use Rattle.meaning.specs.Meaning.{limit, saturated_word, negative_word, meaning, read_word, is_flag}
use Rattle.meaning.specs.Laws.{read_as_flag, MeaningLaws}

-- a whole number up to 2^53 is its float's value
exact : (n : ℕ) → n ≤ 9007199254740992 → HasValue (limit n) false n 1
unfolding of_int
exact n h = round_whole binary64 false n h

module _ (r : ℕ) (in_r : truncation_in_range r ≡ true) where
  reads : (w : ℕ) → read_word r w ≡ Ok (meaning r w)
  unfolding read_word
  reads w = rw in_r

  limits_exact : (w : ℕ) → w < ordinary_end
      → let lo = w * 2 ^ r in
      let hi = (w + 1) * 2 ^ r in
      (read_word r w ≡ Ok (Ordinary (limit lo) (limit hi))) × HasValue (limit lo) false lo 1 × HasValue (limit hi) false hi 1
  unfolding meaning
  limits_exact w h =
      let b : 2 ^ r ≤ 8 = pow_mono (truncation_parts r in_r).1 in
      let low : w * 2 ^ r ≤ ordinary_end * 8 = mul-le-mul {n₂ = ordinary_end} (omega arith) b in
      let high : (w + 1) * 2 ^ r ≤ ordinary_end * 8 = mul-le-mul {n₂ = ordinary_end} (omega arith) b in
      (reads w ∙ rw (lt-ltb w ordinary_end h), exact (w * 2 ^ r) (omega arith), exact ((w + 1) * 2 ^ r) (omega arith))

  flag : (n : ℕ) → 1 ≤ n → n ≤ 9 → read_word r (saturated_at n) ≡ Ok (Saturated n)
  unfolding meaning
  flag n a b =
      let e : saturated_at n - ordinary_end ≡ n = omega arith in
      let w = saturated_at n in
      reads w ∙ rw (le-ltb w ordinary_end (omega arith), le-leb first_saturated w (omega arith), le-leb w last_saturated (omega arith), e)

  negative : read_word r negative_code ≡ Ok Negative
  unfolding meaning
  negative = reads negative_code

  flags : (w : ℕ) → read_as_flag (read_word r w) ≡ is_flag w
  unfolding meaning is_flag
  flags w =
      ap read_as_flag (reads w)
      ∙ cases (ltb w ordinary_end)
      (λ e. let h = ltb-true w ordinary_end e in rw (e, lt-leb first_saturated w (omega arith), ne_eqb w negative_code (λ q. omega arith)))
      (λ e. rw e (by (saturated_word w) (negative_word w)))
    where
      by : (s n : Bool) → read_as_flag (Ok (cond s (Saturated (w - ordinary_end)) (cond n Negative Unassigned))) ≡ s || n
      by true n = refl
      by false true = refl
      by false false = refl

pub laws : MeaningLaws
unfolding meaning
laws = record {
  limits_exact = λ r w t. limits_exact r t w;
  saturated = λ r n t. flag r t n;
  negative = negative;
  known_flags = (refl, refl, refl, refl, refl, refl, refl, refl);
  flags = λ r w t. flags r t w;
}

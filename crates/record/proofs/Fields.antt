-- The fields of an update record.
--     field_cases                  by a bit's field
--     weight_below                 a weight's field is one of nine
--     field_apart                  two bits have two fields
--     size_small, offset_small     where a field stands is a small number
--     high_bits                    a map has nothing above its fields' bits exactly where none of the bits without one is set
use Prim.Native.Nat.{ℕ, zero, suc, ◌+◌, ◌-◌, ◌*◌, ◌/◌, ◌%◌, ◌^◌, ◌≤◌, ◌<◌}
use mathlib.Core.Bool.{not, ◌||◌}
use mathlib.Core.Path.{◌≡◌, refl, sym, ap, subst, ◌∙◌}
use native.Mathlib.Nat.{add-zero, add-suc, suc-add, div-eq_of_lt, div-div-eq-div-mul, pow-suc}
use native.Mathlib.Omega.{arith}
use borrow.Author.Tests.{ltb-true, ltb-false, eqb-true, eqb-false, eq-eqb, ne_eqb}
use lib.Dec.{ltb, eqb}
use Rattle.laws.specs.Lists.{up_from, any_of}
use Rattle.laws.proofs.Tests.{cases}
use Rattle.record.specs.declared.Field.{Field}
use Rattle.record.specs.declared.Field.TheVariants.{Weight, Threshold, Truncation, Samples}
use Rattle.record.specs.Record.{bit_set, field_count, unknown_bit, field_of, size_of, offset_of}

pub field_cases : (P : Field → Type 0) (bit : ℕ) → (bit < 9 → P (Weight bit)) → (bit ≡ 9 → P Threshold) → (bit ≡ 10 → P Truncation) → (10 < bit → P Samples) → P (field_of bit)
unfolding field_of
field_cases P bit w t r n =
    cases (ltb bit 9) (λ a. rw a (w (ltb-true bit 9 a)))
    (λ a. cases (eqb bit 9) (λ b. rw (a, b) (t (eqb-true bit 9 b)))
    (λ b. cases (eqb bit 10) (λ c. rw (a, b, c) (r (eqb-true bit 10 c)))
    (λ c. rw (a, b, c) (n (above (ltb-false bit 9 a) (eqb-false bit 9 b) (eqb-false bit 10 c))))))
  where
    above : 9 ≤ bit → (bit ≡ 9 → ⊥) → (bit ≡ 10 → ⊥) → 10 < bit
    above a b c = omega arith

-- of a weight's field, that its number is below 9
abbrev Below : Field → Type 0
Below (Weight i) = i < 9
Below Threshold = Unit
Below Truncation = Unit
Below Samples = Unit

pub weight_below : (bit i : ℕ) → field_of bit ≡ Weight i → i < 9
weight_below bit i e = subst Below e (field_cases Below bit (λ h. h) (λ h. tt) (λ h. tt) (λ h. tt))

abbrev bit_of : Field → ℕ
bit_of (Weight i) = i
bit_of Threshold = 9
bit_of Truncation = 10
bit_of Samples = 11

bit_of_field : (bit : ℕ) → bit < field_count → bit_of (field_of bit) ≡ bit
bit_of_field bit h = field_cases (λ f. bit_of f ≡ bit) bit (λ l. refl) sym sym (λ g. omega arith)

pub field_apart : (a b : ℕ) → a < field_count → b < field_count → field_of a ≡ field_of b → a ≡ b
field_apart a b h k e = sym (bit_of_field a h) ∙ ap bit_of e ∙ bit_of_field b k

pub size_small : (f : Field) → size_of f ≤ 2
size_small (Weight i) = omega arith
size_small Threshold = omega arith
size_small Truncation = omega arith
size_small Samples = omega arith

pub offset_small : (map bit : ℕ) → offset_of map bit ≤ 2 + 2 * bit
unfolding offset_of
offset_small map zero = omega arith
offset_small map (suc bit) =
    cases (bit_set map bit)
    (λ e. rw e (omega (arith, offset_small map bit, size_small (field_of bit))))
    (λ e. rw e (omega (arith, offset_small map bit)))

-- a number is not 0 where its lowest bit is set or the rest of it is not 0
lowest_or_more : (n : ℕ) → not (eqb n 0) ≡ eqb (n % 2) 1 || not (eqb (n / 2) 0)
lowest_or_more n =
    cases (eqb (n % 2) 1)
    (λ e. rw (e, ne_eqb n 0 (λ z. omega (arith, eqb-true (n % 2) 1 e))))
    (λ e. cases (eqb (n / 2) 0)
    (λ f. rw (e, f, eq-eqb n 0 (omega (arith, eqb-false (n % 2) 1 e, eqb-true (n / 2) 0 f))))
    (λ f. rw (e, f, ne_eqb n 0 (λ z. eqb-false (n / 2) 0 f (omega arith)))))

-- a number of n + m bits, with those from bit n up
bits_from : (map n m : ℕ) → map < 2 ^ (n + m) → not (eqb (map / 2 ^ n) 0) ≡ any_of (bit_set map) (up_from n m)
unfolding any_of bit_set
bits_from map n zero h = rw (div-eq_of_lt (rw add-zero at h))
bits_from map n (suc m) h =
    let e : map / 2 ^ n / 2 ≡ map / 2 ^ suc n = div-div-eq-div-mul map (2 ^ n) 2 ∙ rw (pow-suc) in
    rw (lowest_or_more (map / 2 ^ n), e, bits_from map (suc n) m (rw (suc-add, ← add-suc) h))

pub high_bits : (map : ℕ) → map < 2 ^ 16 → not (eqb (map / 2 ^ field_count) 0) ≡ unknown_bit map
high_bits map h = bits_from map field_count (16 - field_count) h

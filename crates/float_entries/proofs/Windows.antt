-- Bits that lie as far above those of 2^52 + 2^31 as an entry above 0.
--     window_is          one range of the bits tells a possible entry
--     halves_are         and so do their two halves
use Prim.Native.Nat.{ℕ, suc, ◌+◌, ◌-◌, ◌*◌, ◌/◌, ◌%◌, ◌≤◌, ◌<◌}
use mathlib.Core.Bool.{Bool, true, false, cond, ◌&&◌}
use mathlib.Core.Logic.{⊎_elim}
use mathlib.Core.Path.{◌≡◌, refl, sym, ◌∙◌}
use native.Mathlib.Omega.{arith}
use borrow.Author.Tests.{eqb-true, eqb-false}
use lib.Dec.{eqb, ltb}
use lib.IntN.{ℤ, pos, negsuc, neg_ℤ, ◌+ℤ◌, ◌-ℤ◌}
use lib.Signed.{le_z, lt_z}
use mir.Syntax.{w64}
use mir.Val.{to_z, sel}
use Rattle.laws.proofs.Ints.{up, dn, sum, neg_up, neg_dn, is_le, not_le, is_lt, same, signed, to_z_nat}
use Rattle.laws.proofs.Tests.{cases}
use Rattle.entries.specs.Mark.{marked}
use Rattle.entries.specs.Possible.{max_product, possible_after}
use Rattle.entries.proofs.Possible.{fair, gap, lowered_is}

-- how far b lies above the bits of 2^52 + 2^31
abbrev pub above : ℤ → ℤ
above b = b -ℤ pos 4841369601570766848

above_is : (b : ℤ) → up (above b) + (dn b + 4841369601570766848) ≡ dn (above b) + up b
above_is b = omega (arith, sum b (neg_ℤ (pos 4841369601570766848)))

from_low : (a b : ℤ) → le_z (pos 4841369601570766848 +ℤ a) b ≡ le_z a (above b)
from_low a b =
    cases (le_z a (above b))
    (λ t. is_le (pos 4841369601570766848 +ℤ a) b (omega (signed, above_is b, sum (pos 4841369601570766848) a)) ∙ sym t)
    (λ t. not_le (pos 4841369601570766848 +ℤ a) b (omega (signed, above_is b, sum (pos 4841369601570766848) a)) ∙ sym t)

to_high : (a b : ℤ) → le_z b (pos 4841369601570766848 +ℤ a) ≡ le_z (above b) a
to_high a b =
    cases (le_z (above b) a)
    (λ t. is_le b (pos 4841369601570766848 +ℤ a) (omega (signed, above_is b, sum (pos 4841369601570766848) a)) ∙ sym t)
    (λ t. not_le b (pos 4841369601570766848 +ℤ a) (omega (signed, above_is b, sum (pos 4841369601570766848) a)) ∙ sym t)

is_marked : (b : ℤ) → lt_z (pos 4841369602644508672) b ≡ marked (above b)
is_marked b =
    cases (marked (above b))
    (λ t. is_lt (pos 4841369602644508672) b (omega (signed, above_is b)) ∙ sym t)
    (λ t. cases (lt_z (pos 4841369602644508672) b) (λ u. absurd (omega (signed, above_is b))) (λ u. u ∙ sym t))

moved_is : (g b : ℤ) → above (b -ℤ g) ≡ above b -ℤ g
moved_is g b =
    same (above (b -ℤ g)) (above b -ℤ g) (omega (arith, above_is (b -ℤ g), above_is b, sum b (neg_ℤ g), sum (above b) (neg_ℤ g), neg_up g, neg_dn g))

module _ (k : ℕ) (few : k ≤ 9) where
  abbrev span : ℤ
  span = pos (k * max_product)

  pub window_is : (b : ℤ) → let moved = cond (lt_z (pos 4841369602644508672) b) (b -ℤ gap k) b in
      (le_z (pos 4841369601570766848 +ℤ (pos 128 -ℤ span)) moved && le_z moved (pos 4841369601570766848 +ℤ (pos 128 +ℤ span))) ≡ possible_after k (above b)
  window_is b =
      let at : (t : Bool) → above (cond t (b -ℤ gap k) b) ≡ cond t (above b -ℤ gap k) (above b) = λ t. elim t as (λ t. above (cond t (b -ℤ gap k) b) ≡ cond t (above b -ℤ gap k) (above b)) [ true ↦ moved_is (gap k) b | false ↦ refl ] in
      rw (is_marked b, from_low, to_high, at) (lowered_is k few (above b))

  -- bits of which an entry is possible
  near_bits : (bits : ℕ) → bits < 18446744073709551616 → possible_after k (above (to_z w64 bits)) ≡ true → bits / 4294967296 ≡ 1127219200
  near_bits bits small p = by (ltb bits 9223372036854775808) refl p
    where
      by : (t : Bool) → ltb bits 9223372036854775808 ≡ t → possible_after k (above (sel t (pos bits) (negsuc (18446744073709551616 - suc bits)))) ≡ true → bits / 4294967296 ≡ 1127219200
      by true e p =
          let b = above_is (pos bits) in
          ⊎_elim
          (λ m. omega arith)
          (λ m. omega arith)
          (fair k (above (pos bits)) p)
      by false e p =
          let b = above_is (negsuc (18446744073709551616 - suc bits)) in
          absurd (⊎_elim (λ m. omega arith) (λ m. omega arith) (fair k (above (negsuc (18446744073709551616 - suc bits))) p))

  -- the two halves of bits
  pub halves_are : (bits : ℕ) → bits < 18446744073709551616
      → (eqb (bits / 4294967296) 1127219200 && possible_after k (pos (bits % 4294967296) -ℤ pos 2147483648)) ≡ possible_after k (above (to_z w64 bits))
  halves_are bits small =
      cases (eqb (bits / 4294967296) 1127219200)
      (λ t.
      let h = eqb-true (bits / 4294967296) 1127219200 t in
      let l = bits % 4294967296 in
      let read : to_z w64 bits ≡ pos bits = to_z_nat w64 bits (omega arith) in
      let low : pos l -ℤ pos 2147483648 ≡ above (pos bits) = same (pos l -ℤ pos 2147483648) (above (pos bits)) (omega (arith, above_is (pos bits), sum (pos l) (neg_ℤ (pos 2147483648)))) in
      rw (t, read, low) refl)
      (λ t.
      rw t
      (cases (possible_after k (above (to_z w64 bits)))
      (λ p. absurd (eqb-false (bits / 4294967296) 1127219200 t (near_bits bits small p)))
      (λ p. sym p)))

-- The step of a float is the float of the whole number's step.
--     held                  an entry's whole number is one that floats count without a gap
--     addend_is             what a sample adds to its product
--     stored_is             what is stored
use Prim.Native.Nat.{ℕ, ◌+◌, ◌^◌, ◌≤◌, ◌<◌}
use mathlib.Core.Bool.{Bool, true, false, cond}
use mathlib.Core.Path.{◌≡◌, refl, sym, ◌∙◌}
use native.Mathlib.Omega.{arith}
use borrow.Author.Tests.{eqb-false, leb-true}
use lib.Dec.{eqb}
use lib.IntN.{ℤ, pos, negsuc, nat_abs, ◌+ℤ◌, ◌-ℤ◌, ◌*ℤ◌}
use lib.Signed.{lt_z}
use lib.Ieee.{Float, binary64, fits, of_int, of_bits, to_bits, is_nan, add, sub, mul}
use Rattle.std.specs.Float.{is_sign_negative}
use Rattle.laws.proofs.Tests.{cases, and_true}
use Rattle.settings.specs.Settings.{max_threshold}
use Rattle.readings.specs.Readings.{max_reading, reading_in_range}
use Rattle.entries.specs.Mark.{mark_base, mark, marked}
use Rattle.entries.specs.SupportRange.{entry_in_range}
use Rattle.entries.proofs.Range.{range}
use Rattle.step.specs.declared.Sample.{Sample}
use Rattle.step.specs.Step.{SampleInRange, is_over, pedestal_or_stored}
use Rattle.step.proofs.Products.{magnitude_le, size_le}
use Rattle.step.proofs.Steps.{later_adds, addend_in_range}
use Rattle.engines.specs.Engine.{in_floats}
use Rattle.engines.specs.SupportRange.{entry_in_range_in}
use Rattle.engines.specs.SupportPasses.{step_by_in}
use Rattle.float_laws.proofs.Whole.{product_added}
use Rattle.float_laws.proofs.Bits.{number, bits_of, difference_number, below, difference_held, raised_number, raised_below}
use Rattle.float_laws.proofs.Integers.{stood_for}

held : (z : ℤ) → entry_in_range z ≡ true → nat_abs z ≤ 2 ^ 52
held (pos n) h = omega (arith, range (pos n) h)
held (negsuc n) h = omega (arith, range (negsuc n) h)

is_marked : (z : ℤ) → lt_z (pos mark_base) z ≡ marked z
is_marked (pos n) = refl
is_marked (negsuc n) = refl

module _ (n : ℕ) (some : 1 ≤ n) (stored : Float) (ok : 1 < n → entry_in_range_in in_floats stored ≡ true) where
  abbrev z : ℤ
  z = pedestal_or_stored n (in_floats.value_of stored)

  in_range : entry_in_range z ≡ true
  in_range = addend_in_range n (in_floats.value_of stored) some (λ l. (and_true (in_floats.is_whole stored) (entry_in_range (in_floats.value_of stored)) (ok l)).1)

  addend_is : (addend : Float) → fits binary64 addend ≡ true → addend ≡ cond (eqb n 1) (in_floats.entry_of (pos 128)) stored → addend ≡ in_floats.entry_of z
  addend_is addend f e =
      cases (eqb n 1)
      (λ t. rw (t, e) (rw t refl))
      (λ t.
      let l : 1 < n = omega (arith, eqb-false n 1 t) in
      let same : addend ≡ stored = e ∙ rw t refl in
      rw (same, later_adds n (in_floats.value_of stored) l)
      (sym (stood_for stored (rw (← same) f) (and_true (in_floats.is_whole stored) (entry_in_range (in_floats.value_of stored)) (ok l)).0)))

-- the choice among floats is the choice among whole numbers
chosen : (z mark sum : ℤ) (is_marked above : Bool)
    → cond is_marked (in_floats.entry_of z) (cond above (in_floats.entry_of mark) (in_floats.entry_of sum)) ≡ in_floats.entry_of (cond is_marked z (cond above mark sum))
chosen z mark sum true above = refl
chosen z mark sum false true = refl
chosen z mark sum false false = refl

pub pedestal_is : of_bits binary64 4638707616191610880 ≡ in_floats.entry_of (pos 128)
unfolding of_bits of_int
pedestal_is = refl

-- the shift's bits
pub shift_bits : to_bits binary64 (in_floats.entry_of (pos 4503599627370496)) ≡ 4841369599423283200
shift_bits = bits_of 0 (omega arith)

pub shift_number : is_nan (in_floats.entry_of (pos 4503599627370496)) ≡ false
shift_number = number (pos 4503599627370496) (omega arith)

module _ (sample : Sample) (x : ℕ) (r : SampleInRange sample) (hx : reading_in_range x ≡ true) where
  small_threshold : sample.threshold < 2 ^ 52
  small_threshold = omega (arith, leb-true sample.threshold max_threshold r.threshold)

  pub small_reading : x < 2 ^ 52
  small_reading = omega (arith, leb-true x max_reading hx)

  pub over_number : is_nan (sub binary64 (in_floats.entry_of (pos (2 ^ 52 + sample.threshold))) (in_floats.entry_of (pos (2 ^ 52 + x)))) ≡ false
  over_number = raised_number sample.threshold x small_threshold small_reading

  sum_is : (z : ℤ) → entry_in_range z ≡ true
      → add binary64 (mul binary64 (in_floats.entry_of sample.weight) (in_floats.entry_of (pos x))) (in_floats.entry_of z) ≡ in_floats.entry_of (sample.weight *ℤ pos x +ℤ z)
  sum_is z h =
      product_added binary64 sample.weight (pos x) z
      (omega (arith, magnitude_le sample.weight r.weight))
      (omega (arith, small_reading))
      (omega (arith, size_le sample.weight x r.weight hx))
      (omega (arith, held z h))

  module _ (stored addend : Float) (ok : 1 < sample.n → entry_in_range_in in_floats stored ≡ true) (f : fits binary64 addend ≡ true)
      (e : addend ≡ cond (eqb sample.n 1) (in_floats.entry_of (pos 128)) stored) where
    abbrev whole : ℤ
    whole = pedestal_or_stored sample.n (in_floats.value_of stored)

    whole_in_range : entry_in_range whole ≡ true
    whole_in_range = in_range sample.n r.number.0 stored ok

    is : addend ≡ in_floats.entry_of whole
    is = addend_is sample.n r.number.0 stored ok addend f e

    small_whole : nat_abs whole ≤ 2 ^ 52
    small_whole = held whole whole_in_range

    apart : nat_abs (pos mark_base -ℤ whole) ≤ 2 ^ 53
    apart = difference_held (pos mark_base) whole (omega arith) small_whole

    pub marked_number : is_nan (sub binary64 (in_floats.entry_of (pos mark_base)) addend) ≡ false
    marked_number = rw is (difference_number (pos mark_base) whole (omega arith) (omega (arith, small_whole)) apart)

    pub stored_is : cond (is_sign_negative (sub binary64 (in_floats.entry_of (pos mark_base)) addend)) addend
        (cond (is_sign_negative (sub binary64 (in_floats.entry_of (pos (2 ^ 52 + sample.threshold))) (in_floats.entry_of (pos (2 ^ 52 + x))))) (in_floats.entry_of (mark sample.n))
        (add binary64 (mul binary64 (in_floats.entry_of sample.weight) (in_floats.entry_of (pos x))) addend))
        ≡ step_by_in in_floats sample x stored
    stored_is =
        rw (
          is,
          raised_below sample.threshold x small_threshold small_reading,
          sum_is whole whole_in_range,
          below (pos mark_base) whole (omega arith) (omega (arith, small_whole)) apart,
          is_marked whole,
        )
        (chosen whole (mark sample.n) (sample.weight *ℤ pos x +ℤ whole) (marked whole) (is_over sample x))

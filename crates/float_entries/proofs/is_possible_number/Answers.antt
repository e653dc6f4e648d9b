use mathlib.Core.Bool.{Bool, true, false, ◌&&◌}
use mathlib.Core.Path.{◌≡◌, refl, sym, ap, ◌∙◌}
use Prim.Native.Nat.{◌/◌, ◌%◌}
use lib.Dec.{eqb}
use lib.IntN.{pos, ◌-ℤ◌}
use lib.Ieee.{binary64, to_bits}
use lib.Ieee.Bits.{to_bits-lt}
use lib.Ieee.Fits.{add-fits}
use mir.Syntax.{w64}
use mir.Val.{to_z, of_z}
use Rattle.laws.proofs.Ints.{back}
use Rattle.entries.specs.Possible.{possible_after}
use Rattle.float_laws.proofs.Integers.{moved, moved_back, middle, moved_number, moved_back_number, test_is}
use Rattle.float_entries.proofs.Windows.{halves_are}
use Rattle.float_entries.proofs.is_possible_number.Goals as goal

pub float_to_bits-same : goal.float_to_bits-same
float_to_bits-same c = rw (moved_back_number c.args.entry c.requires.number) tt

pub float_to_bits-moved : goal.float_to_bits-moved
float_to_bits-moved c = rw (moved_number c.args.entry c.requires.number) tt

-- the order of three tests
turned : (s h p : Bool) → s && (h && p) ≡ h && s && p
turned true true p = refl
turned true false p = refl
turned false true p = refl
turned false false p = refl

pub returns : goal.returns
returns c =
    let a = c.args in
    let k = a.k in
    let same = eqb (to_bits binary64 (moved_back a.entry)) (to_bits binary64 a.entry) in
    let bits = to_bits binary64 (moved a.entry) in
    let read : to_z w64 (of_z w64 c.cast_signed.result) ≡ to_z w64 bits = back w64 c.cast_signed.result c.cast_signed.type_inv ∙ c.cast_signed.ensures in
    let small = to_bits-lt binary64 (moved a.entry) (add-fits binary64 a.entry middle) in
    rw (c.are_possible.ensures, read)
    (ap (λ b. same && b) (sym (halves_are k c.requires.few bits small))
    ∙ turned same (eqb (bits / 4294967296) 1127219200) (possible_after k (pos (bits % 4294967296) -ℤ pos 2147483648))
    ∙ test_is a.entry c.well_formed.1.0.1 (possible_after k))

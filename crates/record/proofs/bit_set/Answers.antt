-- `record::stands` meets its contract: a number of two bytes has no bit from 16 on.
use Prim.Native.Nat.{ℕ, ◌/◌, ◌^◌, ◌<◌, ◌≤◌}
use mathlib.Core.Path.{◌≡◌}
use borrow.Author.Tests.{le-ltb}
use native.Mathlib.Nat.{lt_of_lt_of_le, div-eq_of_lt}
use native.Mathlib.Omega.{arith}
use lib.Bits.{and_mask}
use lib.Pow.{pow_mono}
use Rattle.record.specs.Record.{bit_set}
use Rattle.record.proofs.bit_set.Goals as goal

none_above : (n i : ℕ) → n < 2 ^ 16 → 16 ≤ i → n / 2 ^ i ≡ 0
none_above n i h k = div-eq_of_lt (lt_of_lt_of_le h (pow_mono k))

pub returns-then-i-lt16 : goal.returns-then-i-lt16
unfolding bit_set
returns-then-i-lt16 c = rw (← and_mask (c.args.n / 2 ^ c.args.i) 1)

pub returns-else-i-lt16 : goal.returns-else-i-lt16
unfolding bit_set
returns-else-i-lt16 c = rw (le-ltb c.args.i 16 c.if-i-lt16.false, none_above c.args.n c.args.i (omega arith) (omega arith))

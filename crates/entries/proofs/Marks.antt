-- The laws of marks.
--     is_marked, sample_is       a mark, and its sample
--     sample_none                an entry that isn't marked has no sample
--     by_mark                    an entry is a mark, or isn't marked
use Prim.Native.Nat.{ℕ, ◌+◌, ◌-◌, ◌≤◌}
use mathlib.Core.Bool.{true, false}
use Rattle.std.specs.Prelude.{Some, None}
use mathlib.Core.Path.{◌≡◌, refl, ap}
use native.Mathlib.Omega.{arith}
use borrow.Author.Tests.{le-leb, leb-true}
use lib.Dec.{leb}
use lib.IntN.{ℤ, pos, negsuc}
use Rattle.laws.proofs.Tests.{cases}
use Rattle.entries.specs.Mark.{mark, marked, sample_of}

pub is_marked : (n : ℕ) → 1 ≤ n → marked (mark n) ≡ true
is_marked n h = le-leb 1073741825 (1073741824 + n) (omega arith)

pub sample_is : (n : ℕ) → 1 ≤ n → sample_of (mark n) ≡ Some n
unfolding sample_of
sample_is n h = rw (is_marked n h) (ap Some (omega arith))

pub sample_none : (e : ℤ) → marked e ≡ false → sample_of e ≡ None
unfolding sample_of
sample_none (pos e) h = rw h
sample_none (negsuc e) h = refl

pub by_mark : {A : Type 0} (e : ℤ) → ((n : ℕ) → 1 ≤ n → e ≡ mark n → A) → (marked e ≡ false → A) → A
by_mark (negsuc e) f g = g refl
by_mark (pos e) f g =
    cases (leb 1073741825 e)
    (λ t. let h = leb-true 1073741825 e t in f (e - 1073741824) (omega arith) (ap pos (omega arith)))
    g

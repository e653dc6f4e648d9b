-- What a sum of 32 bits is, modulo 2^32, by where the sum lies.
use Prim.Native.Nat.{ℕ, ◌+◌, ◌-◌, ◌%◌, ◌≤◌, ◌<◌}
use mathlib.Core.Path.{◌≡◌, ap}
use native.Mathlib.Omega.{arith}
use borrow.Author.Tests.{ltb-true, ltb-false}
use lib.Dec.{ltb}
use lib.IntN.{ℤ, pos, negsuc}
use mir.Syntax.{w32}
use mir.Val.{to_z}
use Rattle.std.specs.Int.{int_wrap}
use Rattle.laws.proofs.Ints.{up, dn}
use Rattle.laws.proofs.Tests.{cases}

read : (n m : ℕ) → m ≡ n → n < 4294967296 → (A : Type 0)
    → (n < 2147483648 → to_z w32 m ≡ pos n → A) → (2147483648 ≤ n → to_z w32 m ≡ negsuc (4294967295 - n) → A) → A
read n m e h A f g =
    cases (ltb n 2147483648)
    (λ t. f (ltb-true n 2147483648 t) (rw (e, t)))
    (λ t. g (ltb-false n 2147483648 t) (rw (e, t) (ap negsuc (omega arith))))

pub by_wrap : {A : Type 0} (z : ℤ) → up z < dn z + 4294967296 → dn z ≤ up z + 4294967296
    → (dn z + 2147483648 ≤ up z → up (int_wrap w32 z) + dn z + 4294967296 ≡ dn (int_wrap w32 z) + up z → A)
    → (up z < dn z + 2147483648 → dn z ≤ up z + 2147483648 → int_wrap w32 z ≡ z → A)
    → (up z + 2147483648 < dn z → up (int_wrap w32 z) + dn z ≡ dn (int_wrap w32 z) + up z + 4294967296 → A)
    → A
unfolding int_wrap
by_wrap {A} (pos n) high low f g h =
    read n (n % 4294967296) (omega arith) (omega arith) A
    (λ k e. g (omega arith) (omega arith) e)
    (λ k e. f (omega arith) (rw e (omega arith)))
by_wrap {A} (negsuc n) high low f g h =
    read (4294967295 - n) (4294967295 - n % 4294967296) (omega arith) (omega arith) A
    (λ k e. h (omega arith) (rw e (omega arith)))
    (λ k e. g (omega arith) (omega arith) (rw e (ap negsuc (omega arith))))

-- Tests: what a conjunction or a disjunction says, and back; and reasoning by a test's value.
use Prim.Native.Nat.{ℕ}
use mathlib.Core.Bool.{Bool, true, false, ◌&&◌, ◌||◌}
use mathlib.Core.Logic.{◌⊎◌, inl, inr}
use mathlib.Core.Path.{◌≡◌, refl}
use native.Mathlib.Omega.{arith}
use lib.Dec.{T}

-- a test is not both
pub clash : {A : Type 0} → true ≡ false → A
clash e = let z : ◌≡◌ {A = ℕ} 0 1 = cc in absurd (omega arith)

-- by a test's value
pub cases : {A : Type 0} (t : Bool) → (t ≡ true → A) → (t ≡ false → A) → A
cases true p q = p refl
cases false p q = q refl

pub is_true : (t : Bool) → T t → t ≡ true
is_true true h = refl
is_true false h = absurd h

pub and_true : (a b : Bool) → a && b ≡ true → (a ≡ true) × (b ≡ true)
and_true true b e = (refl, e)
and_true false b e = (e, cc)

pub true_and : {a b : Bool} → a ≡ true → b ≡ true → a && b ≡ true
true_and p q = rw (p, q)

pub and_assoc : (a b c : Bool) → a && b && c ≡ a && (b && c)
and_assoc true b c = refl
and_assoc false b c = refl

pub and_right : (a : Bool) → a && true ≡ a
and_right true = refl
and_right false = refl

pub and_false : (a : Bool) → a && false ≡ false
and_false true = refl
and_false false = refl

pub or_true : (a b : Bool) → a || b ≡ true → (a ≡ true) ⊎ (b ≡ true)
or_true true b e = inl refl
or_true false b e = inr e

pub neither : (a b : Bool) → a || b ≡ false → (a ≡ false) × (b ≡ false)
neither true b e = clash e
neither false b e = (refl, e)

pub or_right : (a : Bool) → a || true ≡ true
or_right true = refl
or_right false = refl

pub or_false : (a : Bool) → a || false ≡ a
or_false true = refl
or_false false = refl

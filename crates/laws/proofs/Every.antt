-- The laws of `every`.
--     every_at, every_all         an element, and all of them
--     every_drop, every_take      a part
use mathlib.Core.Path.{◌≡◌, refl}
use mathlib.Core.Bool.{Bool, true}
use mathlib.Core.List.{List, [], ◌∷◌}
use Prim.Native.Nat.{ℕ, zero, suc, ◌<◌}
use native.Mathlib.Omega.{arith}
use lib.ListN.{length, get_or, take, drop}
use Rattle.laws.specs.Lists.{every}
use Rattle.laws.proofs.Tests.{and_true, true_and}

module _ {A : Type 0} (f : A → Bool) where
  pub every_at : (l : List A) → every f l ≡ true → (d : A) (j : ℕ) → j < length l → f (get_or l j d) ≡ true
  unfolding every
  every_at [] e d j h = absurd (omega arith)
  every_at (x ∷ l) e d zero h = (and_true (f x) (every f l) e).0
  every_at (x ∷ l) e d (suc j) h = every_at l (and_true (f x) (every f l) e).1 d j (omega arith)

  pub every_all : (l : List A) (d : A) → ((j : ℕ) → j < length l → f (get_or l j d) ≡ true) → every f l ≡ true
  unfolding every
  every_all [] d h = refl
  every_all (x ∷ l) d h = true_and (h 0 (omega arith)) (every_all l d (λ j k. h (suc j) (omega arith)))

  pub every_drop : (n : ℕ) (l : List A) → every f l ≡ true → every f (drop n l) ≡ true
  unfolding every
  every_drop zero l e = e
  every_drop (suc n) [] e = e
  every_drop (suc n) (x ∷ l) e = every_drop n l (and_true (f x) (every f l) e).1

  pub every_take : (n : ℕ) (l : List A) → every f l ≡ true → every f (take n l) ≡ true
  unfolding every
  every_take zero l e = refl
  every_take (suc n) [] e = e
  every_take (suc n) (x ∷ l) e = let p = and_true (f x) (every f l) e in true_and p.0 (every_take n l p.1)

  -- where it holds of d too, it holds of what `get_or` finds
  pub every_each : (l : List A) → every f l ≡ true → (d : A) → f d ≡ true → (j : ℕ) → f (get_or l j d) ≡ true
  unfolding every
  every_each [] e d h j = h
  every_each (x ∷ l) e d h zero = (and_true (f x) (every f l) e).0
  every_each (x ∷ l) e d h (suc j) = every_each l (and_true (f x) (every f l) e).1 d h j

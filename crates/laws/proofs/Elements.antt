-- What a test says of each element of a list.
--     every_append                of two lists, one after the other
--     every_made                  of a list made by a rule
--     every_set                   each element still passes after a store of one that does
--     table                       a test of every number below n, by computation
use mathlib.Core.Path.{◌≡◌, refl, sym}
use mathlib.Core.Bool.{Bool, true, ◌&&◌}
use mathlib.Core.List.{List, [], ◌∷◌, ◌++◌}
use Prim.Native.Nat.{ℕ, zero, suc, ◌<◌}
use lib.ListN.{get_or, set}
use Rattle.laws.specs.Lists.{each, every}
use Rattle.laws.proofs.Tests.{and_assoc}
use Rattle.laws.proofs.Each.{each_length, each_at}
use Rattle.laws.proofs.Every.{every_at, every_all}

module _ {A : Type 0} (f : A → Bool) where
  pub every_append : (xs ys : List A) → every f (xs ++ ys) ≡ every f xs && every f ys
  unfolding every
  every_append [] ys = refl
  every_append (x ∷ xs) ys = rw (every_append xs ys) (sym (and_assoc (f x) (every f xs) (every f ys)))

  pub every_made : (g : ℕ → A) (n : ℕ) → ((i : ℕ) → i < n → f (g i) ≡ true) → every f (each g n) ≡ true
  every_made g n h =
      every_all f (each g n) (g 0) (λ j k. let l : j < n = rw (each_length g n) at k in rw (each_at g n j (g 0) l) (h j l))

  pub every_set : (l : List A) (i : ℕ) (v d : A) → f v ≡ true → ((j : ℕ) → f (get_or l j d) ≡ true) → (j : ℕ) → f (get_or (set l i v) j d) ≡ true
  every_set [] i v d p h j = h j
  every_set (x ∷ l) zero v d p h zero = p
  every_set (x ∷ l) zero v d p h (suc j) = h (suc j)
  every_set (x ∷ l) (suc i) v d p h zero = h 0
  every_set (x ∷ l) (suc i) v d p h (suc j) = every_set l i v d p (λ k. h (suc k)) j

pub table : (f : ℕ → Bool) (n : ℕ) → every f (each (λ i. i) n) ≡ true → (i : ℕ) → i < n → f i ≡ true
table f n e i h = rw (each_at (λ k. k) n i 0 h) at (every_at f (each (λ k. k) n) e 0 i (rw (each_length (λ k. k) n) h))

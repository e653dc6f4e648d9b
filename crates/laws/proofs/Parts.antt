-- A part of a list, and what holds of all its elements.
--     part_length     how many
--     part_at         an element
--     map_same        two functions that agree on each element
use mathlib.Core.Path.{◌≡◌, refl, ◌∙◌}
use mathlib.Core.List.{List, [], ◌∷◌, map}
use Prim.Native.Nat.{ℕ, ◌+◌, ◌≤◌, ◌<◌}
use native.Mathlib.Omega.{arith}
use lib.ListN.{length, get_or, take, drop, length-drop}
use lib.Seq.{length-take-le, get_or-take, get_or-drop}
pub use Rattle.std.specs.List.{AllByRecursion as All}

module _ {A : Type 0} where
  pub part_length : (l : List A) (i k : ℕ) → i + k ≤ length l → length (take k (drop i l)) ≡ k
  part_length l i k h = length-take-le k (drop i l) (rw length-drop (omega arith))

  pub part_at : (l : List A) (i k j : ℕ) (d : A) → j < k → get_or (take k (drop i l)) j d ≡ get_or l (i + j) d
  part_at l i k j d h = get_or-take k (drop i l) j d h ∙ get_or-drop i l j d

pub map_same : {A B : Type 0} {P : A → Type 0} (f g : A → B) → ((x : A) → P x → f x ≡ g x) → (l : List A) → All P l → map f l ≡ map g l
map_same f g h [] a = refl
map_same f g h (x ∷ l) a = rw (h x a.0, map_same f g h l a.1)

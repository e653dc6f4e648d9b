-- Lists: one made by a rule, lists one after the other, a test of each element, a total.
use Rattle.std.specs.Prelude.{ℕ, zero, suc, Bool, true, false, ◌&&◌, ◌||◌, List, [], ◌∷◌, ◌++◌, ℤ, pos, ◌+ℤ◌}

-- f 0, f 1, .. f (n − 1)
unfoldable pub each : {A : Type 0} → (ℕ → A) → ℕ → List A
each f zero = []
each f (suc n) = each f n ++ (f n ∷ [])

-- a, a + 1, .. a + n − 1
abbrev pub up_from : ℕ → ℕ → List ℕ
up_from a zero = []
up_from a (suc n) = a ∷ up_from (suc a) n

-- the elements of some lists, one list after the other
abbrev pub joined : {A : Type 0} → List (List A) → List A
joined [] = []
joined (xs ∷ xss) = xs ++ joined xss

-- whether the test holds of every element
unfoldable pub every : {A : Type 0} → (A → Bool) → List A → Bool
every test [] = true
every test (x ∷ xs) = test x && every test xs

-- whether the test holds of some element
unfoldable pub any_of : {A : Type 0} → (A → Bool) → List A → Bool
any_of test [] = false
any_of test (x ∷ xs) = test x || any_of test xs

-- the total of a list
unfoldable pub total : List ℤ → ℤ
total [] = pos 0
total (x ∷ xs) = x +ℤ total xs

-- f at each place that the list xs reaches; the places past it stay as they were
unfoldable pub over : {A B : Type 0} → (A → B → B) → List A → List B → List B
over f [] ys = ys
over f (x ∷ xs) [] = []
over f (x ∷ xs) (y ∷ ys) = f x y ∷ over f xs ys

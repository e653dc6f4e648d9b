-- The laws of `over`.
--     over_at_lem         past what was read, a place is as it was
--     over_more       one reading more is one store
--     over_part       a part that holds all the places that are reached
use mathlib.Core.Path.{◌≡◌, refl, ap}
use mathlib.Core.List.{List, [], ◌∷◌, ◌++◌}
use Prim.Native.Nat.{ℕ, zero, suc, ◌+◌, ◌≤◌, ◌<◌}
use native.Mathlib.Nat.{le_of_suc-le-suc, not-suc-le-zero}
use native.Mathlib.Numerals.{add-one}
use lib.ListN.{length, get_or, take, drop, set, take-append-drop}
use Rattle.laws.specs.Lists.{over}

module _ {A B : Type 0} (f : A → B → B) where
  pub over_at_lem : (rs : List A) (ss : List B) (i : ℕ) (e : B) → get_or (over f (take i rs) ss) i e ≡ get_or ss i e
  unfolding over
  over_at_lem rs ss zero e = refl
  over_at_lem [] ss (suc i) e = refl
  over_at_lem (r ∷ rs) [] (suc i) e = refl
  over_at_lem (r ∷ rs) (s ∷ ss) (suc i) e = over_at_lem rs ss i e

  more : (rs : List A) (ss : List B) (i : ℕ) (d : A) (e : B) → i < length rs → set (over f (take i rs) ss) i (f (get_or rs i d) (get_or ss i e)) ≡ over f (take (suc i) rs) ss
  unfolding over
  more [] ss i d e h = absurd (not-suc-le-zero h)
  more (r ∷ rs) [] zero d e h = refl
  more (r ∷ rs) [] (suc i) d e h = refl
  more (r ∷ rs) (s ∷ ss) zero d e h = refl
  more (r ∷ rs) (s ∷ ss) (suc i) d e h = ap (λ (l : List B). f r s ∷ l) (more rs ss i d e (le_of_suc-le-suc h))

  pub over_more : (rs : List A) (ss : List B) (i : ℕ) (d : A) (e : B) → i < length rs → set (over f (take i rs) ss) i (f (get_or rs i d) (get_or ss i e)) ≡ over f (take (i + 1) rs) ss
  over_more rs ss i d e h = rw add-one (more rs ss i d e h)

  pub over_part : (k : ℕ) (rs : List A) (l : List B) → length rs ≤ k → over f rs (take k l) ++ drop k l ≡ over f rs l
  unfolding over
  over_part k [] l h = take-append-drop k l
  over_part zero (r ∷ rs) l h = absurd (not-suc-le-zero h)
  over_part (suc k) (r ∷ rs) [] h = refl
  over_part (suc k) (r ∷ rs) (s ∷ l) h = ap (λ (x : List B). f r s ∷ x) (over_part k rs l (le_of_suc-le-suc h))

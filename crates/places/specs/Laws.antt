-- What must be true of the two operations, beside their contracts. `proofs/Laws.antt` shows it.
use Rattle.std.specs.Prelude.{ℕ, ◌-◌, ◌≤◌, ◌<◌, true, false, cond, ◌||◌, List, [], ◌∷◌, ◌↔◌, ◌⊎◌, ◌≡◌, eqb, length, Some, None, Ok, Err}
use Rattle.laws.specs.Lists.{each}
use Rattle.checks.specs.declared.Reason.TheVariants.{WordsLength, OutsideFrame}
use Rattle.checks.specs.Checks.{verdict, refusal}
use Rattle.places.specs.declared.Place.{Place}
use Rattle.places.specs.Places.{place_at, index_of, is_inside, flag_at}
use Rattle.places.specs.Checks.{nearest_checks, count_checks}
use Rattle.places.specs.Finding.{distance_from, nearest_of}
use Rattle.places.specs.Counting.{how_many, count_of}

-- (a, i) comes before (b, j) or is the same, in lexicographic order
abbrev pub NotAfter : ℕ → ℕ → ℕ → ℕ → Type 0
NotAfter a i b j = (a < b) ⊎ ((a ≡ b) × (i ≤ j))

-- word i is a flag, and no flag is nearer, or as near and before it
pub record NearestFlag (words : List ℕ) (width : ℕ) (place : Place) (i : ℕ) : Type 0 where
  pub flag : flag_at words i ≡ true
  pub first : (j : ℕ) → flag_at words j ≡ true → NotAfter (distance_from width place i) i (distance_from width place j) j

-- n words, of which those at i and j are flags
abbrev two_flags : ℕ → ℕ → ℕ → List ℕ
two_flags n i j = each (λ k. cond (eqb k i || eqb k j) 32767 0) n

-- a frame of three rows and columns, with flags in the middle of each side
abbrev cross : List ℕ
cross = 0 ∷ 32767 ∷ 0 ∷ 32761 ∷ 0 ∷ 32753 ∷ 0 ∷ 32767 ∷ 0 ∷ []

pub record FlagLaws : Type 0 where
  -- the answer is a place exactly when its word is a flag and no other flag is nearer, or as near and before it in row order
  pub nearest : (words : List ℕ) (width height : ℕ) (place p : Place) → verdict (nearest_checks words width height place) ≡ Ok tt
      → (nearest_of words width height place ≡ Ok (Some p)) ↔ ((is_inside width height p ≡ true) × NearestFlag words width place (index_of width p))
  -- there is "no flag" exactly when no word is one
  pub no_flag : (words : List ℕ) (width height : ℕ) (place : Place) → verdict (nearest_checks words width height place) ≡ Ok tt
      → (nearest_of words width height place ≡ Ok None) ↔ ((i : ℕ) → flag_at words i ≡ false)
  -- a place that is flagged is its own nearest
  pub own_nearest : (words : List ℕ) (width height : ℕ) (place : Place) → verdict (nearest_checks words width height place) ≡ Ok tt
      → flag_at words (index_of width place) ≡ true → nearest_of words width height place ≡ Ok (Some place)
  -- a box of one place counts 1 if it is flagged, and else 0
  pub one_place : (words : List ℕ) (width height : ℕ) (place : Place) → verdict (count_checks words width height place place) ≡ Ok tt
      → count_of words width height place place ≡ Ok (cond (flag_at words (index_of width place)) 1 0)
  -- the box of the whole frame counts every flag
  pub whole_frame : (words : List ℕ) (width height : ℕ) → verdict (count_checks words width height (place_at 0 0) (place_at (height - 1) (width - 1))) ≡ Ok tt
      → count_of words width height (place_at 0 0) (place_at (height - 1) (width - 1)) ≡ Ok (how_many (length words) (flag_at words))
  -- 2² + 2² is nearer than 3², and 4² nearer than 3² + 3²
  pub known_distances : (nearest_of (two_flags 12 3 10) 4 3 (place_at 0 0) ≡ Ok (Some (place_at 2 2))) × (nearest_of (two_flags 20 4 18) 5 4 (place_at 0 0) ≡ Ok (Some (place_at 0 4)))
  -- of four that are equally near the upper one is found, and of two in a row the left one
  pub known_ties : (nearest_of cross 3 3 (place_at 1 1) ≡ Ok (Some (place_at 0 1))) × (nearest_of (32767 ∷ 0 ∷ 32753 ∷ []) 3 1 (place_at 0 1) ≡ Ok (Some (place_at 0 0)))
  -- both edges of a box are counted in
  pub known_counts : (count_of cross 3 3 (place_at 0 1) (place_at 2 1) ≡ Ok 2) × (count_of cross 3 3 (place_at 1 0) (place_at 1 2) ≡ Ok 2) × (count_of cross 3 3 (place_at 0 0) (place_at 2 2) ≡ Ok 4)
  -- 19 for a side; 16 before 19 for a place or a corner; of two words in a row only the places 0 and 1 of row 0 are inside
  pub known_refusals : (nearest_of [] 0 1 (place_at 0 0) ≡ Err (refusal OutsideFrame))
      × (nearest_of [] 1 1025 (place_at 0 0) ≡ Err (refusal OutsideFrame))
      × (nearest_of [] 1 1 (place_at 0 1) ≡ Err (refusal WordsLength))
      × (nearest_of (0 ∷ 0 ∷ []) 2 1 (place_at 0 1) ≡ Ok None)
      × (nearest_of (0 ∷ 0 ∷ []) 2 1 (place_at 1 0) ≡ Err (refusal OutsideFrame))
      × (nearest_of (0 ∷ 0 ∷ []) 2 1 (place_at 0 2) ≡ Err (refusal OutsideFrame))
      × (count_of [] 1 1 (place_at 0 0) (place_at 1 0) ≡ Err (refusal WordsLength))
      × (count_of (0 ∷ []) 1 1 (place_at 0 0) (place_at 1 0) ≡ Err (refusal OutsideFrame))
      × (count_of (0 ∷ 0 ∷ []) 2 1 (place_at 0 1) (place_at 0 0) ≡ Err (refusal OutsideFrame))
      × (count_of (0 ∷ 0 ∷ []) 1 2 (place_at 1 0) (place_at 0 0) ≡ Err (refusal OutsideFrame))

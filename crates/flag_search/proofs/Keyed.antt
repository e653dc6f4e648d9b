-- Keys.
--     key_order, order_key      of two keys the lower is that of the nearer, or of the first of two
--     lesser, widened           the least key of two sets of words, and of fewer words
--     above_some, above_none    that of the row so far above, and where there is none
--     more_rows                 the rows nearer than so many, and one more on either side
--     row_column                the row and the column of a word
--     key_found, key_none       the least key of all words is that of the nearest flag, or there is none
use Prim.Native.Nat.{ℕ, ◌+◌, ◌-◌, ◌*◌, ◌/◌, ◌%◌, ◌≤◌, ◌<◌, min}
use mathlib.Core.Bool.{true}
use mathlib.Core.List.{List}
use mathlib.Core.Logic.{◌⊎◌, inl, inr}
use mathlib.Core.Path.{◌≡◌}
use native.Mathlib.Omega.{arith}
use borrow.Author.Tests.{ltb-true, ltb-false, leb-true, leb-false}
use lib.Dec.{ltb, leb}
use lib.ListN.{length}
use Rattle.sides.specs.Sides.{max_area}
use Rattle.std.specs.Prelude.{Option, Some, None, SomeIff}
use Rattle.laws.proofs.Tests.{cases}
use Rattle.places.specs.declared.Place.{Place}
use Rattle.places.specs.Places.{flag_at, apart}
use Rattle.places.specs.Finding.{nearest_at, distance_from}
use Rattle.places.specs.Laws.{NotAfter}
use Rattle.places.proofs.Checked.{within}
use Rattle.places.proofs.Flagged.{flag_below}
use Rattle.places.proofs.Nearness.{nearest_is, nearest_none}
use Rattle.flag_search.specs.SupportRequires.{Searched}
use Rattle.flag_search.specs.SupportKeys.{key_of, lower, AtMost, Least}

module _ (a i b j : ℕ) (few : i < max_area) (many : j < max_area) where
  pub key_order : NotAfter a i b j → a * max_area + i ≤ b * max_area + j
  key_order (inl p) = omega arith
  key_order (inr p) = omega arith

  pub order_key : a * max_area + i ≤ b * max_area + j → NotAfter a i b j
  order_key h = cases (ltb a b) (λ e. inl (ltb-true a b e)) (λ e. inr (omega (arith, ltb-false a b e), omega (arith, ltb-false a b e)))

module _ (words : List ℕ) (width : ℕ) (place : Place) where
  pub widened : {A B : ℕ → Type 0} {key : Option ℕ} → ((j : ℕ) → flag_at words j ≡ true → B j → A j) → Least words width place A key → Least words width place B key
  widened f k = record { held = k.held; least = λ j b t. k.least j (f j t b) t }

  pub lesser : {A B : ℕ → Type 0} (x y : Option ℕ) → Least words width place A x → Least words width place B y → Least words width place (λ j. A j ⊎ B j) (lower x y)
  lesser {A} {B} None y k l = record { held = l.held; least = one }
    where
      one : (j : ℕ) → A j ⊎ B j → flag_at words j ≡ true → AtMost y (key_of width place j)
      one j (inl a) t = absurd (k.least j a t)
      one j (inr b) t = l.least j b t
  lesser {A} {B} (Some x) None k l = record { held = k.held; least = one }
    where
      one : (j : ℕ) → A j ⊎ B j → flag_at words j ≡ true → x ≤ key_of width place j
      one j (inl a) t = k.least j a t
      one j (inr b) t = absurd (l.least j b t)
  lesser {A} {B} (Some x) (Some y) k l =
      cases (leb x y)
      (λ e. let q : min x y ≡ x = omega (arith, leb-true x y e) in rw q (record { held = k.held; least = left (leb-true x y e) }))
      (λ e. let q : min x y ≡ y = omega (arith, leb-false x y e) in rw q (record { held = l.held; least = right (leb-false x y e) }))
    where
      left : x ≤ y → (j : ℕ) → A j ⊎ B j → flag_at words j ≡ true → x ≤ key_of width place j
      left h j (inl a) t = k.least j a t
      left h j (inr b) t = let m : y ≤ key_of width place j = l.least j b t in omega arith

      right : y < x → (j : ℕ) → A j ⊎ B j → flag_at words j ≡ true → y ≤ key_of width place j
      right h j (inl a) t = let m : x ≤ key_of width place j = k.least j a t in omega arith
      right h j (inr b) t = l.least j b t

  -- of the row so far above the place, and where there is none
  pub above_some : (away row : ℕ) (key : Option ℕ) → SomeIff (Some row) (away ≤ place.row) (place.row - away)
      → Least words width place (λ j. j / width ≡ row) key → Least words width place (λ j. j / width + away ≡ place.row) key
  above_some away row key s k = widened (λ j t b. omega (arith, s.0, s.1)) k

  pub above_none : (away : ℕ) → ¬ (away ≤ place.row) → Least words width place (λ j. j / width + away ≡ place.row) None
  above_none away far = record { held = tt; least = λ j b t. absurd (far (omega arith)) }

  -- the least key of the rows nearer than `away`
  abbrev pub LeastWithin : ℕ → Option ℕ → Type 0
  LeastWithin away key = Least words width place (λ j. apart place.row (j / width) < away) key

  pub more_rows : (away : ℕ) (best above below : Option ℕ) → LeastWithin away best
      → Least words width place (λ j. j / width + away ≡ place.row) above → Least words width place (λ j. j / width ≡ place.row + away) below
      → LeastWithin (away + 1) (lower best (lower above below))
  more_rows away best above below k a b = widened (λ j t h. where_is (j / width) h) (lesser best (lower above below) k (lesser above below a b))
    where
      where_is : (row : ℕ) → apart place.row row < away + 1 → (apart place.row row < away) ⊎ ((row + away ≡ place.row) ⊎ (row ≡ place.row + away))
      where_is row h =
          cases (ltb (apart place.row row) away)
          (λ e. inl (ltb-true _ _ e))
          (λ e. let l = ltb-false (apart place.row row) away e in
          inr (cases (leb row place.row) (λ q. inl (omega (arith, leb-true row place.row q))) (λ q. inr (omega (arith, leb-false row place.row q)))))

  module _ (height : ℕ) (s : Searched words width height place) where
    -- the row and the column of a word
    pub row_column : (j : ℕ) → j < length words → (j / width < height) × (j % width < width)
    row_column = within words width height s.whole (omega (arith, s.column))

    pub key_found : (key : ℕ) → Least words width place (λ j. j < length words) (Some key)
        → nearest_at (length words) (flag_at words) (distance_from width place) ≡ Some (key % max_area)
    key_found key k =
        let i = key % max_area in
        let l = flag_below words i k.held.0 in
        nearest_is (flag_at words) (distance_from width place) (length words) i
        (record {
          below = l;
          holds = k.held.0;
          first = λ j m u. order_key (distance_from width place i) i (distance_from width place j) j (omega (arith, s.few)) (omega (arith, s.few)) (rw k.held.1 at (k.least j m u));
        })

    pub key_none : Least words width place (λ j. j < length words) None → nearest_at (length words) (flag_at words) (distance_from width place) ≡ None
    key_none k = nearest_none (flag_at words) (distance_from width place) (length words) (λ j l. cases (flag_at words j) (λ t. absurd (k.least j l t)) (λ t. t))

-- The least key of a row.
--     row_found, row_none     by the nearest flag of the row, or where it has none
--     row_beyond              no key past the last row
use Prim.Native.Nat.{ℕ, ◌+◌, ◌-◌, ◌*◌, ◌/◌, ◌%◌, ◌≤◌, ◌<◌}
use mathlib.Core.Bool.{true}
use mathlib.Core.List.{List}
use mathlib.Core.Logic.{inl, inr}
use mathlib.Core.Path.{◌≡◌, refl, sym, subst, ◌∙◌}
use native.Mathlib.Nat.{div-add-mod', add-sub_cancel_left}
use native.Mathlib.Omega.{arith}
use lib.ListN.{length, take, drop}
use Rattle.sides.specs.Sides.{max_side, max_area}
use Rattle.laws.proofs.Numbers.{quotient, rest}
use Rattle.laws.proofs.Parts.{part_length, part_at}
use Rattle.laws.proofs.Tests.{clash}
use Rattle.std.specs.Prelude.{Option, Some, None}
use Rattle.places.specs.declared.Place.{Place}
use Rattle.places.specs.Places.{flag_at, apart, squared}
use Rattle.places.specs.Finding.{nearest_at, distance_from}
use Rattle.places.specs.Laws.{NotAfter}
use Rattle.places.proofs.Checked.{row_room}
use Rattle.places.proofs.Flagged.{flag_below}
use Rattle.places.proofs.Nearness.{Best, Says, nearest_says}
use Rattle.flag_search.specs.SupportRequires.{Searched}
use Rattle.flag_search.specs.SupportKeys.{Least, key_of}
use Rattle.flag_search.proofs.Distances.{squared_less}
use Rattle.flag_search.proofs.Keyed.{key_order, row_column}

module _ (words : List ℕ) (width height : ℕ) (place : Place) (s : Searched words width height place) (row : ℕ) where
  abbrev part : List ℕ
  part = take (row * width + width - row * width) (drop (row * width) words)

  -- what the search of the row tells
  abbrev pub Told : Option ℕ → Type 0
  Told x = x ≡ nearest_at (length part) (flag_at part) (apart place.column)

  pub row_beyond : height ≤ row → Least words width place (λ j. j / width ≡ row) None
  row_beyond h =
      record {
        held = tt;
        least = λ j b t. absurd (omega (arith, (row_column words width place height s j (flag_below words j t)).0));
      }

  module _ (in_height : row < height) where
    -- the row is within the words
    room : row * width + width ≤ length words
    room = row_room words width height s.whole row in_height

    wide : row * width + width - row * width ≡ width
    wide = add-sub_cancel_left (row * width) width

    long : length part ≡ width
    long = rw wide (part_length words (row * width) width room)

    says : (x : Option ℕ) → Told x → Says (flag_at part) (apart place.column) width x
    says x e =
        subst (λ (y : Option ℕ). Says (flag_at part) (apart place.column) width y) (rw long at (sym e)) (nearest_says (flag_at part) (apart place.column) width)

    -- a word of the row, and of the frame
    same_word : (c : ℕ) → c < width → flag_at part c ≡ flag_at words (row * width + c)
    same_word c h = rw (wide, part_at words (row * width) width c 0 h)

    -- how far a word of the row is
    far : (c : ℕ) → c < width → distance_from width place (row * width + c) ≡ squared (apart place.row row) + squared (apart place.column c)
    far c h = rw (quotient width row c h, rest width row c h)

    -- a word in this row, by its column
    by_column : (P : ℕ → Type 0) → ((c : ℕ) → c < width → flag_at words (row * width + c) ≡ true → P (row * width + c))
        → (j : ℕ) → j / width ≡ row → flag_at words j ≡ true → P j
    by_column P f j q t =
        let e : row * width + j % width ≡ j = rw (← q) (div-add-mod' j width) in
        subst P e (f (j % width) (row_column words width place height s j (flag_below words j t)).1 (rw e t))

    module _ (column : ℕ) (e : Told (Some column)) where
      abbrev best : Best (flag_at part) (apart place.column) width column
      best = says (Some column) e

      abbrev index : ℕ
      index = row * width + column

      few : index < max_area
      few = omega (arith, room, best.below, s.few)

      pub row_bounds : (rows columns : ℕ) → rows ≡ apart place.row row → columns ≡ apart place.column column → (rows ≤ max_side) × (columns ≤ max_side) × (index < max_area)
      row_bounds rows columns a b = (omega (arith, s.row, s.high), omega (arith, s.column, s.wide, best.below), few)

      flag_here : flag_at words index ≡ true
      flag_here = sym (same_word column best.below) ∙ best.holds

      -- of two in the row, the nearer column is the nearer word
      ordered : (c : ℕ) → c < width → NotAfter (apart place.column column) column (apart place.column c) c
          → NotAfter (distance_from width place index) index (distance_from width place (row * width + c)) (row * width + c)
      ordered c h (inl p) = rw (far column best.below, far c h) (inl (omega (arith, squared_less p)))
      ordered c h (inr (p, q)) = rw (far column best.below, far c h) (inr (rw p refl, omega arith))

      pub row_found : (key rows columns : ℕ) → rows ≡ apart place.row row → columns ≡ apart place.column column → key ≡ (rows * rows + columns * columns) * max_area + index
          → Least words width place (λ j. j / width ≡ row) (Some key)
      row_found key rows columns a b k =
          let d = distance_from width place index in
          rw (k, a, b, ← far column best.below)
          (record {
            held = rw (rest max_area d index few) (flag_here, refl);
            least = by_column (λ j. key_of width place index ≤ key_of width place j)
                (λ c h t. key_order d index (distance_from width place (row * width + c)) (row * width + c) few (omega (arith, flag_below words (row * width + c) t, s.few))
                (ordered c h (best.first c h (same_word c h ∙ t))));
          })

    pub row_none : Told None → Least words width place (λ j. j / width ≡ row) None
    row_none e = record { held = tt; least = by_column (λ j. ⊥) (λ c h t. clash (sym t ∙ sym (same_word c h) ∙ says None e c h)) }

-- What calls that passed their checks bring.
--     Framed                      sides and words
--     Inside, inside_parts        a place within the frame
--     frame_taken                 the frame, and the last check
--     nearest_taken, count_taken
--     within                      the row and the column of a word
--     row_room                    a row of the frame is within the words
use Prim.Native.Nat.{ℕ, ◌+◌, ◌*◌, ◌/◌, ◌%◌, ◌≤◌, ◌<◌}
use mathlib.Core.Bool.{true, false, not, ◌&&◌}
use mathlib.Core.List.{List}
use mathlib.Core.Path.{◌≡◌}
use native.Mathlib.Nat.{mod-lt, div-lt_iff_lt-mul, mul_comm}
use borrow.Author.Tests.{not-false, eqb-true, ltb-true, leb-true}
use lib.Dec.{eqb, ltb, leb}
use lib.ListN.{length}
use Rattle.std.specs.Prelude.{Ok}
use Rattle.laws.proofs.Numbers.{room}
use Rattle.laws.proofs.Tests.{and_true}
use Rattle.checks.specs.declared.Reason.TheVariants.{WordsLength, OutsideFrame}
use Rattle.checks.specs.Checks.{Answer, when, verdict}
use Rattle.checks.proofs.Laws.{both_taken, when_taken}
use Rattle.sides.specs.Sides.{sides_taken}
use Rattle.sides.proofs.Parts.{Sides, sides_parts}
use Rattle.places.specs.declared.Place.{Place}
use Rattle.places.specs.Places.{is_inside}
use Rattle.places.specs.Checks.{frame_checks, nearest_checks, is_box, count_checks}

module _ (words : List ℕ) (width height : ℕ) where
  pub record Framed : Type 0 where
    pub sides : Sides width height false
    pub whole : length words ≡ width * height

  pub record Inside (p : Place) : Type 0 where
    pub row : p.row < height
    pub column : p.column < width

  pub frame_taken : (last : Answer) → verdict (frame_checks words width height last) ≡ Ok tt → Framed × (last ≡ Ok tt)
  unfolding verdict
  frame_taken last e =
      let a = both_taken (when (not (sides_taken width height false)) OutsideFrame) _ e in
      let b = both_taken (when (not (eqb (length words) (width * height))) WordsLength) _ a.1 in (
        record {
          sides = sides_parts width height false (not-false _ (when_taken _ OutsideFrame a.0));
          whole = eqb-true (length words) (width * height) (not-false _ (when_taken _ WordsLength b.0));
        },
        (both_taken last (Ok tt) b.1).0,
      )

  pub inside_parts : (p : Place) → is_inside width height p ≡ true → Inside p
  inside_parts p e =
      let q = and_true (ltb p.row height) (ltb p.column width) e in
      record { row = ltb-true p.row height q.0; column = ltb-true p.column width q.1 }

  pub nearest_taken : (place : Place) → verdict (nearest_checks words width height place) ≡ Ok tt → Framed × Inside place
  nearest_taken place e =
      let f = frame_taken (when (not (is_inside width height place)) OutsideFrame) e in
      (f.0, inside_parts place (not-false _ (when_taken _ OutsideFrame f.1)))

  pub count_taken : (first last : Place) → verdict (count_checks words width height first last) ≡ Ok tt
      → Framed × Inside last × (first.row ≤ last.row) × (first.column ≤ last.column)
  count_taken first last e =
      let f = frame_taken (when (not (is_box width height first last)) OutsideFrame) e in
      let t = and_true (is_inside width height first && is_inside width height last) (leb first.row last.row && leb first.column last.column) (not-false _ (when_taken _ OutsideFrame f.1)) in
      let q = and_true (leb first.row last.row) (leb first.column last.column) t.1 in
      (f.0, inside_parts last (and_true (is_inside width height first) (is_inside width height last) t.0).1, leb-true first.row last.row q.0, leb-true first.column last.column q.1)

  pub within : length words ≡ width * height → 0 < width → (j : ℕ) → j < length words → (j / width < height) × (j % width < width)
  within whole some j h =
      let l : j < height * width = rw (mul_comm height width, ← whole) h in
      ((div-lt_iff_lt-mul {k = width} {x = j} {y = height} some).1 l, mod-lt j some)

  pub row_room : length words ≡ width * height → (row : ℕ) → row < height → row * width + width ≤ length words
  row_room whole row h = rw (whole, mul_comm width height) (room row height width h)

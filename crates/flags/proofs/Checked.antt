-- What calls that passed their checks bring, as the search and the count ask for it.
--     searched, boxed     that of the nearest flag, and that of the count
use Prim.Native.Nat.{ℕ}
use mathlib.Core.List.{List}
use mathlib.Core.Path.{◌≡◌}
use native.Mathlib.Omega.{arith}
use Rattle.std.specs.Prelude.{Ok}
use Rattle.checks.specs.Checks.{verdict}
use Rattle.places.specs.declared.Place.{Place}
use Rattle.places.specs.Checks.{nearest_checks, count_checks}
use Rattle.places.proofs.Checked.{nearest_taken, count_taken, row_room}
use Rattle.flag_search.specs.SupportRequires.{Searched}
use Rattle.flag_boxes.specs.SupportRequires.{Boxed}

module _ (words : List ℕ) (width height : ℕ) where
  pub searched : (place : Place) → verdict (nearest_checks words width height place) ≡ Ok tt → Searched words width height place
  searched place e =
      let t = nearest_taken words width height place e in
      let f = t.0 in
      record {
        whole = f.whole;
        wide = f.sides.width.high;
        high = f.sides.height.high;
        few = omega (arith, f.whole, f.sides.few);
        row = t.1.row;
        column = t.1.column;
      }

  pub boxed : (first last : Place) → verdict (count_checks words width height first last) ≡ Ok tt → Boxed words width first last
  boxed first last e =
      let t = count_taken words width height first last e in
      let f = t.0 in
      record {
        rows = t.2;
        columns = t.3;
        across = t.1.column;
        wide = f.sides.width.high;
        high = omega (arith, t.1.row, f.sides.height.high);
        down = row_room words width height f.whole last.row t.1.row;
        few = omega (arith, f.whole, f.sides.few);
      }

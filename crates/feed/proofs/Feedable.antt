-- What the passes of Feed require holds of a taken Feed.
--     feedable        of its readings and its sums
--     wanted_left     how many readings the ramp still wants
use Prim.Native.Nat.{ℕ, ◌+◌, ◌-◌}
use mathlib.Core.Bool.{true}
use mathlib.Core.List.{List}
use mathlib.Core.Path.{◌≡◌}
use native.Mathlib.Omega.{arith}
use borrow.Author.Tests.{ltb-true, ltb-false, lt-ltb, le-ltb}
use lib.Dec.{ltb}
use Rattle.laws.proofs.Tests.{cases}
use Rattle.settings.proofs.Parts.{in_range_whole}
use Rattle.engines.specs.Engine.{Engine}
use Rattle.ramp.specs.SupportRequires.{Feedable}
use Rattle.board.specs.declared.Board.{Board}
use Rattle.board.specs.Board.{wanted, of_taken_sides, sound}
use Rattle.board.proofs.Soundness.{sound_parts, sides_of, wanted_nine}
use Rattle.operations.proofs.FeedChecked.{FeedTaken}

pub feedable : {E : Type 0} (engine : Engine E) (b : Board) (xs : List ℕ) (sums : List E) → FeedTaken engine b xs sums → Feedable engine b.in_force b.fed xs sums
feedable engine b xs sums t =
    let s = sound_parts b t.ramp.whole in
    let z = sides_of b s in
    let l = t.ramp.length_is in
    record {
      some = rw l z.some;
      few = rw l z.few;
      settings = in_range_whole _ s.in_force;
      room = rw l (omega (arith, t.room, wanted_nine b s));
      readings = t.readings;
      entries = t.entries;
    }

pub wanted_left : (b : Board) (w n : ℕ) → sound b ≡ true → w ≡ of_taken_sides b (wanted b) → ltb (w - b.fed) n ≡ ltb (wanted b) (b.fed + n)
wanted_left b w n h e =
    let s = sound_parts b h in
    let f = s.fed in
    let is = rw s.sides at e in
    cases (ltb (w - b.fed) n)
    (λ t. let l = ltb-true _ _ t in rw (t, lt-ltb (wanted b) (b.fed + n) (omega arith)))
    (λ t. let l = ltb-false _ _ t in rw (t, le-ltb (wanted b) (b.fed + n) (omega arith)))

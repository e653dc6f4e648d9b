-- What the passes of Read out require holds of a taken Read out.
--     readable_frame  of its sums and its output
--     of_sound        a sound board's numbers are those of its sides
use Prim.Native.Nat.{ℕ}
use mathlib.Core.List.{List}
use mathlib.Core.Bool.{true}
use mathlib.Core.Path.{◌≡◌}
use borrow.Author.Tests.{le-leb}
use lib.ListN.{length}
use Rattle.laws.proofs.Every.{every_at, every_all}
use Rattle.laws.proofs.Tests.{true_and}
use Rattle.engines.specs.Engine.{Engine, possible_in}
use Rattle.engines.specs.SupportRange.{entry_in_range_in}
use Rattle.engines.proofs.Laws.{possible_in_range_in}
use Rattle.layout.specs.SupportRequires.{Readable}
use Rattle.board.specs.declared.Board.{Board}
use Rattle.board.specs.Board.{of_taken_sides, sound}
use Rattle.board.proofs.Soundness.{sound_parts, sides_of}
use Rattle.operations.proofs.ReadOutChecked.{ReadOutTaken}

pub readable_frame : {E : Type 0} (engine : Engine E) (b : Board) (sums : List E) (output : List ℕ) → ReadOutTaken engine b sums (length output)
    → Readable engine b.sides.width b.sides.height b.sides.binned b.in_force.truncation sums output
readable_frame engine b sums output t =
    let s = sound_parts b t.ramp.whole in
    let z = sides_of b s in
    record {
      pixels = t.ramp.length_is;
      room = t.room;
      even = λ e. (z.width.even e, z.height.even e);
      truncation = true_and (le-leb _ _ s.in_force.truncation_low) (le-leb _ _ s.in_force.truncation_high);
      entries = every_all (entry_in_range_in engine) sums engine.absent (λ i h. possible_in_range_in engine b.in_force _ _ s.in_force.samples_high (every_at (possible_in engine b.in_force b.in_force.samples) sums t.entries engine.absent i h));
    }

pub of_sound : (b : Board) (n : ℕ) → sound b ≡ true → of_taken_sides b n ≡ n
of_sound b n h = rw (sound_parts b h).sides

-- What the checks of a taken Read out have shown, and back.
use Prim.Native.Nat.{ℕ, ◌≤◌}
use mathlib.Core.Bool.{true}
use mathlib.Core.List.{List}
use mathlib.Core.Path.{◌≡◌}
use borrow.Author.Tests.{ltb-false, le-ltb, eqb-true, eq-eqb, not-false}
use lib.ListN.{length}
use Rattle.laws.specs.Lists.{every}
use Rattle.std.specs.Prelude.{Ok}
use Rattle.checks.specs.Checks.{verdict}
use Rattle.checks.proofs.Laws.{verdict_append, when_taken, found_taken}
use Rattle.checks.proofs.Search.{found_every, none_every}
use Rattle.engines.specs.Engine.{Engine, possible_in}
use Rattle.encoding.specs.Frame.{word_count}
use Rattle.board.specs.declared.Board.{Board}
use Rattle.board.specs.Board.{board_area, wanted}
use Rattle.board.specs.RampChecks.{ramp_checks}
use Rattle.board.proofs.Checked.{RampTaken, ramp_taken, ramp_passes, all_taken}
use Rattle.operations.specs.ReadOut.{read_out_checks_in}

pub record ReadOutTaken {E : Type 0} (engine : Engine E) (b : Board) (sums : List E) (outputLength : ℕ) : Type 0 where
  pub ramp : RampTaken b (length sums)
  pub full : wanted b ≤ b.fed
  pub room : outputLength ≡ word_count b.sides.binned (board_area b)
  pub entries : every (possible_in engine b.in_force b.in_force.samples) sums ≡ true

pub read_out_taken : {E : Type 0} (engine : Engine E) (b : Board) (sums : List E) (output : List ℕ) → verdict (read_out_checks_in engine b sums output) ≡ Ok tt
    → ReadOutTaken engine b sums (length output)
read_out_taken engine b sums output e =
    let t = all_taken (ramp_checks b (length sums)) _ _ _ e in
    record {
      ramp = ramp_taken b (length sums) t.0;
      full = ltb-false _ _ (when_taken _ _ t.1);
      room = eqb-true _ _ (not-false _ (when_taken _ _ t.2));
      entries = none_every (possible_in engine b.in_force b.in_force.samples) sums engine.absent (found_taken _ _ t.3);
    }

pub read_out_passes : {E : Type 0} (engine : Engine E) (b : Board) (sums : List E) (output : List ℕ) → ReadOutTaken engine b sums (length output)
    → verdict (read_out_checks_in engine b sums output) ≡ Ok tt
unfolding verdict
read_out_passes engine b sums output t =
    rw (verdict_append (ramp_checks b (length sums)), ramp_passes b (length sums) t.ramp, le-ltb _ _ t.full, eq-eqb _ _ t.room, found_every (possible_in engine b.in_force b.in_force.samples) sums engine.absent t.entries)

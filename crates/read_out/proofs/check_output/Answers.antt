-- `read_out::check_output` meets its contract.
use Rattle.board.proofs.Soundness.{sound_parts}
use Rattle.read_out.proofs.check_output.Goals as goal

pub first_impossible-impossible-requires : goal.first_impossible-impossible-requires
first_impossible-impossible-requires g c = let r = (sound_parts _ c.requires).in_force in rw c.into.ensures (r.samples_low, r.samples_high)

-- `read_out::read_out` meets its contract.
use Rattle.std.proofs.Common.{sym}
use Rattle.operations.proofs.ReadOutChecked.{read_out_taken}
use Rattle.read_out.proofs.Readable.{readable_frame}
use Rattle.read_out.proofs.read_out.Goals as goal

pub write_frame-requires : goal.write_frame-requires
write_frame-requires g c =
    let a = c.args in
    readable_frame g.E.Entry.engine a.board.now a.sums.now a.words.now (read_out_taken g.E.Entry.engine a.board.now a.sums.now a.words.now (sym c.in_ok-check_read_out.ensures))

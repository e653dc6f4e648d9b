use Rattle.std.proofs.Common.{rules}
use Rattle.lent_board.proofs.Kept.{none_gives_99}
use Rattle.lent_board.proofs.covered.Goals as goal

pub returns-in_err-check_held : goal.returns-in_err-check_held
returns-in_err-check_held c =
    let none = none_gives_99 _ _ _ c.check_held.ensures c.in_err-check_held.was in
    rw none.1.covered (search (rules, none.0))

use borrow.Author.Tests.{eq-eqb}
use Rattle.float_step.proofs.Steps.{pedestal_is}
use Rattle.float_step.proofs.pedestal_or_stored.Goals as goal

pub returns-then-n-eq1 : goal.returns-then-n-eq1
returns-then-n-eq1 c = rw (eq-eqb c.args.n 1 c.if-n-eq1.true) pedestal_is

-- Demand 3's last sentence: Covered says "covered" exactly where no readings break the ceiling.
use Rattle.sums.proofs.Laws.{laws}
use Rattle.operations.proofs.Says.{covered_is}
use Rattle.history.specs.Demands.{CoveredExactly}

pub covered_exactly : CoveredExactly
covered_exactly b s =
    let c = covered_is b s in
    let l = laws.covered_is b.in_force in
    ((λ e. l.0 (c.0 e)), λ h. c.1 (l.1 h))

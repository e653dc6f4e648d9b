-- The laws between a whole frame, a board in lent memory and a list of calls.
use Rattle.agreement.specs.Laws.{AgreementLaws}
use Rattle.agreement.proofs.Calls.{words_are, frame_claim}

pub laws : AgreementLaws
laws = record {
  in_a_list = λ w h binned bytes xs sums output t. (words_are w h binned bytes xs sums output t, frame_claim w h binned bytes xs sums output t);
}

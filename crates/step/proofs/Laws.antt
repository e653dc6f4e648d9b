-- The laws of a step.
use borrow.Author.Tests.{leb-true, le-ltb}
use Rattle.settings.specs.Settings.{max_threshold}
use Rattle.readings.specs.Readings.{max_reading}
use Rattle.settings.proofs.Parts.{in_range_parts}
use Rattle.step.specs.Laws.{StepLaws}
use Rattle.step.proofs.Steps.{possible_step}

pub laws : StepLaws
laws = record {
  largest_marks_nothing = λ s e n x ok. rw e (le-ltb max_threshold x (leb-true x max_reading ok));
  stays_possible = λ s r. possible_step s (in_range_parts s r);
}

use mathlib.Core.Path.{◌∙◌}
use borrow.Author.Tests.{le-leb}
use mir.Syntax.{w32}
use Rattle.laws.proofs.Ints.{back}
use Rattle.settings.specs.Settings.{max_threshold}
use Rattle.settings.proofs.Parts.{in_range_parts}
use Rattle.step.specs.Step.{step}
use Rattle.step.proofs.Steps.{weight_in_range_lem}
use Rattle.ramp.proofs.feed_sample.Goals as goal

pub feed_part-requires-clause-sample_value : goal.feed_part-requires-clause-sample_value
feed_part-requires-clause-sample_value g c =
    let s = c.args.settings.now in
    let r = in_range_parts s c.requires.settings_value in record {
      number = c.requires.le_n;
      weight = rw (back w32 c.weight.result c.weight.type_inv ∙ c.weight.ensures) (weight_in_range_lem s r c.args.n);
      threshold = le-leb s.threshold max_threshold r.threshold;
    }

pub returns : goal.returns
unfolding step
returns g c = rw (back w32 c.weight.result c.weight.type_inv ∙ c.weight.ensures) at c.feed_part.ensures

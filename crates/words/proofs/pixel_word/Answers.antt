-- `words::pixel_word` meets its contract.
use Rattle.std.proofs.Common.{◌∙◌}
use mir.Facts.{to_z-of_z}
use Rattle.words.proofs.Entries.{apart, sample_range}
use Rattle.words.proofs.Words.{pixel}
use Rattle.words.proofs.pixel_word.Goals as goal

pub overflow_sub-entry : goal.overflow_sub-entry
overflow_sub-entry c = simp (to_z-of_z, c.ranges.entry) (apart _ c.requires.value)

pub mark_or_cut-requires-clause-pos_bound : goal.mark_or_cut-requires-clause-pos_bound
mark_or_cut-requires-clause-pos_bound c = simp (to_z-of_z, c.ranges.entry, apart _ c.requires.value) (sample_range c.args.entry c.requires.value)

pub returns : goal.returns
returns c = simp (to_z-of_z, c.ranges.entry, apart _ c.requires.value, c.cut_off.ensures) at c.mark_or_cut.ensures ∙ pixel _ _

-- The table of known jobs, row by row, by computation.
use mathlib.Core.Path.{refl}
use Rattle.laws.specs.Lists.{each, every, any_of, total}
use Rattle.laws.proofs.Tables.{◌then◌}
use Rattle.checks.specs.Search.{first_place}
use Rattle.checks.specs.Checks.{verdict}
use Rattle.settings.specs.Settings.{in_range}
use Rattle.record.specs.Record.{bit_set, field_of, offset_of, weight_of}
use Rattle.update.specs.Update as Update
use Rattle.fields.specs.Fields.{with_bits}
use Rattle.entries.specs.Mark.{sample_of}
use Rattle.entries.specs.Possible.{possible_after}
use Rattle.step.specs.Step.{step}
use Rattle.sums.specs.Feed.{feed_one, feed_all}
use Rattle.encoding.specs.Word.{smallest_mark, is_negative}
use Rattle.encoding.specs.Frame.{pixels_of, word_in, frame_in}
use Rattle.sides.specs.Sides.{sides_taken}
use Rattle.board.specs.Board.{sound}
use Rattle.board.specs.Open.{open_of}
use Rattle.operations.specs.Update.{update_of}
use Rattle.operations.specs.Ramp.{start_of}
use Rattle.operations.specs.Feed.{feed_in, fed_sums_in}
use Rattle.operations.specs.ReadOut.{read_out_in, read_out_words_in}
use Rattle.whole_frame.specs.Chain.{frame_answer, frame_words}
use Rattle.jig_numbers.specs.LittleEndian.{u16_le_all}
use Rattle.jig_job.specs.Job.{job_answer, job_words}
use Rattle.jig_job.specs.Known.{two_pixels, four_squares, record_missing, odd_byte, reading_too_large, AllKnown}

pub known : AllKnown
unfolding two_pixels four_squares record_missing odd_byte reading_too_large job_words frame_words job_answer verdict sides_taken frame_answer open_of update_of start_of feed_in fed_sums_in read_out_in read_out_words_in sound in_range every any_of bit_set field_of offset_of weight_of Update.apply_record with_bits each first_place possible_after feed_all feed_one step u16_le_all frame_in pixels_of word_in smallest_mark sample_of is_negative total
known =
    (refl, refl, refl, refl)
    then (refl, refl, refl, refl)
    then refl then refl
    then refl
    then tt

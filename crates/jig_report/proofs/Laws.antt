-- The laws of the text of a job.
use Prim.Native.Nat.{ℕ}
use mathlib.Core.List.{List, [], ◌∷◌, ◌++◌}
use mathlib.Core.Path.{◌≡◌, refl, sym, ap, ◌∙◌}
use native.Mathlib.Omega.{arith}
use lib.ListN.{length, take}
use Rattle.laws.specs.Lists.{each, every, any_of, total}
use Rattle.std.specs.Prelude.{Ok}
use Rattle.checks.specs.Search.{first_place}
use Rattle.checks.specs.Checks.{verdict}
use Rattle.settings.specs.Settings.{in_range}
use Rattle.record.specs.Record.{bit_set, field_of, offset_of, weight_of}
use Rattle.update.specs.Update as Update
use Rattle.fields.specs.Fields.{with_bits}
use Rattle.entries.specs.Mark.{sample_of}
use Rattle.entries.specs.Possible.{possible_after}
use Rattle.step.specs.Step.{step}
use Rattle.sums.specs.Feed.{feed_one, feed_all}
use Rattle.encoding.specs.Word.{smallest_mark, is_negative}
use Rattle.encoding.specs.Frame.{pixels_of, word_in, frame_in}
use Rattle.board.specs.Board.{sides_taken, sound}
use Rattle.board.specs.Open.{open_of}
use Rattle.operations.specs.Update.{update_of}
use Rattle.operations.specs.Ramp.{start_of}
use Rattle.operations.specs.Feed.{feed_in, fed_sums_in}
use Rattle.operations.specs.ReadOut.{read_out_in, read_out_words_in}
use Rattle.whole_frame.specs.Chain.{frame_answer, frame_words}
use Rattle.jig_numbers.specs.LittleEndian.{u16_le_all}
use Rattle.jig_text.specs.Text.{digit_count, decimal}
use Rattle.jig_text.proofs.Laws as TextLaws
use Rattle.jig_lines.specs.Lines.{line_text, lines_text}
use Rattle.jig_job.specs.Kept.{capacity}
use Rattle.jig_job.specs.Job.{job_answer, job_words, truncation_of}
use Rattle.jig_job.proofs.Laws as Jobs
use Rattle.jig_report.specs.Text.{header, text_of}
use Rattle.jig_report.specs.Laws.{example, first_line, second_line, ReportLaws}
use Rattle.jig_report.proofs.Jobs.{result_text, text_is}

prefix : (bytes : List ℕ) → text_of (take capacity bytes) (length bytes) ≡ text_of bytes (length bytes)
prefix bytes = sym (text_is (take capacity bytes) (length bytes)) ∙ ap result_text ((Jobs.laws).prefix bytes) ∙ text_is bytes (length bytes)

taken : job_answer example (length example) ≡ Ok tt
unfolding example job_answer verdict sides_taken frame_answer open_of update_of start_of feed_in fed_sums_in read_out_in sound in_range every any_of bit_set field_of offset_of weight_of Update.apply_record with_bits each first_place possible_after feed_all feed_one step u16_le_all
taken = refl

words : job_words example (length example) ≡ 32 ∷ 4127 ∷ []
unfolding example job_words frame_words job_answer verdict sides_taken frame_answer open_of update_of start_of feed_in fed_sums_in read_out_in read_out_words_in sound in_range every any_of bit_set field_of offset_of weight_of Update.apply_record with_bits each first_place possible_after feed_all feed_one step u16_le_all frame_in pixels_of word_in smallest_mark sample_of is_negative total
words = refl

truncation : truncation_of example ≡ 2
unfolding example verdict sides_taken open_of update_of start_of sound in_range every any_of bit_set field_of offset_of weight_of Update.apply_record with_bits each
truncation = refl

first_line_lem : line_text 0 0 2 32 ≡ first_line
unfolding decimal digit_count
first_line_lem = rw ((TextLaws.laws).ordinary_text 2 32 refl (omega arith))

second_line_lem : line_text 0 1 2 4127 ≡ second_line
unfolding decimal digit_count
second_line_lem = rw ((TextLaws.laws).ordinary_text 2 4127 refl (omega arith))

known_text : text_of example (length example) ≡ header ++ (first_line ++ second_line)
unfolding example lines_text text_of
known_text = rw (taken, words, truncation, first_line_lem, second_line_lem)

pub laws : ReportLaws
laws = record { prefix = prefix; known_text = known_text }

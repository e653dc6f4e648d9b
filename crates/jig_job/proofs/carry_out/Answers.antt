-- What the frame is handed are the parts of the input; so its answer and words are the job's.
use Rattle.std.proofs.Common.{◌≡◌, cond, ℕ, ◌/◌, ◌≤◌, ◌+◌, ◌-◌, ◌*◌, length, List, take, drop, min, replicate, ℤ, pos, refl, sym, ap, ◌∙◌, arith, rules}
use Rattle.std.proofs.Math.Seq.{length-take-le}
use Rattle.std.specs.Prelude.{Ok, Err}
use Rattle.sides.specs.declared.Sides.{Sides}
use Rattle.board.specs.declared.Board.{Board}
use Rattle.encoding.specs.Frame.{word_count}
use Rattle.begin.specs.Begin.{started, begin_of}
use Rattle.begin.proofs.Beginning.{started_unfed, sides_named, of_named}
use Rattle.whole_frame.specs.Chain.{frame_words}
use Rattle.whole_frame.proofs.Whole.{answer_on, words_on}
use Rattle.jig_numbers.specs.LittleEndian.{u16_le_all}
use Rattle.arrayvec.proofs.ArrayVecLemmas.{items-with_items}
use Rattle.jig_input.specs.Input.{width_of, height_of, is_binned, record_of, readings_at, max_pixels, max_readings}
use Rattle.jig_input.specs.Checks.{job_area}
use Rattle.jig_input.proofs.Checking.{few_pixels}
use Rattle.jig_job.specs.Job.{job_answer, padded, result_of}
use Rattle.jig_job.proofs.Parts.{record_part, readings_part}
use Rattle.jig_job.proofs.Jobs.{Handed, handed, few_words, zeros, job_answer_is, turned_down, input_taken, begun_from, refused_from, carried}
use Rattle.jig_job.proofs.carry_out.Goals.{After-begin_on, After-frame_on}
use Rattle.jig_job.proofs.carry_out.Goals as goal

-- the buffers
abbrev no_readings : List ℕ
no_readings = replicate max_readings 0

abbrev no_sums : List ℤ
no_sums = replicate max_pixels (pos 0)

abbrev no_words : List ℕ
no_words = replicate max_pixels 0

hands : (bytes : List ℕ) (start fed area count : ℕ) (lent decoded readings : List ℕ) (sums : List ℤ) (words : List ℕ)
    → start ≡ min (readings_at bytes) (length bytes)
    → fed ≡ min ((length bytes - start) / 2) max_readings
    → area ≡ job_area bytes
    → count ≡ word_count (is_binned bytes) (job_area bytes)
    → job_area bytes ≤ max_pixels
    → lent ≡ take fed no_readings
    → decoded ≡ take (length lent) (u16_le_all (take (start + 2 * fed - start) (drop start bytes)))
    → readings ≡ decoded
    → sums ≡ take area no_sums
    → words ≡ take count no_words
    → Handed bytes (width_of bytes) (height_of bytes) (is_binned bytes) (record_of bytes) readings sums words
hands bytes start fed area count lent decoded readings sums words start_is fed_is area_is count_is few lent_is decoded_is readings_are sums_are words_are =
    let long : length lent ≡ fed = ap length lent_is ∙ length-take-le fed no_readings (omega arith) in
    record {
      width = refl;
      height = refl;
      flag_is = refl;
      part_is = refl;
      readings_are =
          readings_are
          ∙ decoded_is
          ∙ ap (λ (n : ℕ). take n (u16_le_all (take (start + 2 * fed - start) (drop start bytes)))) long
          ∙ readings_part bytes start fed start_is fed_is;
      sums_are = sums_are ∙ rw area_is (zeros (pos 0) (job_area bytes) max_pixels few);
      words_are = words_are ∙ rw count_is (zeros 0 (word_count (is_binned bytes) (job_area bytes)) max_pixels (few_words (is_binned bytes) (job_area bytes) few));
    }

-- the record
part_is : (c : After-begin_on) → take (c.min-start.result - c.min-from.result) (drop c.min-from.result c.args.input.kept.now) ≡ record_of c.args.input.kept.now
part_is c = record_part c.args.input.kept.now c.min-from.result c.min-start.result (omega (arith, c.min-from.ensures)) (omega (arith, c.min-start.ensures, c.readings_at.ensures))

pub returns-in_err-board : goal.returns-in_err-board
returns-in_err-board c =
    let refused : result_of c.args.input.kept.now c.args.input.total ≡ Err c.in_err-board.field-0.0 =
    refused_from c.args.input.kept.now c.args.input.total _ c.requires _ (part_is (goal.at.returns-in_err-board c).After-begin_on) _ (sym c.in_err-board.was ∙ c.begin_on.ensures) in
    rw refused (search rules)

-- what Open, Update and Start left
begun : (c : After-frame_on) → ((begin_of (width_of c.args.input.kept.now) (height_of c.args.input.kept.now) (is_binned c.args.input.kept.now) (record_of c.args.input.kept.now)).answer ≡ Ok tt)
    × ((started (width_of c.args.input.kept.now) (height_of c.args.input.kept.now) (is_binned c.args.input.kept.now) (record_of c.args.input.kept.now)).board ≡ c.in_ok-board.board)
begun c =
    begun_from c.args.input.kept.now c.args.input.total _ c.requires _
    (record_part c.args.input.kept.now c.min-from.result c.min-start.result (omega (arith, c.min-from.ensures)) (omega (arith, c.min-start.ensures, c.readings_at.ensures)))
    _ (sym c.in_ok-board.was ∙ c.begin_on.ensures)

pub frame_on-requires : goal.frame_on-requires
frame_on-requires c =
    let bytes = c.args.input.kept.now in
    let b =
    begun_from bytes c.args.input.total _ c.requires _
    (record_part c.args.input.kept.now c.min-from.result c.min-start.result (omega (arith, c.min-from.ensures)) (omega (arith, c.min-start.ensures, c.readings_at.ensures)))
    _ (sym c.in_ok-board.was ∙ c.begin_on.ensures) in
    rw (← b.1) (started_unfed (width_of bytes) (height_of bytes) (is_binned bytes) (record_of bytes))

-- what the frame was handed
parts : (c : After-frame_on) → Handed c.args.input.kept.now (width_of c.args.input.kept.now) (height_of c.args.input.kept.now) (is_binned c.args.input.kept.now)
    (record_of c.args.input.kept.now)
    c.deref.result.now
    c.as_mut_slice-2.result.now
    c.as_mut_slice-3.result.now
parts c =
    let bytes = c.args.input.kept.now in
    let start_is : c.min-start.result ≡ min (readings_at bytes) (length bytes) = omega (arith, c.min-start.ensures, c.readings_at.ensures) in
    let fed_is : c.min-fed.result ≡ min ((length bytes - c.min-start.result) / 2) max_readings = omega (arith, c.min-fed.ensures) in
    let area_is = c.area.ensures ∙ of_named (width_of bytes) (height_of bytes) (is_binned bytes) (record_of bytes) _ (begun c) (λ (s : Sides). s.width * s.height) in
    let count_is = c.word_count.ensures ∙ of_named (width_of bytes) (height_of bytes) (is_binned bytes) (record_of bytes) _ (begun c) (λ (s : Sides). word_count s.binned (s.width * s.height)) in
    let few = few_pixels bytes c.args.input.total (input_taken bytes c.args.input.total _ c.requires).0 in
    let lent_is = c.as_mut_slice.ensures.value ∙ c.truncate.ensures.items ∙ ap (take c.min-fed.result) c.from-readings.ensures.0 in
    let readings_are = c.deref.ensures.0 ∙ items-with_items c.truncate.new.self c.decode_readings.new.readings (c.decode_readings.auto.readings ∙ ap length c.as_mut_slice.ensures.value) in
    let sums_are = c.as_mut_slice-2.ensures.value ∙ c.truncate-2.ensures.items ∙ ap (take c.area.result) c.from-sums.ensures.0 in
    let words_are = c.as_mut_slice-3.ensures.value ∙ c.truncate-3.ensures.items ∙ ap (take c.word_count.result) c.from-words.ensures.0 in
    hands bytes c.min-start.result c.min-fed.result c.area.result c.word_count.result _ c.decode_readings.new.readings _ _ _
    start_is fed_is area_is count_is few lent_is c.decode_readings.ensures readings_are sums_are words_are

-- what it answered is the job's answer
answered : (c : After-frame_on) → c.frame_on.result ≡ job_answer c.args.input.kept.now c.args.input.total
answered c =
    let bytes = c.args.input.kept.now in
    job_answer_is bytes c.args.input.total _ (parts c) (input_taken bytes c.args.input.total _ c.requires).0
    (c.frame_on.ensures.answer ∙ answer_on (width_of bytes) (height_of bytes) (is_binned bytes) (record_of bytes) _ (begun c) _ _ _)

pub returns-in_err-frame_on : goal.returns-in_err-frame_on
returns-in_err-frame_on c =
    let refused : result_of c.args.input.kept.now c.args.input.total ≡ Err c.in_err-frame_on.field-0.0 = turned_down _ _ _ (sym (answered (goal.at.returns-in_err-frame_on c).After-frame_on) ∙ c.in_err-frame_on.was) in
    rw refused (search rules)

pub returns : goal.returns
returns c =
    let bytes = c.args.input.kept.now in
    let after = (goal.at.returns c).After-frame_on in
    let words_are =
    items-with_items c.truncate-3.new.self c.frame_on.new.words (c.frame_on.auto.words ∙ ap length c.as_mut_slice-3.ensures.value)
    ∙ (c.frame_on.ensures.words ∙ words_on (width_of bytes) (height_of bytes) (is_binned bytes) (record_of bytes) _ (begun after) _ _ _ ∙ handed frame_words (parts after)) in
    carried bytes c.args.input.total _
    (sym (answered after) ∙ c.in_ok-frame_on.was)
    (c.len.ensures.value ∙ ap length words_are)
    (c.padded.ensures ∙ ap padded (c.as_slice.ensures.value ∙ words_are))
    (c.columns.ensures ∙ ap (λ (s : Sides). cond s.binned (s.width / 2) s.width) (sides_named (width_of bytes) (height_of bytes) (is_binned bytes) (record_of bytes) _ (begun after)))
    (sym (ap (λ (b : Board). b.in_force.truncation) (begun after).1))

-- What comes of a job's checks.
--     Handed, handed     what the chain of the frame is handed
--     few_words, zeros   of the buffers
--     answer_is, words_are         what comes of a job, from the first of its readings
--     job_answer_is                the frame's answer is the job's
--     overlong_is, overlong_refused     and where its record is too long
--     turned_down, input_refused, input_taken, begun_from, refused_from, carried     the result of a refused job, and of a taken one
use Prim.Native.Nat.{ℕ, zero, suc, ◌*◌, ◌≤◌, ◌<◌}
use mathlib.Core.Bool.{Bool, true, false}
use mathlib.Core.List.{List, [], ◌∷◌, ◌++◌}
use mathlib.Core.Path.{◌≡◌, refl, sym, ap, ◌∙◌}
use native.Mathlib.Omega.{arith}
use lib.IntN.{ℤ, pos}
use lib.ListN.{length, take, replicate}
use Rattle.checks.specs.declared.Reason.TheVariants.{RecordLength}
use Rattle.checks.specs.declared.Refusal.{Refusal}
use Rattle.std.specs.Prelude.{Ok, Err}
use Rattle.checks.specs.Checks.{Answer, refusal, first, verdict, by_answer, or_refused}
use Rattle.checks.proofs.Laws.{first_taken, verdict_append}
use Rattle.record.specs.Record.{map_of}
use Rattle.update.proofs.Overlong.{longest}
use Rattle.encoding.specs.Frame.{word_count}
use Rattle.board.specs.declared.Board.{Board}
use Rattle.board.specs.Open.{open_of}
use Rattle.begin.specs.Begin.{started, begin_on, begin_of}
use Rattle.begin.proofs.Beginning.{begun_then, ok_parts, err_part, begun_on}
use Rattle.whole_frame.specs.Chain.{frame_answer, frame_words}
use Rattle.whole_frame.proofs.Enough.{refused_last, overlong_checks, overlong_answer_lem, enough_answer, enough_words}
use Rattle.jig_input.specs.Input.{width_of, height_of, is_binned, record_of, readings_of, max_pixels, max_readings}
use Rattle.jig_input.specs.Checks.{job_area, input_checks, opened_by}
use Rattle.jig_input.proofs.Checking.{open_taken, few_pixels}
use Rattle.jig_job.specs.declared.Job.{Job}
use Rattle.jig_job.specs.Job.{zero_sums, zero_words, job_answer, job_words, columns_of, truncation_of, padded, result_of}

-- the frame of an input with other readings
abbrev pub answer_of : List ℕ → List ℕ → Answer
answer_of bytes readings = frame_answer (width_of bytes) (height_of bytes) (is_binned bytes) (record_of bytes) readings (zero_sums bytes) (zero_words bytes)

abbrev pub words_of : List ℕ → List ℕ → List ℕ
words_of bytes readings = frame_words (width_of bytes) (height_of bytes) (is_binned bytes) (record_of bytes) readings (zero_sums bytes) (zero_words bytes)

-- the frame's answer to a record that is too long
abbrev overlong_answer : ℕ → ℕ → Bool → ℕ → Answer
overlong_answer w h binned map = verdict (overlong_checks w h binned map ++ Err (refusal RecordLength) ∷ [])

-- as many readings as matter
abbrev pub first_readings : List ℕ → List ℕ
first_readings bytes = take max_readings (readings_of bytes)

-- what the chain of an input's frame is handed: its parts, of its readings only the first, and zeros
pub record Handed (bytes : List ℕ) (w h : ℕ) (binned : Bool) (part readings : List ℕ) (sums : List ℤ) (words : List ℕ) : Type 0 where
  pub width : w ≡ width_of bytes
  pub height : h ≡ height_of bytes
  pub flag_is : binned ≡ is_binned bytes
  pub part_is : part ≡ record_of bytes
  pub readings_are : readings ≡ first_readings bytes
  pub sums_are : sums ≡ replicate (w * h) (pos 0)
  pub words_are : words ≡ replicate (word_count binned (w * h)) 0

pub handed : {A : Type 0} {bytes : List ℕ} {w h : ℕ} {binned : Bool} {part readings : List ℕ} {sums : List ℤ} {words : List ℕ}
    → (f : ℕ → ℕ → Bool → List ℕ → List ℕ → List ℤ → List ℕ → A) → Handed bytes w h binned part readings sums words
    → f w h binned part readings sums words
    ≡ f (width_of bytes) (height_of bytes) (is_binned bytes) (record_of bytes) (first_readings bytes) (zero_sums bytes) (zero_words bytes)
handed f e = rw (e.part_is, e.readings_are, e.sums_are, e.words_are, e.width, e.height, e.flag_is)

pub few_words : (binned : Bool) (m : ℕ) → m ≤ max_pixels → word_count binned m ≤ max_pixels
few_words false m h = h
few_words true m h = omega arith

pub zeros : {A : Type 0} (z : A) (n k : ℕ) → n ≤ k → take n (replicate k z) ≡ replicate n z
zeros z zero k h = refl
zeros z (suc n) zero h = absurd (omega arith)
zeros z (suc n) (suc k) h = rw (zeros z n k (omega arith))

module _ (bytes : List ℕ) (total : ℕ) where
  -- the first readings are more than a taken input's frame wants
  many : verdict (input_checks bytes total) ≡ Ok tt → 9 * job_area bytes < max_readings
  many e = omega (arith, few_pixels bytes total e)

  chain : job_answer bytes total ≡ first (verdict (input_checks bytes total)) (answer_of bytes (readings_of bytes))
  unfolding job_answer verdict
  chain = verdict_append (input_checks bytes total) (answer_of bytes (readings_of bytes) ∷ []) ∙ rw (first_taken (answer_of bytes (readings_of bytes)))

  pub answer_is : job_answer bytes total ≡ first (verdict (input_checks bytes total)) (answer_of bytes (first_readings bytes))
  answer_is = chain ∙ by (verdict (input_checks bytes total)) refl
    where
      by : (v : Answer) → verdict (input_checks bytes total) ≡ v → first v (answer_of bytes (readings_of bytes)) ≡ first v (answer_of bytes (first_readings bytes))
      by (Ok tt) e = sym (enough_answer _ _ _ _ _ _ max_readings (many e) (readings_of bytes))
      by (Err r) e = refl

  pub words_are : job_words bytes total ≡ by_answer (job_answer bytes total) (words_of bytes (first_readings bytes)) []
  unfolding job_words
  words_are = rw chain (by (verdict (input_checks bytes total)) refl)
    where
      by : (v : Answer) → verdict (input_checks bytes total) ≡ v
          → by_answer (first v (answer_of bytes (readings_of bytes))) (words_of bytes (readings_of bytes)) []
          ≡ by_answer (first v (answer_of bytes (readings_of bytes))) (words_of bytes (first_readings bytes)) []
      by (Ok tt) e = rw (enough_words (width_of bytes) (height_of bytes) (is_binned bytes) (record_of bytes) (zero_sums bytes) (zero_words bytes) max_readings (many e) (readings_of bytes))
      by (Err r) e = refl

  -- of a job whose input is taken, what the frame answers is the job's answer
  pub job_answer_is : {w h : ℕ} {binned : Bool} {part readings : List ℕ} {sums : List ℤ} {words : List ℕ} (answer : Answer)
      → Handed bytes w h binned part readings sums words
      → verdict (input_checks bytes total) ≡ Ok tt
      → answer ≡ frame_answer w h binned part readings sums words
      → answer ≡ job_answer bytes total
  job_answer_is answer e t a = a ∙ handed frame_answer e ∙ sym (answer_is ∙ rw t)

  -- a record that is too long is refused, with any readings
  module _ (long : longest < length (record_of bytes)) where
    pub overlong_is : job_answer bytes total ≡ first (verdict (input_checks bytes total)) (overlong_answer (width_of bytes) (height_of bytes) (is_binned bytes) (map_of (record_of bytes)))
    overlong_is = chain ∙ rw (overlong_answer_lem (width_of bytes) (height_of bytes) (is_binned bytes) (record_of bytes) (zero_sums bytes) (zero_words bytes) long (readings_of bytes))

    pub overlong_refused : {A : Type 0} (new old : A) → by_answer (job_answer bytes total) new old ≡ old
    unfolding verdict
    overlong_refused new old = rw overlong_is (refused_last (verdict (input_checks bytes total) ∷ overlong_checks (width_of bytes) (height_of bytes) (is_binned bytes) (map_of (record_of bytes))) (refusal RecordLength) new old)

  pub turned_down : (r : Refusal) → job_answer bytes total ≡ Err r → result_of bytes total ≡ Err r
  unfolding result_of
  turned_down r e = rw e

  -- what the checks of the input refuse
  pub input_refused : (r : Refusal) → verdict (input_checks bytes total) ≡ Err r → result_of bytes total ≡ Err r
  input_refused r e = turned_down r (answer_is ∙ rw e)

  pub carried : (job : Job)
      → job_answer bytes total ≡ Ok tt
      → job.count ≡ length (words_of bytes (first_readings bytes))
      → job.words ≡ padded (words_of bytes (first_readings bytes))
      → job.columns ≡ columns_of bytes
      → job.truncation ≡ truncation_of bytes
      → Ok job ≡ result_of bytes total
  unfolding result_of
  carried job a n w c r =
      let v : words_of bytes (first_readings bytes) ≡ job_words bytes total = sym (words_are ∙ rw a) in
      let count : job.count ≡ length (job_words bytes total) = n ∙ ap length v in
      let words : job.words ≡ padded (job_words bytes total) = w ∙ ap padded v in
      rw (a, ← words, ← count, ← c, ← r)

  module _ (opened : Board) (o : Ok opened ≡ or_refused (opened_by bytes total).answer (opened_by bytes total).board) where
    pub input_taken : (verdict (input_checks bytes total) ≡ Ok tt) × ((open_of (width_of bytes) (height_of bytes) (is_binned bytes)).board ≡ opened)
    input_taken = ok_parts _ _ _ o

    -- with the record that it names
    module _ (part : List ℕ) (p : part ≡ record_of bytes) where
      same_begun : (begin_of (width_of bytes) (height_of bytes) (is_binned bytes) (record_of bytes)).answer ≡ (begin_on opened part).answer
      same_begun = begun_on (width_of bytes) (height_of bytes) (is_binned bytes) (record_of bytes) (open_taken bytes total input_taken.0) ∙ rw (input_taken.1, p)

      -- what Open, Update and Start leave
      pub begun_from : (board : Board) → Ok board ≡ or_refused (begin_on opened part).answer (begin_on opened part).board
          → ((begin_of (width_of bytes) (height_of bytes) (is_binned bytes) (record_of bytes)).answer ≡ Ok tt)
          × ((started (width_of bytes) (height_of bytes) (is_binned bytes) (record_of bytes)).board ≡ board)
      begun_from board e =
          let u = ok_parts (begin_on opened part).answer (begin_on opened part).board board e in
          let same : (started (width_of bytes) (height_of bytes) (is_binned bytes) (record_of bytes)).board ≡ (begin_on opened part).board = rw (input_taken.1, p) in
          (same_begun ∙ u.0, same ∙ u.1)

      -- and what they refuse
      pub refused_from : (r : Refusal) → Err r ≡ or_refused (begin_on opened part).answer (begin_on opened part).board → result_of bytes total ≡ Err r
      unfolding frame_answer
      refused_from r e =
          let a : answer_of bytes (first_readings bytes) ≡ Err r =
          begun_then (width_of bytes) (height_of bytes) (is_binned bytes) (record_of bytes) _ ∙ rw (same_begun, err_part (begin_on opened part).answer (begin_on opened part).board r e) in
          turned_down r (answer_is ∙ rw (input_taken.0, a))

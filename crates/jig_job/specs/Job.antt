-- What comes of a job.
use Rattle.std.specs.Prelude.{ℕ, ◌-◌, ◌/◌, cond, List, [], ◌∷◌, ◌++◌, ℤ, pos, replicate, length, Result}
use Rattle.checks.specs.declared.Refusal.{Refusal}
use Rattle.checks.specs.Checks.{Answer, verdict, by_answer, or_refused}
use Rattle.encoding.specs.Frame.{word_count}
use Rattle.begin.specs.Begin.{started}
use Rattle.whole_frame.specs.Chain.{frame_answer, frame_words}
use Rattle.jig_input.specs.Input.{width_of, height_of, is_binned, record_of, readings_of, max_pixels}
use Rattle.jig_input.specs.Checks.{job_area, input_checks}
use Rattle.jig_job.specs.declared.Job.{Job}

-- the buffers of a job hold zeros
abbrev pub zero_sums : List ℕ → List ℤ
zero_sums bytes = replicate (job_area bytes) (pos 0)

abbrev pub zero_words : List ℕ → List ℕ
zero_words bytes = replicate (word_count (is_binned bytes) (job_area bytes)) 0

-- the answer: the checks of the input, then the chain of the frame
unfoldable pub job_answer : List ℕ → ℕ → Answer
job_answer bytes total =
    verdict (
    input_checks bytes total
    ++ frame_answer (width_of bytes) (height_of bytes) (is_binned bytes) (record_of bytes) (readings_of bytes) (zero_sums bytes) (zero_words bytes)
    ∷ []
    )

-- the words of a taken job; none of a refused one
unfoldable pub job_words : List ℕ → ℕ → List ℕ
job_words bytes total =
    by_answer
    (job_answer bytes total)
    (frame_words (width_of bytes) (height_of bytes) (is_binned bytes) (record_of bytes) (readings_of bytes) (zero_sums bytes) (zero_words bytes))
    []

-- how many words stand in a row of the frame
abbrev pub columns_of : List ℕ → ℕ
columns_of bytes = cond (is_binned bytes) (width_of bytes / 2) (width_of bytes)

-- the r in force, by which the words are read
abbrev pub truncation_of : List ℕ → ℕ
truncation_of bytes = (started (width_of bytes) (height_of bytes) (is_binned bytes) (record_of bytes)).board.in_force.truncation

-- words in the array of a job: zeros stand behind them
abbrev pub padded : List ℕ → List ℕ
padded words = words ++ replicate (max_pixels - length words) 0

-- what a taken job gives
abbrev pub job_of : List ℕ → ℕ → Job
job_of bytes total = record { columns = columns_of bytes; truncation = truncation_of bytes; count = length (job_words bytes total); words = padded (job_words bytes total) }

-- a job's result: the words and their number, the words in a row and the r in force; or the refusal
unfoldable pub result_of : List ℕ → ℕ → Result Job Refusal
result_of bytes total = or_refused (job_answer bytes total) (job_of bytes total)

-- The text of a job, as bytes in ASCII.
use Rattle.std.specs.Prelude.{ℕ, List, [], ◌∷◌, ◌++◌, length, Ok, Err}
use Rattle.checks.specs.Checks.{Answer}
use Rattle.jig_text.specs.Text.{newline, refusal_text}
use Rattle.jig_lines.specs.Lines.{lines_text}
use Rattle.jig_job.specs.Job.{job_answer, job_words, columns_of, truncation_of}

-- `row col word meaning`, and the end of the line
abbrev pub header : List ℕ
header = 114 ∷ 111 ∷ 119 ∷ 32 ∷ 99 ∷ 111 ∷ 108 ∷ 32 ∷ 119 ∷ 111 ∷ 114 ∷ 100 ∷ 32 ∷ 109 ∷ 101 ∷ 97 ∷ 110 ∷ 105 ∷ 110 ∷ 103 ∷ 10 ∷ []

-- a taken job: the header, and a line for each word. A refused one: one line with the refusal's number
abbrev pub answer_text : Answer → ℕ → ℕ → List ℕ → List ℕ
answer_text (Ok tt) columns r words = header ++ lines_text columns r words (length words)
answer_text (Err f) columns r words = refusal_text f ++ newline

-- the whole output for an input, of which `total` is the whole length
unfoldable pub text_of : List ℕ → ℕ → List ℕ
text_of bytes total = answer_text (job_answer bytes total) (columns_of bytes) (truncation_of bytes) (job_words bytes total)

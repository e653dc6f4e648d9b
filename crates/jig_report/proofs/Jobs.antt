-- What a job's result says of its text.
use Prim.Native.Nat.{ℕ, ◌/◌, ◌<◌}
use mathlib.Core.Bool.{Bool, true, false, cond}
use mathlib.Core.List.{List, ◌∷◌, ◌++◌}
use mathlib.Core.Path.{◌≡◌, refl, sym, ◌∙◌}
use borrow.Author.Tests.{not-false}
use native.Mathlib.Omega.{arith}
use lib.ListN.{length, take}
use Rattle.std.specs.Prelude.{Result, Ok, Err}
use Rattle.std.proofs.Math.Seq.{take-append_seam}
use Rattle.checks.specs.declared.Reason.TheVariants.{BadSides}
use Rattle.checks.specs.declared.Refusal.{Refusal}
use Rattle.checks.specs.Checks.{Answer, verdict, or_refused}
use Rattle.checks.proofs.Laws.{verdict_append, both_taken, when_taken}
use Rattle.board.proofs.Soundness.{Sides, sides_parts}
use Rattle.jig_job.specs.declared.Job.{Job}
use Rattle.jig_input.specs.Input.{width_of, height_of, is_binned}
use Rattle.jig_input.specs.Checks.{input_checks}
use Rattle.jig_input.proofs.Checking.{sides_pass}
use Rattle.jig_job.specs.Job.{job_answer, job_words, columns_of, truncation_of, padded, job_of, result_of}
use Rattle.jig_text.specs.Text.{newline, refusal_text}
use Rattle.jig_lines.specs.Lines.{lines_text}
use Rattle.jig_report.specs.Text.{header, answer_text, text_of}

-- a row of a board that Open takes has some words
some_columns : (binned : Bool) (w h : ℕ) → Sides w h binned → 0 < cond binned (w / 2) w
some_columns false w h s = s.width.low
some_columns true w h s = omega (arith, s.width.low, s.width.even refl)

-- the words of a job stand in front of its array
in_front : (words : List ℕ) → take (length words) (padded words) ≡ words
in_front words = take-append_seam words _

-- the text of a result
abbrev pub result_text : Result Job Refusal → List ℕ
result_text (Ok job) = header ++ lines_text job.columns job.truncation (take job.count job.words) (length (take job.count job.words))
result_text (Err r) = refusal_text r ++ newline

module _ (bytes : List ℕ) (total : ℕ) where
  input_taken : job_answer bytes total ≡ Ok tt → verdict (input_checks bytes total) ≡ Ok tt
  unfolding job_answer
  input_taken e = (both_taken _ _ (sym (verdict_append (input_checks bytes total) _) ∙ e)).0

  columns_some : job_answer bytes total ≡ Ok tt → 0 < columns_of bytes
  columns_some e = some_columns (is_binned bytes) (width_of bytes) (height_of bytes) (sides_parts _ _ _ (not-false _ (when_taken _ BadSides (sides_pass bytes total (input_taken e)))))

  -- the text of a result is that of the input
  pub text_is : result_text (result_of bytes total) ≡ text_of bytes total
  unfolding text_of result_of
  text_is = by (job_answer bytes total)
    where
      by : (a : Answer) → result_text (or_refused a (job_of bytes total)) ≡ answer_text a (columns_of bytes) (truncation_of bytes) (job_words bytes total)
      by (Ok tt) = rw (in_front (job_words bytes total))
      by (Err f) = refl

  -- a row of a taken job has some words
  pub some_words : (job : Job) → result_of bytes total ≡ Ok job → 0 < job.columns
  unfolding result_of
  some_words job = by (job_answer bytes total) refl
    where
      by : (a : Answer) → job_answer bytes total ≡ a → ◌≡◌ {A = Result Job Refusal} (or_refused a (job_of bytes total)) (Ok job) → 0 < job.columns
      by (Ok tt) t e = let same : job_of bytes total ≡ job = cc in rw (← same) (columns_some t)
      by (Err f) t e = absurd cc

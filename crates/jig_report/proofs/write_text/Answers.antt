-- The header and the lines, or the refusal; and a line for each of 1,024 words fits.
use Rattle.std.proofs.Common.{◌≡◌, List, ℕ, ◌++◌, length, take, sym, ap, ◌∙◌, arith}
use Rattle.std.specs.Prelude.{Ok, Err}
use Rattle.jig_text.specs.Text.{newline, refusal_text}
use Rattle.jig_lines.specs.Lines.{lines_text}
use Rattle.jig_job.specs.Job.{result_of}
use Rattle.jig_report.specs.Text.{header}
use Rattle.jig_report.proofs.Jobs.{result_text, text_is, some_words}
use Rattle.jig_report.proofs.write_text.Goals as goal

pub put_lines-requires : goal.put_lines-requires
put_lines-requires c =
    let e : result_of c.args.input.kept.now c.args.input.total ≡ Ok c.in-Ok.job = sym c.result_of.ensures ∙ c.in-Ok.is in
    let put_is : c.put.new.out.items ≡ header = c.put.ensures ∙ ap (λ (l : List ℕ). l ++ header) c.clear.ensures in
    (omega arith, (some_words _ _ _ e, omega (arith, ap length put_is, c.frame.ensures.few)))

pub returns-in-Ok : goal.returns-in-Ok
returns-in-Ok c =
    let job = c.in-Ok.job in
    let e : result_of c.args.input.kept.now c.args.input.total ≡ Ok job = sym c.result_of.ensures ∙ c.in-Ok.is in
    let put_is : c.put.new.out.items ≡ header = c.put.ensures ∙ ap (λ (l : List ℕ). l ++ header) c.clear.ensures in
    let text = rw c.frame.ensures.words at c.put_lines.ensures.text in
    text
    ∙ ap (λ (l : List ℕ). l ++ lines_text job.columns job.truncation (take job.count job.words) (length (take job.count job.words))) put_is
    ∙ ap result_text (sym e)
    ∙ text_is c.args.input.kept.now c.args.input.total

pub returns-in-Err : goal.returns-in-Err
returns-in-Err c =
    let r = c.in-Err.refusal in
    let e : result_of c.args.input.kept.now c.args.input.total ≡ Err r = sym c.result_of.ensures ∙ c.in-Err.is in
    c.put-in-Err.ensures
    ∙ ap (λ (l : List ℕ). l ++ newline) (c.put_refusal.ensures.text ∙ ap (λ (l : List ℕ). l ++ refusal_text r) c.clear.ensures)
    ∙ ap result_text (sym e)
    ∙ text_is c.args.input.kept.now c.args.input.total

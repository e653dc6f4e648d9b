-- The words stand in front, and the zeros that no word took behind them.
use Rattle.std.proofs.Common.{ℕ, ◌≡◌, ◌++◌, length, drop, replicate}
use Rattle.std.proofs.lemmas.List.{drop-replicate}
use Rattle.jig_input.specs.Input.{max_pixels}
use Rattle.jig_job.specs.Job.{padded}
use Rattle.jig_job.proofs.padded.Goals as goal

pub returns : goal.returns
returns c =
    let words = c.args.words.now in
    let filled : c.copy_from_slice.new.self ++ drop (length words) (replicate max_pixels 0) ≡ padded words =
    rw (c.copy_from_slice.ensures.after, drop-replicate {X = ℕ} (length words) max_pixels 0) in
    filled

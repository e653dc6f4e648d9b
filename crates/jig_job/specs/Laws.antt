-- What must be true of jobs, beside the contract. `proofs/Laws.antt` shows it.
use Rattle.std.specs.Prelude.{ℕ, List, ◌≡◌, length, take}
use Rattle.jig_job.specs.Kept.{capacity}
use Rattle.jig_job.specs.Job.{result_of}

pub record JobLaws : Type 0 where
  -- what comes of the first bytes of an input and its whole length comes of the input, however long it is
  pub prefix : (bytes : List ℕ) → result_of (take capacity bytes) (length bytes) ≡ result_of bytes (length bytes)

-- Known refusals and limits. `proofs/Known.antt` shows them.
use Rattle.std.specs.Prelude.{ℕ, ◌≡◌, Ok, Err}
use Rattle.checks.specs.declared.Reason.TheVariants.{TruncationRange}
use Rattle.checks.specs.Checks.{refusal}
use Rattle.meaning.specs.declared.WordRead.TheVariants.{Ordinary}
use Rattle.meaning.specs.Meaning.{limit, read_word}

pub record AllKnown : Type 0 where
  -- r is 1 to 3; with 0 or 4 every word is refused with 7
  pub known_refusals : (w : ℕ) → (read_word 0 w ≡ Err (refusal TruncationRange)) × (read_word 4 w ≡ Err (refusal TruncationRange))
  pub known_limits : (read_word 1 0 ≡ Ok (Ordinary (limit 0) (limit 2))) × (read_word 3 32751 ≡ Ok (Ordinary (limit 262008) (limit 262016)))

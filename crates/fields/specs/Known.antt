-- A known weight byte. `proofs/Known.antt` shows it.
use Rattle.std.specs.Prelude.{ℕ, ◌≡◌, Ok}
use Rattle.record.specs.declared.Field.TheVariants.{Weight}
use Rattle.fields.specs.Fields.{check_of}

pub record AllKnown : Type 0 where
  -- 16 is minus zero
  pub known_minus_zero : (i : ℕ) → check_of (Weight i) 16 ≡ Ok tt

-- A record that is longer than any map calls for.
use Prim.Native.Nat.{ℕ, ◌+◌, ◌*◌, ◌<◌}
use mathlib.Core.List.{List, [], ◌∷◌}
use mathlib.Core.Path.{◌≡◌}
use borrow.Author.Tests.{le-ltb, ne_eqb}
use native.Mathlib.Omega.{arith}
use lib.ListN.{length}
use Rattle.std.specs.Prelude.{Err}
use Rattle.checks.specs.declared.Reason.TheVariants.{UnknownField, RecordLength}
use Rattle.checks.specs.Checks.{refusal, when, verdict}
use Rattle.settings.specs.declared.Settings.{Settings}
use Rattle.record.specs.Record.{map_of, field_count, unknown_bit, offset_of}
use Rattle.update.specs.Update.{apply_record}
use Rattle.record.proofs.Fields.{offset_small}

-- no map calls for more bytes
abbrev pub longest : ℕ
longest = 2 + 2 * field_count

pub overlong : (s : Settings) (bytes : List ℕ) → longest < length bytes → (apply_record s bytes).answer ≡ verdict (when (unknown_bit (map_of bytes)) UnknownField ∷ Err (refusal RecordLength) ∷ [])
unfolding apply_record verdict
overlong s bytes h =
    rw (le-ltb (length bytes) 2 (omega arith), ne_eqb (length bytes) (offset_of (map_of bytes) field_count) (λ e. omega (arith, offset_small (map_of bytes) field_count)))

-- Update, also while a ramp runs.
use Rattle.std.specs.Prelude.{ℕ, List, [], ◌∷◌}
use Rattle.update.specs.Update as SettingsUpdate
use Rattle.update.specs.Update.{resulting}
use Rattle.settings.specs.declared.Settings.{Settings}
use Rattle.checks.specs.Checks.{Answer, verdict}
use Rattle.board.specs.declared.Board.{Board}
use Rattle.board.specs.Board.{Outcome, unsound, with_settings, leaves}

-- 99, then what the record's own checks, 2 to 8, say of it and the waiting settings
abbrev pub update_checks : Board → List ℕ → List Answer
update_checks b bytes = unsound b ∷ (SettingsUpdate.apply_record b.waiting bytes).answer ∷ []

-- other settings wait
abbrev pub with_waiting : Settings → Board → Board
with_waiting s b = with_settings s b.in_force b

-- only the waiting settings change, in the fields that the record names
unfoldable pub update_of : Board → List ℕ → Outcome
update_of b bytes = leaves (verdict (update_checks b bytes)) (with_waiting (resulting bytes b.waiting) b) b

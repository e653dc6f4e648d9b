-- The place of a refusal: every check but 13 and 14 has none.
use Prim.Native.Nat.{ℕ, zero, suc}
use mathlib.Core.Bool.{Bool, true, false, cond}
use mathlib.Core.List.{List, [], ◌∷◌, ◌++◌}
use mathlib.Core.Logic.{inl, inr}
use mathlib.Core.Path.{refl}
use Rattle.laws.specs.Lists.{each}
use Rattle.laws.specs.Tables.{AllHold}
use Rattle.std.specs.Prelude.{Option, Some, None, Ok, Err}
use Rattle.checks.specs.declared.Reason.{Reason}
use Rattle.checks.specs.declared.Reason.TheVariants.{ReadingRange, EntryNotPossible}
use Rattle.checks.specs.Checks.{Answer, when, found, verdict}
use Rattle.record.specs.declared.Field.{Field}
use Rattle.record.specs.declared.Field.TheVariants.{Weight, Threshold, Truncation, Samples}
use Rattle.record.specs.Record.{bit_set, map_of, field_count, field_of, number_of}
use Rattle.settings.specs.declared.Settings.{Settings}
use Rattle.fields.specs.Fields.{check_of, field_check}
use Rattle.update.specs.Update as SettingsUpdate
use Rattle.board.specs.declared.Board.{Board}
use Rattle.history.specs.Calls.{Question, covered, Call, update, start, feed, read_out, drop, ask, question_checks, checks, outcome_of}
use Rattle.history.specs.Demands.{Placed}
use Rattle.history.proofs.Ledgers.{answer_is}

-- a test has no place, a search only with 13 or 14
test_placed : (t : Bool) (reason : Reason) → Placed (when t reason)
test_placed true reason = inr (inr refl)
test_placed false reason = tt

found_13 : (x : Option ℕ) → Placed (found x ReadingRange)
found_13 (Some p) = inl refl
found_13 None = tt

found_14 : (x : Option ℕ) → Placed (found x EntryNotPossible)
found_14 (Some p) = inr (inl refl)
found_14 None = tt

-- the first refusal of checks that are all so placed
verdict_placed : (l : List Answer) → AllHold Placed l → Placed (verdict l)
unfolding verdict
verdict_placed [] h = tt
verdict_placed ((Ok tt) ∷ l) h = verdict_placed l h.1
verdict_placed (Err r ∷ l) h = h.0

append_placed : (l m : List Answer) → AllHold Placed l → AllHold Placed m → AllHold Placed (l ++ m)
append_placed [] m h g = g
append_placed (a ∷ l) m h g = (h.0, append_placed l m h.1 g)

each_placed : (check : ℕ → Answer) → ((i : ℕ) → Placed (check i)) → (n : ℕ) → AllHold Placed (each check n)
unfolding each
each_placed check h zero = tt
each_placed check h (suc n) = append_placed (each check n) (check n ∷ []) (each_placed check h n) (h n, tt)

check_placed : (f : Field) (v : ℕ) → Placed (check_of f v)
check_placed (Weight i) v = search test_placed
check_placed Threshold v = search test_placed
check_placed Truncation v = search test_placed
check_placed Samples v = search test_placed

field_placed : (bytes : List ℕ) (bit : ℕ) → Placed (field_check bytes bit)
field_placed bytes bit = by (bit_set (map_of bytes) bit)
  where
    by : (t : Bool) → Placed (cond t (check_of (field_of bit) (number_of bytes bit)) (Ok tt))
    by true = check_placed (field_of bit) (number_of bytes bit)
    by false = tt

record_placed : (s : Settings) (bytes : List ℕ) → Placed (SettingsUpdate.apply_record s bytes).answer
unfolding SettingsUpdate.apply_record
record_placed s bytes = verdict_placed (SettingsUpdate.record_checks bytes) (search (test_placed, each_placed (field_check bytes) (field_placed bytes) field_count))

question_placed : (b : Board) (q : Question) → AllHold Placed (question_checks b q)
question_placed b covered = search test_placed

all_placed : (b : Board) (c : Call) → AllHold Placed (checks b c)
all_placed b (update bytes) = search (test_placed, record_placed)
all_placed b start = search test_placed
all_placed b (feed xs sums) = search (test_placed, found_13, found_14)
all_placed b (read_out sums output) = search (test_placed, found_14)
all_placed b drop = search test_placed
all_placed b (ask question) = question_placed b question

pub places : (b : Board) (c : Call) → Placed (outcome_of b c).answer
places b c = rw (answer_is b c) (verdict_placed (checks b c) (all_placed b c))

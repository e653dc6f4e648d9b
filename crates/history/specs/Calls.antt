-- The calls on a board, the ledger, and the step that a call takes: what it finds, and what it leaves.
use Rattle.std.specs.Prelude.{ℕ, Bool, true, false, List, [], ◌++◌, ◌≡◌, ℤ, length, Option, Some, None, Result, Ok, Err}
use Rattle.std.specs.Result.{result_ok, result_map_both}
use Rattle.settings.specs.declared.Settings.{Settings}
use Rattle.settings.specs.Settings.{defaults}
use Rattle.settings.specs.Covered.{is_covered}
use Rattle.update.specs.Update.{resulting}
use Rattle.checks.specs.declared.Refusal.{Refusal}
use Rattle.checks.specs.Checks.{Answer, verdict, by_answer}
use Rattle.engines.specs.Engine.{Engine, Kind, whole_numbers, Entry, engine_of}
use Rattle.sums.specs.Feed.{sums_in}
use Rattle.encoding.specs.Frame.{frame_in}
use Rattle.sides.specs.declared.Sides.{Sides}
use Rattle.board.specs.declared.Board.{Board}
use Rattle.board.specs.Board.{Outcome}
use Rattle.board.specs.Open.{open_of}
use Rattle.operations.specs.Update.{update_checks, update_of}
use Rattle.operations.specs.Ramp.{start_checks, start_of, drop_checks, drop_of}
use Rattle.operations.specs.Feed.{feed_checks_in, feed_in, fed_sums_in}
use Rattle.operations.specs.ReadOut.{read_out_checks_in, read_out_in, read_out_words_in}
use Rattle.operations.specs.Covered.{covered_checks, coverage_of}

-- sums of either kind: one value, with its kind
pub record Sums : Type 0 where
  pub kind : Kind
  pub entries : List (Entry kind)

abbrev pub whole_sums : List ℤ → Sums
whole_sums entries = record { kind = whole_numbers; entries = entries }

-- the engine that a call with these sums goes to
abbrev pub engine : (sums : Sums) → Engine (Entry sums.kind)
engine sums = engine_of sums.kind

-- a question: a call that only asks
pub data Question : Type 0 where
  covered : Question

-- a call, with everything it brings
pub data Call : Type 0 where
  update : (bytes : List ℕ) → Call
  start : Call
  feed : (readings : List ℕ) (sums : Sums) → Call
  read_out : (sums : Sums) (output : List ℕ) → Call
  drop : Call
  ask : (question : Question) → Call

-- what a call brings, by kind
pub record Brought : Type 0 where
  pub bytes : Option (List ℕ)
  pub readings : Option (List ℕ)
  pub sums : Option Sums
  pub output : Option (List ℕ)

abbrev pub none_brought : Brought
none_brought = record { bytes = None; readings = None; sums = None; output = None }

abbrev pub brought : Call → Brought
brought (update bytes) = record none_brought { bytes = Some bytes }
brought start = none_brought
brought (feed readings sums) = record none_brought { readings = Some readings; sums = Some sums }
brought (read_out sums output) = record none_brought { sums = Some sums; output = Some output }
brought drop = none_brought
brought (ask question) = none_brought

-- ---- the ledger

-- It is kept from what the calls bring alone; no answer of the program is in it.
pub record Ledger : Type 0 where
  pub sides : Sides
  pub waiting : Settings
  pub in_force : Settings
  pub running : Bool
  pub readings : List ℕ

-- the ledger at the start: the sides and binning of the Open, the defaults waiting and in force, no ramp, no readings
abbrev pub fresh : ℕ → ℕ → Bool → Ledger
fresh width height binned = record { sides = record { width = width; height = height; binned = binned }; waiting = defaults; in_force = defaults; running = false; readings = [] }

-- a ledger with other settings, and with another ramp: all else of it is kept
abbrev pub with_settings : Settings → Settings → Ledger → Ledger
with_settings waiting in_force ℓ = record ℓ { waiting = waiting; in_force = in_force }

abbrev pub with_ramp : Bool → List ℕ → Ledger → Ledger
with_ramp running readings ℓ = record ℓ { running = running; readings = readings }

-- what the checks see of a ledger: a board that was fed as many readings as the ledger holds
abbrev pub view_of : Ledger → Board
view_of ℓ = record { sides = ℓ.sides; waiting = ℓ.waiting; in_force = ℓ.in_force; running = ℓ.running; fed = length ℓ.readings }

-- each question's checks
abbrev pub question_checks : Board → Question → List Answer
question_checks b covered = covered_checks b

-- each operation's checks
abbrev pub checks : Board → Call → List Answer
checks b (update bytes) = update_checks b bytes
checks b start = start_checks b
checks b (feed readings sums) = feed_checks_in (engine sums) b readings sums.entries
checks b (read_out sums output) = read_out_checks_in (engine sums) b sums.entries output
checks b drop = drop_checks b
checks b (ask question) = question_checks b question

-- the first refusal among the checks, made on the ledger and what the call brings; the call is *taken* where there is none
abbrev pub ledger_answer : Ledger → Call → Answer
ledger_answer ℓ c = verdict (checks (view_of ℓ) c)

-- what a taken call does: Update writes its fields into the waiting settings; Start copies these in force and begins a ramp; Feed adds its readings at the end;
-- Read out and Drop end the ramp and empty the readings; a question leaves all as it is
abbrev pub effect : Ledger → Call → Ledger
effect ℓ (update bytes) = with_settings (resulting bytes ℓ.waiting) ℓ.in_force ℓ
effect ℓ start = with_ramp true [] (with_settings ℓ.waiting ℓ.waiting ℓ)
effect ℓ (feed new sums) = with_ramp ℓ.running (ℓ.readings ++ new) ℓ
effect ℓ (read_out sums output) = with_ramp false [] ℓ
effect ℓ drop = with_ramp false [] ℓ
effect ℓ (ask question) = ℓ

-- what a refused call does: nothing
abbrev pub refused_effect : Ledger → Call → Ledger
refused_effect ℓ c = ℓ

abbrev pub next : Ledger → Call → Ledger
next ℓ c = by_answer (ledger_answer ℓ c) (effect ℓ c) (refused_effect ℓ c)

-- ---- what a call gives beside its answer and the board

-- what a question says
pub data Reply : Type 0 where
  coverage : Bool → Reply

-- the buffers that the call brought, as it leaves them, and what a question says
pub record Given : Type 0 where
  pub sums : Option Sums
  pub output : Option (List ℕ)
  pub reply : Option Reply

abbrev pub none_given : Given
none_given = record { sums = None; output = None; reply = None }

-- what a question says, by the ledger
abbrev pub ledger_reply : Ledger → Question → Reply
ledger_reply ℓ covered = coverage (is_covered ℓ.in_force)

-- a taken call: a Feed sums up its readings, a Read out makes the frame and only reads the sums, a question replies
abbrev pub taken_given : Ledger → Call → Given
taken_given ℓ (update bytes) = none_given
taken_given ℓ start = none_given
taken_given ℓ (feed readings sums) = record none_given { sums = Some (record sums { entries = sums_in (engine sums) ℓ.in_force (length ℓ.readings) readings sums.entries }) }
taken_given ℓ (read_out sums output) =
    record none_given { sums = Some sums; output = Some (frame_in (engine sums) ℓ.sides.width ℓ.sides.binned ℓ.in_force.truncation sums.entries) }
taken_given ℓ drop = none_given
taken_given ℓ (ask question) = record none_given { reply = Some (ledger_reply ℓ question) }

-- a refused call: the buffers as it brought them, and no reply
abbrev pub refused_given : Call → Given
refused_given c = record { sums = (brought c).sums; output = (brought c).output; reply = None }

abbrev pub given_by_ledger : Ledger → Call → Given
given_by_ledger ℓ c = by_answer (ledger_answer ℓ c) (taken_given ℓ c) (refused_given c)

-- ---- the program, by the definitions that the operations' contracts cite

-- what a question says, or the refusal
abbrev pub reply_of : Board → Question → Result Reply Refusal
reply_of b covered = result_map_both coverage (λ r. r) (coverage_of b)

-- a question's answer, as the other operations give theirs
abbrev pub answer_of : Result Reply Refusal → Answer
answer_of (Ok says) = Ok tt
answer_of (Err r) = Err r

-- each call's answer, and the board that it leaves
abbrev pub outcome_of : Board → Call → Outcome
outcome_of b (update bytes) = update_of b bytes
outcome_of b start = start_of b
outcome_of b (feed readings sums) = feed_in (engine sums) b readings sums.entries
outcome_of b (read_out sums output) = read_out_in (engine sums) b sums.entries output
outcome_of b drop = drop_of b
outcome_of b (ask question) = record { answer = answer_of (reply_of b question); board = b }

-- the sums as Feed leaves them, and the output as Read out leaves it
abbrev pub sums_left : Board → List ℕ → Sums → Sums
sums_left b readings sums = record sums { entries = fed_sums_in (engine sums) b readings sums.entries }

abbrev pub output_left : Board → Sums → List ℕ → List ℕ
output_left b sums output = read_out_words_in (engine sums) b sums.entries output

abbrev pub given_by_board : Board → Call → Given
given_by_board b (update bytes) = none_given
given_by_board b start = none_given
given_by_board b (feed readings sums) = record none_given { sums = Some (sums_left b readings sums) }
given_by_board b (read_out sums output) = record none_given { sums = Some sums; output = Some (output_left b sums output) }
given_by_board b drop = none_given
given_by_board b (ask question) = record none_given { reply = result_ok (reply_of b question) }

-- ---- the sums of a ramp

-- Which sums the ramp's next taken Feed or Read out may bring: any at the ramp's first, and then those that its last taken Feed left. What a refused call brings
-- plays no part. So a taken Start allows any sums; a taken Feed that brings sums which are allowed allows from there on those that it leaves, and no others. One
-- that brings others allows none, and sums of the other kind are others: that ramp is broken, and until the next taken Start demands 2 and 3 say nothing. Demand 1
-- goes on.
abbrev pub Allowed : Type 1
Allowed = Sums → Type 0

abbrev pub any_sums : Allowed
any_sums sums = Unit {0}

abbrev pub after_taken : Board → Call → Allowed → Allowed
after_taken b (update bytes) allowed = allowed
after_taken b start allowed = any_sums
after_taken b (feed readings before) allowed = λ sums. allowed before × (sums ≡ sums_left b readings before)
after_taken b (read_out before output) allowed = allowed
after_taken b drop allowed = allowed
after_taken b (ask question) allowed = allowed

-- ---- one step of a list

-- what a call finds: the ledger, the board, and which sums are allowed
pub record State : Type 1 where
  pub ledger : Ledger
  pub board : Board
  pub allowed : Allowed

-- what it leaves: the next call gets the board that this one left
abbrev pub after : State → Call → State
after at c = record {
  ledger = next at.ledger c;
  board = (outcome_of at.board c).board;
  allowed = by_answer (ledger_answer at.ledger c) (after_taken at.board c at.allowed) at.allowed;
}

-- a board that Open gave
abbrev pub opening : ℕ → ℕ → Bool → State
opening width height binned = record { ledger = fresh width height binned; board = (open_of width height binned).board; allowed = any_sums }

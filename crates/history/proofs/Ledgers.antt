-- The board that a ledger shows, and demand 1: a call on it, with a clause for each call.
--     shown_by        the state of a board that the ledger shows
--     opened_is       the board that Open gave is the one that the fresh ledger shows
--     answer_is       a call answers what the checks of its board say
--     board_is        it leaves the board that the next ledger shows
--     given_is        it gives what the ledger says
--     refused_is      a refused one leaves all as it was
--     call_sound      it leaves a sound board sound
use Prim.Native.Nat.{ℕ}
use mathlib.Core.Bool.{Bool}
use mathlib.Core.Path.{◌≡◌, refl, sym, ap, ◌∙◌}
use lib.ListN.{length-append}
use Rattle.settings.specs.Covered.{is_covered}
use Rattle.std.specs.Prelude.{Some, Ok, Err}
use Rattle.std.specs.Result.{result_ok, result_map_both}
use Rattle.checks.specs.declared.Refusal.{Refusal}
use Rattle.checks.specs.Checks.{Answer, verdict, by_answer, or_refused}
use Rattle.board.specs.declared.Board.{Board}
use Rattle.board.specs.Board.{sound}
use Rattle.board.specs.Open.{open_of}
use Rattle.operations.specs.Update.{update_of}
use Rattle.operations.specs.Ramp.{start_of, drop_of}
use Rattle.operations.specs.Feed.{feed_in, fed_sums_in}
use Rattle.operations.specs.ReadOut.{read_out_in, read_out_words_in}
use Rattle.operations.specs.Covered.{covered_checks, coverage_of}
use Rattle.operations.proofs.Laws.{laws}
use Rattle.history.specs.Calls.{Question, covered, Call, update, start, feed, read_out, drop, ask, Ledger, fresh, view_of, question_checks, checks, ledger_answer, effect, next, coverage, Given, none_given, given_by_ledger, reply_of, answer_of, outcome_of, given_by_board, Allowed, State}
use Rattle.history.specs.Demands.{Unchanged}

abbrev pub shown_by : Ledger → Allowed → State
shown_by ℓ allowed = record { ledger = ℓ; board = view_of ℓ; allowed = allowed }

pub opened_is : (w h : ℕ) (binned : Bool) → (open_of w h binned).answer ≡ Ok tt → (open_of w h binned).board ≡ view_of (fresh w h binned)
unfolding open_of
opened_is w h binned t = rw t

-- Covered refuses what its checks refuse, whatever it says otherwise
coverage_answer : (a : Answer) (says : Bool) → answer_of (result_map_both coverage (λ r. r) (or_refused a says)) ≡ a
coverage_answer (Ok tt) says = refl
coverage_answer (Err r) says = refl

-- a question refuses what its checks refuse
reply_answer : (b : Board) (q : Question) → answer_of (reply_of b q) ≡ verdict (question_checks b q)
unfolding coverage_of
reply_answer b covered = coverage_answer (verdict (covered_checks b)) (is_covered b.in_force)

pub answer_is : (b : Board) (c : Call) → (outcome_of b c).answer ≡ verdict (checks b c)
unfolding update_of start_of feed_in read_out_in drop_of
answer_is b (update bytes) = refl
answer_is b start = refl
answer_is b (feed xs sums) = refl
answer_is b (read_out sums output) = refl
answer_is b drop = refl
answer_is b (ask question) = reply_answer b question

-- what an answer chooses from, in a larger term; and where both are the same
chosen : {A B : Type 0} (f : A → B) (a : Answer) (new old : A) → f (by_answer a new old) ≡ by_answer a (f new) (f old)
chosen f (Ok tt) new old = refl
chosen f (Err r) new old = refl

same : {A : Type 0} (a : Answer) (x : A) → x ≡ by_answer a x x
same (Ok tt) x = refl
same (Err r) x = refl

-- what an operation leaves of a board is what the ledger shows, where what a taken one leaves is
shown : {b : Board} (a : Answer) (new old : Ledger) → b ≡ view_of new → by_answer a b (view_of old) ≡ view_of (by_answer a new old)
shown a new old e = rw e (sym (chosen view_of a new old))

pub board_is : (ℓ : Ledger) (c : Call) → (outcome_of (view_of ℓ) c).board ≡ view_of (next ℓ c)
unfolding update_of start_of feed_in read_out_in drop_of
board_is ℓ (update bytes) = shown (ledger_answer ℓ (update bytes)) (effect ℓ (update bytes)) ℓ refl
board_is ℓ start = shown (ledger_answer ℓ start) (effect ℓ start) ℓ refl
board_is ℓ (feed xs sums) = shown (ledger_answer ℓ (feed xs sums)) (effect ℓ (feed xs sums)) ℓ (rw length-append)
board_is ℓ (read_out sums output) = shown (ledger_answer ℓ (read_out sums output)) (effect ℓ (read_out sums output)) ℓ refl
board_is ℓ drop = shown (ledger_answer ℓ drop) (effect ℓ drop) ℓ refl
board_is ℓ (ask question) = ap view_of (same (ledger_answer ℓ (ask question)) ℓ)

-- what Covered says, and what it says to a ledger
coverage_given : (a : Answer) (says : Bool)
    → record none_given { reply = result_ok (result_map_both coverage (λ r. r) (or_refused a says)) } ≡ by_answer a (record none_given { reply = Some (coverage says) }) none_given
coverage_given (Ok tt) says = refl
coverage_given (Err r) says = refl

reply_is : (ℓ : Ledger) (q : Question) → given_by_board (view_of ℓ) (ask q) ≡ given_by_ledger ℓ (ask q)
unfolding coverage_of
reply_is ℓ covered = coverage_given (ledger_answer ℓ (ask covered)) (is_covered ℓ.in_force)

pub given_is : (ℓ : Ledger) (c : Call) → given_by_board (view_of ℓ) c ≡ given_by_ledger ℓ c
unfolding fed_sums_in read_out_words_in
given_is ℓ (update bytes) = same (ledger_answer ℓ (update bytes)) none_given
given_is ℓ start = same (ledger_answer ℓ start) none_given
given_is ℓ (feed xs sums) = chosen (λ left. record none_given { sums = Some (record sums { entries = left }) }) (ledger_answer ℓ (feed xs sums)) _ sums.entries
given_is ℓ (read_out sums output) = chosen (λ left. record none_given { sums = Some sums; output = Some left }) (ledger_answer ℓ (read_out sums output)) _ output
given_is ℓ drop = same (ledger_answer ℓ drop) none_given
given_is ℓ (ask question) = reply_is ℓ question

-- what a refused call leaves
pub refused_is : (ℓ : Ledger) (allowed : Allowed) (c : Call) (r : Refusal) → ledger_answer ℓ c ≡ Err r → Unchanged (shown_by ℓ allowed) c
refused_is ℓ allowed c r e = record {
  board = board_is ℓ c ∙ rw e;
  ledger = rw e;
  sums = ap (λ (g : Given). g.sums) (given_is ℓ c) ∙ rw e;
  output = ap (λ (g : Given). g.output) (given_is ℓ c) ∙ rw e;
  allowed = λ sums. rw e ((λ a. a), λ a. a);
}

pub call_sound : (b : Board) (c : Call) → sound (outcome_of b c).board ≡ sound b
call_sound b (update bytes) = laws.stays_sound.update b bytes
call_sound b start = laws.stays_sound.start b
call_sound b (feed xs sums) = laws.stays_sound.feed sums.kind b xs sums.entries
call_sound b (read_out sums output) = laws.stays_sound.read_out sums.kind b sums.entries output
call_sound b drop = laws.stays_sound.drop b
call_sound b (ask question) = refl

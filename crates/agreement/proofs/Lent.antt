-- Calls on a board in lent memory.
--     call_99, others_99              a board that isn't sound gets 99
--     refused_board, refused_words    what a refused call leaves of the board, and of the words
--     words_after_lem                 what any call leaves of the words, by its outcome
--     reads_back                      what it left holds the board that it leaves
--     every_on, some_on               a list of calls on words is the list of calls on the board that they hold
--     always_lent                     what holds at every call of every list on a board holds so on words
use Prim.Native.Nat.{ℕ}
use mathlib.Core.Bool.{Bool, true, false, not}
use mathlib.Core.List.{List, [], ◌∷◌}
use mathlib.Core.Logic.{◌⊎◌, inl, inr}
use mathlib.Core.Path.{◌≡◌, refl, sym, ap, ◌∙◌}
use lib.Dec.{eqb}
use lib.IntN.{ℤ}
use lib.ListN.{length}
use Rattle.std.specs.Prelude.{◌↔◌, cond, Result, None, Ok, Err}
use Rattle.std.specs.Result.{result_ok}
use Rattle.checks.proofs.Laws.{first_taken}
use Rattle.laws.proofs.Tests.{cases}
use Rattle.checks.specs.declared.Reason.TheVariants.{UnsoundBoard}
use Rattle.checks.specs.declared.Refusal.{Refusal}
use Rattle.checks.specs.Checks.{Answer, refusal, when, first, verdict, by_answer}
use Rattle.board.specs.declared.Board.{Board}
use Rattle.board.specs.Board.{Outcome, sound}
use Rattle.board.specs.Open.{open_of}
use Rattle.board.specs.Kept.{refused99}
use Rattle.board.proofs.Laws as BoardLaws
use Rattle.operations.specs.Update.{update_of}
use Rattle.operations.specs.Ramp.{start_of, drop_of}
use Rattle.operations.specs.Feed.{feed_in, fed_sums_in}
use Rattle.operations.specs.ReadOut.{read_out_in, read_out_words_in}
use Rattle.operations.proofs.Laws as OperationLaws
use Rattle.history.specs.Calls.{Question, Call, update, start, feed, read_out, drop, ask, covered, Reply, refused_given, reply_of, answer_of, outcome_of, given_by_board, State, after, opening}
use Rattle.history.specs.Demands.{Every, AtSome, Always, SaidCovered, NoFalseWord, WaitingStays}
use Rattle.history.proofs.Ledgers.{call_sound}
use Rattle.history.specs.Engines.{EqualFrames}
use Rattle.history.proofs.Demands.{demands}
use Rattle.history.proofs.Engines.{engine_claims}
use Rattle.board_words.specs.Words.{board_length, words_of, held}
use Rattle.board_words.proofs.Laws as WordsLaws
use Rattle.lent_board.specs.Lent.{words_left, open_answer, opened_words}
use Rattle.agreement.specs.Lent.{words_after, found_in, EveryLent, AtSomeLent, AlwaysLent, LentLaws}

-- ---- a refused call

-- a board that isn't sound
call_99 : (b : Board) → sound b ≡ false → (c : Call) → outcome_of b c ≡ refused99 b
call_99 b s (update bytes) = ((OperationLaws.laws).unsound_99 b s).update bytes
call_99 b s start = ((OperationLaws.laws).unsound_99 b s).start
call_99 b s (feed xs sums) = (((OperationLaws.laws).unsound_99 b s).feed sums.kind xs sums.entries).0
call_99 b s (read_out sums output) = (((OperationLaws.laws).unsound_99 b s).read_out sums.kind sums.entries output).0
call_99 b s drop = ((OperationLaws.laws).unsound_99 b s).drop
call_99 b s (ask covered) = rw ((OperationLaws.laws).unsound_99 b s).covered

answer_99 : (b : Board) → sound b ≡ false → (c : Call) → (outcome_of b c).answer ≡ Err (refusal UnsoundBoard)
answer_99 b s c = ap (λ (o : Outcome). o.answer) (call_99 b s c)

refused_board : (b : Board) (c : Call) (r : Refusal) → (outcome_of b c).answer ≡ Err r → (outcome_of b c).board ≡ b
unfolding update_of start_of feed_in read_out_in drop_of
refused_board b (update bytes) r e = rw e
refused_board b start r e = rw e
refused_board b (feed xs sums) r e = rw e
refused_board b (read_out sums output) r e = rw e
refused_board b drop r e = rw e
refused_board b (ask question) r e = refl

-- a refused question says nothing
no_reply : (says : Result Reply Refusal) (r : Refusal) → answer_of says ≡ Err r → result_ok says ≡ None
no_reply (Ok reply) r e = cc
no_reply (Err q) r e = refl

refused_given_lem : (b : Board) (c : Call) (r : Refusal) → (outcome_of b c).answer ≡ Err r → given_by_board b c ≡ refused_given c
unfolding feed_in fed_sums_in read_out_in read_out_words_in
refused_given_lem b (update bytes) r e = refl
refused_given_lem b start r e = refl
refused_given_lem b (feed xs sums) r e = rw e
refused_given_lem b (read_out sums output) r e = rw e
refused_given_lem b drop r e = refl
refused_given_lem b (ask question) r e = rw (no_reply (reply_of b question) r e)

others_99 : (words : List ℤ) → ((b : Board) → sound b ≡ true → words ≡ words_of b → ⊥) → (c : Call) → (outcome_of (held words) c).answer ≡ Err (refusal UnsoundBoard)
others_99 words none c =
    cases (sound (held words))
    (λ s. absurd (none (held words) s ((WordsLaws.laws).no_other words s)))
    (λ s. answer_99 (held words) s c)

-- ---- what a call leaves

chosen_same : (a : Answer) (new old : List ℤ) → old ≡ new → old ≡ by_answer a new old
chosen_same (Ok tt) new old e = e
chosen_same (Err r) new old e = refl

-- a question that is taken finds the words of a sound board
asked : (words : List ℤ) (question : Question) → words ≡ words_left (outcome_of (held words) (ask question)) words
asked words question =
    cases (sound (held words))
    (λ s. chosen_same (outcome_of (held words) (ask question)).answer _ words ((WordsLaws.laws).no_other words s))
    (λ s. rw (answer_99 (held words) s (ask question)))

words_after_lem : (words : List ℤ) (c : Call) → words_after words c ≡ words_left (outcome_of (held words) c) words
words_after_lem words (update bytes) = refl
words_after_lem words start = refl
words_after_lem words (feed xs sums) = refl
words_after_lem words (read_out sums output) = refl
words_after_lem words drop = refl
words_after_lem words (ask question) = asked words question

refused_words : (words : List ℤ) (c : Call) (r : Refusal) → (outcome_of (held words) c).answer ≡ Err r → words_after words c ≡ words
refused_words words c r e = words_after_lem words c ∙ rw e

-- of any operation that keeps a sound board sound and gives any other 99: a is its answer, new the board that it leaves
held_left : (words : List ℤ) (a : Answer) (new : Board)
    → sound new ≡ sound (held words) → (sound (held words) ≡ false → a ≡ Err (refusal UnsoundBoard)) → ((r : Refusal) → a ≡ Err r → new ≡ held words)
    → held (by_answer a (words_of new) words) ≡ new
held_left words (Ok tt) new stays refused same = (WordsLaws.laws).reads_back new (cases (sound (held words)) (λ s. stays ∙ s) (λ s. let z = refused s in cc))
held_left words (Err r) new stays refused same = sym (same r refl)

reads_back : (words : List ℤ) (c : Call) → held (words_after words c) ≡ (outcome_of (held words) c).board
reads_back words c =
    rw (words_after_lem words c)
    (held_left words (outcome_of (held words) c).answer (outcome_of (held words) c).board
    (call_sound (held words) c)
    (λ s. answer_99 (held words) s c)
    (refused_board (held words) c))

-- ---- Open

as_many : (t : Bool) (a : Answer) → first (when (not t) UnsoundBoard) (first a (Ok tt)) ≡ cond t a (Err (refusal UnsoundBoard))
as_many true a = first_taken a
as_many false a = refl

taken_part : (t : Bool) (a : Answer) → cond t a (Err (refusal UnsoundBoard)) ≡ Ok tt → a ≡ Ok tt
taken_part true a e = e
taken_part false a e = cc

open_answers : (words : List ℤ) (w h : ℕ) (binned : Bool)
    → open_answer words w h binned ≡ cond (eqb (length words) board_length) (open_of w h binned).answer (Err (refusal UnsoundBoard))
unfolding open_answer verdict
open_answers words w h binned = as_many (eqb (length words) board_length) (open_of w h binned).answer

open_taken : (words : List ℤ) (w h : ℕ) (binned : Bool) → open_answer words w h binned ≡ Ok tt → (open_of w h binned).answer ≡ Ok tt
open_taken words w h binned t = taken_part _ _ (sym (open_answers words w h binned) ∙ t)

opened_reads_back : (words : List ℤ) (w h : ℕ) (binned : Bool) → open_answer words w h binned ≡ Ok tt → held (opened_words words w h binned) ≡ (open_of w h binned).board
unfolding opened_words
opened_reads_back words w h binned t =
    rw t ((WordsLaws.laws).reads_back (open_of w h binned).board ((BoardLaws.laws).opened_sound w h binned (open_taken words w h binned t)))

refused_open_leaves : (words : List ℤ) (w h : ℕ) (binned : Bool) (r : Refusal) → open_answer words w h binned ≡ Err r → opened_words words w h binned ≡ words
unfolding opened_words
refused_open_leaves words w h binned r e = rw e

-- ---- lists

every_on : (P : State → Call → Type 0) (at : State) (words : List ℤ) (calls : List Call) → Every P (found_in at words) calls ↔ EveryLent P at words calls
every_on P at words [] = (λ t. t, λ t. t)
every_on P at words (c ∷ calls) =
    let rest : Every P (after (found_in at words) c) calls ↔ EveryLent P (after (found_in at words) c) (words_after words c) calls
    = rw (reads_back words c) at (every_on P (after (found_in at words) c) (words_after words c) calls) in
    (λ p. (p.0, rest.0 p.1), λ p. (p.0, rest.1 p.1))

some_on : (P : State → Call → Type 0) (at : State) (words : List ℤ) (calls : List Call) → AtSome P (found_in at words) calls ↔ AtSomeLent P at words calls
some_on P at words [] = (λ t. t, λ t. t)
some_on P at words (c ∷ calls) =
    let rest : AtSome P (after (found_in at words) c) calls ↔ AtSomeLent P (after (found_in at words) c) (words_after words c) calls
    = rw (reads_back words c) at (some_on P (after (found_in at words) c) (words_after words c) calls) in
    (either rest.0, either rest.1)
  where
    either : {A B C : Type 0} → (B → C) → A ⊎ B → A ⊎ C
    either f (inl a) = inl a
    either f (inr b) = inr (f b)

same_lists : (P : State → Call → Type 0) (at : State) (words : List ℤ) → held words ≡ at.board → (calls : List Call) → Every P at calls ↔ EveryLent P at words calls
same_lists P at words e calls = rw e at (every_on P at words calls)

same_some : (P : State → Call → Type 0) (at : State) (words : List ℤ) → held words ≡ at.board → (calls : List Call) → AtSome P at calls ↔ AtSomeLent P at words calls
same_some P at words e calls = rw e at (some_on P at words calls)

-- ---- lists after a taken Open

opened_lists : (P : State → Call → Type 0) (w h : ℕ) (binned : Bool) (words : List ℤ) → open_answer words w h binned ≡ Ok tt → (calls : List Call)
    → Every P (opening w h binned) calls ↔ EveryLent P (opening w h binned) (opened_words words w h binned) calls
opened_lists P w h binned words t calls = same_lists P (opening w h binned) (opened_words words w h binned) (opened_reads_back words w h binned t) calls

always_lent : (P : State → Call → Type 0) → Always P → AlwaysLent P
always_lent P holds w h binned words t calls = (opened_lists P w h binned words t calls).0 (holds w h binned (open_taken words w h binned t) calls)

defaults_covered : (w h : ℕ) (binned : Bool) (words : List ℤ) → open_answer words w h binned ≡ Ok tt → (calls : List Call)
    → EveryLent WaitingStays (opening w h binned) (opened_words words w h binned) calls
    → EveryLent (λ at c. SaidCovered at × NoFalseWord at c) (opening w h binned) (opened_words words w h binned) calls
defaults_covered w h binned words t calls stay =
    (opened_lists (λ at c. SaidCovered at × NoFalseWord at c) w h binned words t calls).0
    (demands.defaults_covered.frames w h binned (open_taken words w h binned t) calls ((opened_lists WaitingStays w h binned words t calls).1 stay))

every_of : {P Q : State → Call → Type 0} → ((at : State) (c : Call) → P at c → Q at c) → (at : State) (calls : List Call) → Every P at calls → Every Q at calls
every_of f at [] p = tt
every_of f at (c ∷ calls) p = (f at c p.0, every_of f (after at c) calls p.1)

equal_frames : AlwaysLent (λ at c. AlwaysLent (λ other d. EqualFrames at c other d))
equal_frames =
    always_lent _
    (λ w h binned t calls.
    every_of (λ at c. always_lent (λ other d. EqualFrames at c other d)) (opening w h binned) calls (engine_claims.equal_frames w h binned t calls))

pub laws : LentLaws
laws = record {
  open_answers = open_answers;
  opened_reads_back = opened_reads_back;
  reads_back = reads_back;
  refused_leaves = λ words c r e. record { words_stay = refused_words words c r e; given = refused_given_lem (held words) c r e };
  refused_open_leaves = refused_open_leaves;
  others_99 = others_99;
  same_lists = same_lists;
  same_some = same_some;
  demand_1 = always_lent _ demands.demand_1;
  refused_changes_nothing = always_lent _ demands.refused_changes_nothing;
  sound = always_lent _ demands.sound;
  demand_2 = always_lent _ demands.demand_2;
  demand_3 = always_lent _ demands.demand_3.frames;
  handed_on_possible = always_lent _ demands.handed_on_possible;
  any_ramp_follows = always_lent _ demands.any_ramp_follows;
  defaults_covered = defaults_covered;
  stored_exactly = always_lent _ engine_claims.stored_exactly;
  equal_frames = equal_frames;
}

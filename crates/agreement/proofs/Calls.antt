-- A taken frame as a list of calls: Update, Start, a Feed of all readings, and Read out.
--     words_are       its words are those that its readings make
--     frame_claim     and none is false under covered settings
use Prim.Native.Nat.{ℕ}
use mathlib.Core.Bool.{Bool, true}
use mathlib.Core.List.{List, [], ◌∷◌}
use mathlib.Core.Path.{◌≡◌, refl, sym, ◌∙◌}
use lib.IntN.{ℤ}
use Rattle.std.specs.Prelude.{Ok}
use Rattle.checks.specs.Checks.{verdict}
use Rattle.checks.proofs.Laws.{both_taken}
use Rattle.board.specs.declared.Board.{Board}
use Rattle.board.specs.Open.{open_of}
use Rattle.operations.specs.Feed.{feed_of, fed_sums}
use Rattle.operations.specs.Covered.{coverage_of}
use Rattle.history.specs.Calls.{whole_sums, Call, update, start, feed, read_out, Ledger, fresh, view_of, ledger_answer, next, opening}
use Rattle.history.specs.Readings.{ramp_of, frame_from}
use Rattle.history.specs.Demands.{Every, Demand1, FrameClaim}
use Rattle.history.proofs.Demands.{demands}
use Rattle.begin.specs.Begin.{updated, started, begin_of}
use Rattle.whole_frame.specs.Chain.{read_out_after, frame_answer_on, frame_answer, frame_words}
use Rattle.whole_frame.proofs.Whole.{frame_is, two_taken}
use Rattle.agreement.specs.Laws.{ledger_of}

module _ (w h : ℕ) (binned : Bool) (bytes xs : List ℕ) (sums : List ℤ) (output : List ℕ) (taken : frame_answer w h binned bytes xs sums output ≡ Ok tt) where
  abbrev b : Board
  b = (started w h binned bytes).board

  -- the sums that Read out gets
  abbrev left : List ℤ
  left = fed_sums b xs sums

  abbrev calls : List Call
  calls = update bytes ∷ start ∷ feed xs (whole_sums sums) ∷ read_out (whole_sums left) output ∷ []

  abbrev halves : ((begin_of w h binned bytes).answer ≡ Ok tt) × (frame_answer_on b xs sums output ≡ Ok tt)
  halves = both_taken (begin_of w h binned bytes).answer _ (sym (frame_is w h binned bytes xs sums output) ∙ taken)

  abbrev last_two : ((feed_of b xs sums).answer ≡ Ok tt) × ((read_out_after b xs sums output).answer ≡ Ok tt)
  last_two = two_taken b xs sums output halves.1

  first_three : ((open_of w h binned).answer ≡ Ok tt) × ((updated w h binned bytes).answer ≡ Ok tt) × ((started w h binned bytes).answer ≡ Ok tt)
  unfolding verdict
  first_three =
      let p = both_taken (open_of w h binned).answer _ halves.0 in
      let q = both_taken (updated w h binned bytes).answer _ p.1 in
      (p.0, q.0, (both_taken (started w h binned bytes).answer (Ok tt) q.1).0)

  abbrev ℓ : Ledger
  ℓ = ledger_of w h binned bytes xs sums

  -- demand 1, at each of the calls
  abbrev answers : Every Demand1 (opening w h binned) calls
  answers = demands.demand_1 w h binned first_three.0 calls

  -- the ledger takes what the board takes
  start_taken : ledger_answer (next (fresh w h binned) (update bytes)) start ≡ Ok tt
  start_taken = sym answers.1.0.answer ∙ first_three.2

  feed_taken : ledger_answer (next (next (fresh w h binned) (update bytes)) start) (feed xs (whole_sums sums)) ≡ Ok tt
  feed_taken = sym answers.1.1.0.answer ∙ last_two.0

  read_out_taken : ledger_answer ℓ (read_out (whole_sums left) output) ≡ Ok tt
  read_out_taken = sym answers.1.1.1.0.answer ∙ last_two.1

  pub words_are : frame_words w h binned bytes xs sums output ≡ frame_from (ramp_of (ledger_of w h binned bytes xs sums))
  unfolding frame_words
  words_are =
      rw taken
      ((demands.demand_2 w h binned first_three.0 calls).1.1.1.0 (whole_sums left) output
      (record { brings = refl; taken = read_out_taken; handed_on = rw (feed_taken, start_taken) (tt, refl) }))

  pub frame_claim : coverage_of (view_of (ledger_of w h binned bytes xs sums)) ≡ Ok true → FrameClaim (ramp_of (ledger_of w h binned bytes xs sums)) (Ok tt) (frame_words w h binned bytes xs sums output)
  unfolding frame_words
  frame_claim c =
      rw (taken)
      (rw last_two.1 at ((demands.demand_3.frames w h binned first_three.0 calls).1.1.1.0 (rw answers.1.1.1.0.before c) (whole_sums left) output
      (record { brings = refl; taken = read_out_taken; handed_on = rw (feed_taken, start_taken) (tt, refl) })))

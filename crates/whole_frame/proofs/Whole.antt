-- A ramp that is fed at once.
--     frame_is          the answer of the three, then that of Feed and Read out
--     answer_on, sums_on, words_on     where none of the three refuses, what the two come to on their board
--     then_read_out     after a taken Feed only 15 and 16 of Read out can refuse
--     two_taken         neither of the two refuses
--     frame_feedable, frame_readable, sums_are, words_are     where neither refuses, what the passes need and what they leave
use Prim.Native.Nat.{ℕ, ◌+◌, ◌*◌, ◌≤◌, ◌<◌}
use mathlib.Core.Bool.{Bool, true, not}
use mathlib.Core.List.{List, [], ◌∷◌}
use mathlib.Core.Path.{◌≡◌, refl, ap, ◌∙◌}
use borrow.Author.Tests.{ltb-false}
use native.Mathlib.Omega.{arith}
use lib.Dec.{ltb, eqb}
use lib.IntN.{ℤ, pos}
use lib.ListN.{length}
use Rattle.laws.specs.Lists.{every}
use Rattle.laws.proofs.Tests.{cases}
use Rattle.std.specs.Prelude.{Ok}
use Rattle.checks.specs.declared.Reason.TheVariants.{ReadingsWanted, WordsLength}
use Rattle.checks.specs.Checks.{when, first, verdict}
use Rattle.checks.proofs.Laws.{first_taken, verdict_append, both_taken}
use Rattle.checks.proofs.Search.{found_every}
use Rattle.engines.specs.Engine.{whole_numbers, in_whole_numbers, step_in, possible_in}
use Rattle.engines.proofs.Laws.{stands_for}
use Rattle.sums.specs.Feed.{sums_after}
use Rattle.ramp.specs.SupportRequires.{Feedable}
use Rattle.sums.proofs.Feeding.{feed_length}
use Rattle.sums.proofs.Agrees.{agrees_none, agrees_all}
use Rattle.sums.proofs.HandedOn.{all_possible}
use Rattle.encoding.specs.Frame.{word_count, frame_of}
use Rattle.layout.specs.SupportRequires.{Readable}
use Rattle.board.specs.declared.Board.{Board}
use Rattle.board.specs.Board.{board_area, wanted}
use Rattle.board.specs.RampChecks.{ramp_checks}
use Rattle.operations.specs.Feed.{feed_checks_in, extended, feed_in, feed_of, fed_sums_in, fed_sums}
use Rattle.operations.specs.ReadOut.{read_out_checks_in, read_out_in, read_out_words_in, read_out_words}
use Rattle.board.proofs.Soundness.{sound_parts, sides_of, wanted_nine}
use Rattle.board.proofs.Checked.{ramp_passes}
use Rattle.operations.proofs.FeedChecked.{FeedTaken, feed_taken}
use Rattle.feed.proofs.Feedable.{feedable}
use Rattle.operations.proofs.ReadOutChecked.{read_out_taken}
use Rattle.read_out.proofs.Readable.{readable_frame}
use Rattle.operations.proofs.Laws.{laws}
use Rattle.begin.specs.Begin.{started, begin_of}
use Rattle.begin.proofs.Beginning.{begun_then}
use Rattle.whole_frame.specs.Chain.{read_out_after, frame_answer_on, frame_sums_on, frame_words_on, frame_answer, frame_sums, frame_words}

pub frame_is : (w h : ℕ) (binned : Bool) (bytes : List ℕ) (xs : List ℕ) (sums : List ℤ) (output : List ℕ)
    → let b = (started w h binned bytes).board in
    frame_answer w h binned bytes xs sums output ≡ first (begin_of w h binned bytes).answer (frame_answer_on b xs sums output)
unfolding frame_answer frame_answer_on verdict
frame_is w h binned bytes xs sums output =
    let b = (started w h binned bytes).board in
    let f = (feed_of b xs sums).answer in
    let r = (read_out_after b xs sums output).answer in
    begun_then w h binned bytes (f ∷ r ∷ []) ∙ ap (λ a. first (begin_of w h binned bytes).answer (first f a)) (first_taken r)

-- on the board that Open, Update and Start leave, where none of them refuses
module _ (w h : ℕ) (binned : Bool) (bytes : List ℕ) (b : Board) (begun : ((begin_of w h binned bytes).answer ≡ Ok tt) × ((started w h binned bytes).board ≡ b)) (xs : List ℕ) (sums : List ℤ) (output : List ℕ) where
  pub answer_on : frame_answer_on b xs sums output ≡ frame_answer w h binned bytes xs sums output
  answer_on = rw (frame_is w h binned bytes xs sums output, begun.0, begun.1)

  pub sums_on : frame_sums_on b xs sums output ≡ frame_sums w h binned bytes xs sums output
  unfolding frame_sums_on frame_sums
  sums_on = rw (answer_on, begun.1)

  pub words_on : frame_words_on b xs sums output ≡ frame_words w h binned bytes xs sums output
  unfolding frame_words_on frame_words
  words_on = rw (answer_on, begun.1)

module _ (b : Board) (none : b.fed ≡ 0) (xs : List ℕ) (sums : List ℤ) (taken : verdict (feed_checks_in in_whole_numbers b xs sums) ≡ Ok tt) where
  parts : FeedTaken in_whole_numbers b xs sums
  parts = feed_taken in_whole_numbers b xs sums taken

  -- the sums as Feed leaves them
  left : List ℤ
  left = sums_after b.in_force 0 xs sums

  left_length : length left ≡ length sums
  unfolding left
  left_length = feed_length (pos 0) (step_in in_whole_numbers b.in_force) (length sums) xs 0 sums

  -- where all readings came, every entry is possible for N
  entries_possible : wanted b ≤ length xs → every (possible_in in_whole_numbers b.in_force b.in_force.samples) left ≡ true
  unfolding left
  entries_possible full =
      let s = b.in_force in
      let m = length sums in
      let w = sound_parts b parts.ramp.whole in
      let r = w.in_force in
      let l = parts.ramp.length_is in
      let some : 0 < m = rw l (sides_of b w).some in
      let all : length xs ≡ s.samples * m = rw l (omega (arith, parts.room)) in
      let few : length xs ≤ 9 * m = rw l (omega (arith, parts.room, wanted_nine b w)) in
      let ten : length xs ≤ 10 * m = omega arith in
      let engine = in_whole_numbers in
      let meant = stands_for whole_numbers in
      all_possible engine meant s r m some xs few left
      (agrees_all engine s r m some meant [] xs sums ten (agrees_none engine s r m some sums refl))
      s.samples r.samples_low all

  after : (output : List ℕ) → (read_out_after b xs sums output).answer ≡ verdict (read_out_checks_in in_whole_numbers (extended (length xs) b) left output)
  unfolding feed_in fed_sums_in read_out_in left
  after output = rw (taken, none)

  ramp_after : verdict (ramp_checks (extended (length xs) b) (length left)) ≡ Ok tt
  unfolding feed_in
  ramp_after =
      ramp_passes _ _ (record {
        whole = rw taken at (laws.stays_sound.feed whole_numbers b xs sums) ∙ parts.ramp.whole;
        running = parts.ramp.running;
        length_is = left_length ∙ parts.ramp.length_is;
      })

  pub then_read_out : (output : List ℕ) → (read_out_after b xs sums output).answer
      ≡ first (when (ltb (length xs) (wanted b)) ReadingsWanted) (when (not (eqb (length output) (word_count b.sides.binned (board_area b)))) WordsLength)
  unfolding verdict
  then_read_out output =
      let z : b.fed + length xs ≡ length xs = omega arith in
      rw (after output, verdict_append (ramp_checks (extended (length xs) b) (length left)), ramp_after, z)
      (cases (ltb (length xs) (wanted b))
      (λ e. rw e)
      (λ e. rw (e, found_every (possible_in in_whole_numbers b.in_force b.in_force.samples) left (pos 0) (entries_possible (ltb-false _ _ e))) (first_taken _)))

module _ (b : Board) (xs : List ℕ) (sums : List ℤ) (output : List ℕ) (taken : frame_answer_on b xs sums output ≡ Ok tt) where
  pub two_taken : ((feed_of b xs sums).answer ≡ Ok tt) × ((read_out_after b xs sums output).answer ≡ Ok tt)
  unfolding frame_answer_on
  two_taken = both_taken (feed_of b xs sums).answer _ taken

  feed_passed : verdict (feed_checks_in in_whole_numbers b xs sums) ≡ Ok tt
  unfolding feed_in
  feed_passed = two_taken.0

  -- the sums that Feed leaves
  abbrev summed : List ℤ
  summed = sums_after b.in_force b.fed xs sums

  pub frame_feedable : Feedable in_whole_numbers b.in_force b.fed xs sums
  frame_feedable = feedable in_whole_numbers b xs sums (feed_taken in_whole_numbers b xs sums feed_passed)

  pub sums_are : fed_sums b xs sums ≡ summed
  unfolding fed_sums_in
  sums_are = rw feed_passed

  read_out_passed : verdict (read_out_checks_in in_whole_numbers (extended (length xs) b) summed output) ≡ Ok tt
  unfolding feed_in fed_sums_in read_out_in
  read_out_passed = rw feed_passed at two_taken.1

  pub frame_readable : Readable in_whole_numbers b.sides.width b.sides.height b.sides.binned b.in_force.truncation summed output
  frame_readable = readable_frame in_whole_numbers (extended (length xs) b) summed output (read_out_taken in_whole_numbers (extended (length xs) b) summed output read_out_passed)

  pub words_are : read_out_words (feed_of b xs sums).board (fed_sums b xs sums) output ≡ frame_of b.sides.width b.sides.binned b.in_force.truncation summed
  unfolding feed_in fed_sums_in read_out_words_in
  words_are = rw (feed_passed, read_out_passed)

-- Frames that are refused before all of their readings, or of their record, matter.
--     refused_last                    what checks that end in a refusal leave
--     overlong_checks, overlong_answer_lem    a record that is too long, with any readings
--     enough_answer, enough_words     of readings, more than any ramp wants are enough: Feed answers 12 before it looks at them
use Prim.Native.Nat.{ℕ, ◌+◌, ◌*◌, ◌<◌}
use mathlib.Core.Bool.{Bool}
use mathlib.Core.List.{List, [], ◌∷◌, ◌++◌}
use mathlib.Core.Path.{◌≡◌, refl, sym, ap, ◌∙◌}
use borrow.Author.Tests.{ltb-true, ltb-false, lt-ltb}
use native.Mathlib.Omega.{arith}
use lib.Dec.{ltb}
use lib.IntN.{ℤ}
use lib.ListN.{length, take}
use lib.Seq.{take_all, length-take-le}
use Rattle.laws.proofs.Tests.{cases}
use Rattle.checks.specs.declared.Reason.TheVariants.{UnknownField, RecordLength, TooManyReadings}
use Rattle.checks.specs.declared.Refusal.{Refusal}
use Rattle.std.specs.Prelude.{Ok, Err}
use Rattle.checks.specs.Checks.{Answer, refusal, when, first, verdict, by_answer}
use Rattle.checks.proofs.Laws.{first_taken, verdict_append}
use Rattle.record.specs.Record.{map_of, unknown_bit}
use Rattle.update.proofs.Overlong.{longest, overlong}
use Rattle.board.specs.declared.Board.{Board}
use Rattle.board.specs.Board.{board_area, wanted, unsound}
use Rattle.board.specs.Open.{open_of}
use Rattle.engines.specs.Engine.{in_whole_numbers}
use Rattle.operations.specs.Update.{update_of}
use Rattle.board.specs.RampChecks.{ramp_checks}
use Rattle.operations.specs.Feed.{reading_checks_in, feed_checks_in, feed_in}
use Rattle.board.proofs.Soundness.{sound_parts, wanted_nine}
use Rattle.board.proofs.Checked.{ramp_taken}
use Rattle.begin.specs.Begin.{updated, started}
use Rattle.begin.proofs.Beginning.{started_area}
use Rattle.whole_frame.specs.Chain.{frame_answer, frame_words}

-- what Feed answers to too many readings
crowded : (b : Board) (xs : List ℕ) (sums : List ℤ) → 9 * board_area b < length xs
    → verdict (feed_checks_in in_whole_numbers b xs sums) ≡ first (verdict (ramp_checks b (length sums))) (Err (refusal TooManyReadings))
unfolding verdict
crowded b xs sums h = verdict_append (ramp_checks b (length sums)) (reading_checks_in in_whole_numbers b xs sums) ∙ by (verdict (ramp_checks b (length sums))) refl
  where
    by : (a : Answer) → verdict (ramp_checks b (length sums)) ≡ a → first a (verdict (reading_checks_in in_whole_numbers b xs sums)) ≡ first a (Err (refusal TooManyReadings))
    by (Ok tt) e = rw (lt-ltb (wanted b) (b.fed + length xs) (omega (arith, wanted_nine b (sound_parts b (ramp_taken b (length sums) e).whole))))
    by (Err r) e = refl

pub refused_last : {A : Type 0} (l : List Answer) (r : Refusal) (x y : A) → by_answer (verdict (l ++ Err r ∷ [])) x y ≡ y
unfolding verdict
refused_last [] r x y = refl
refused_last ((Ok tt) ∷ l) r x y = refused_last l r x y
refused_last (Err s ∷ l) r x y = refl

-- checks that end in a refusal: what comes after them does not matter
ends : (l : List Answer) (r : Refusal) (rest : Answer) → first (verdict (l ++ Err r ∷ [])) rest ≡ verdict (l ++ Err r ∷ [])
unfolding verdict
ends [] r rest = refl
ends ((Ok tt) ∷ l) r rest = ends l r rest
ends (Err s ∷ l) r rest = refl

-- the checks up to 4 of a record that is too long
abbrev pub overlong_checks : ℕ → ℕ → Bool → ℕ → List Answer
overlong_checks w h binned map = (open_of w h binned).answer ∷ unsound (open_of w h binned).board ∷ when (unknown_bit map) UnknownField ∷ []

module _ (w h : ℕ) (binned : Bool) (bytes : List ℕ) (sums : List ℤ) (output : List ℕ) where
  -- the checks up to Feed's 12
  before : List Answer
  before =
      (open_of w h binned).answer
      ∷ (updated w h binned bytes).answer
      ∷ (started w h binned bytes).answer
      ∷ verdict (ramp_checks (started w h binned bytes).board (length sums))
      ∷ []

  crowded_answer : (xs : List ℕ) → 9 * (w * h) < length xs → frame_answer w h binned bytes xs sums output ≡ verdict (before ++ Err (refusal TooManyReadings) ∷ [])
  unfolding before frame_answer feed_in verdict
  crowded_answer xs k =
      let b = (started w h binned bytes).board in
      rw (crowded b xs sums (omega (arith, started_area w h binned bytes)), ends (verdict (ramp_checks b (length sums)) ∷ []) (refusal TooManyReadings))

  crowded_words : (xs : List ℕ) → 9 * (w * h) < length xs → frame_words w h binned bytes xs sums output ≡ output
  unfolding frame_words
  crowded_words xs k = rw (crowded_answer xs k) (refused_last before (refusal TooManyReadings) _ _)

  update_overlong : longest < length bytes → (updated w h binned bytes).answer ≡ verdict (unsound (open_of w h binned).board ∷ when (unknown_bit (map_of bytes)) UnknownField ∷ Err (refusal RecordLength) ∷ [])
  unfolding update_of verdict
  update_overlong k = ap (first (unsound (open_of w h binned).board)) (first_taken _ ∙ overlong (open_of w h binned).board.waiting bytes k)

  pub overlong_answer_lem : longest < length bytes → (xs : List ℕ) → frame_answer w h binned bytes xs sums output ≡ verdict (overlong_checks w h binned (map_of bytes) ++ Err (refusal RecordLength) ∷ [])
  unfolding frame_answer verdict
  overlong_answer_lem k xs =
      rw (update_overlong k)
      (ap (first (open_of w h binned).answer) (ends (unsound (open_of w h binned).board ∷ when (unknown_bit (map_of bytes)) UnknownField ∷ []) (refusal RecordLength) _))

  module _ (n : ℕ) (many : 9 * (w * h) < n) (xs : List ℕ) where
    -- the first n are all, or too many
    either : {A : Type 0} (f : List ℕ → A) (a : A) → ((ys : List ℕ) → 9 * (w * h) < length ys → f ys ≡ a) → f (take n xs) ≡ f xs
    either f a same =
        cases (ltb n (length xs))
        (λ e. let l : n < length xs = ltb-true _ _ e in same (take n xs) (rw (length-take-le n xs (omega arith)) many) ∙ sym (same xs (omega arith)))
        (λ e. rw (take_all n xs (ltb-false _ _ e)))

    pub enough_answer : frame_answer w h binned bytes (take n xs) sums output ≡ frame_answer w h binned bytes xs sums output
    enough_answer = either (λ ys. frame_answer w h binned bytes ys sums output) _ crowded_answer

    pub enough_words : frame_words w h binned bytes (take n xs) sums output ≡ frame_words w h binned bytes xs sums output
    enough_words = either (λ ys. frame_words w h binned bytes ys sums output) _ crowded_words

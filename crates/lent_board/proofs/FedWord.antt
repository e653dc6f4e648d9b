-- A taken Feed on a board in lent memory changes the word of the readings fed, and no other.
--     asked       what is written has a word
--     fed_word    the words that it leaves
use Prim.Native.Nat.{ℕ, ◌+◌, ◌<◌, ◌^◌}
use mathlib.Core.Bool.{true}
use mathlib.Core.List.{List}
use mathlib.Core.Path.{◌≡◌, sym, ap, ◌∙◌}
use native.Mathlib.Omega.{arith}
use lib.IntN.{ℤ, pos}
use lib.ListN.{length, set}
use Rattle.std.specs.Prelude.{Ok}
use Rattle.checks.specs.Checks.{Answer, verdict}
use Rattle.board.specs.declared.Board.{Board}
use Rattle.board.specs.Board.{sound}
use Rattle.board.proofs.Soundness.{sound_parts, sides_of, wanted_nine}
use Rattle.engines.specs.Engine.{Engine}
use Rattle.operations.specs.Feed.{feed_checks_in, feed_in}
use Rattle.operations.proofs.Laws.{feed_sound, feed_99}
use Rattle.board_words.specs.Words.{board_length, words_of, held}
use Rattle.board_words.proofs.Laws as WordsLaws
use Rattle.lent_board.specs.Lent.{words_left}
use Rattle.lent_board.proofs.Kept.{kept}

-- b is the board that the Feed gets, new the one that it leaves
module _ {E : Type 0} (engine : Engine E) (words : List ℤ) (b new : Board) (readings : List ℕ) (sums : List E) (answer : Answer) (holds : b ≡ held words)
    (says : answer ≡ (feed_in engine b readings sums).answer) (leaves : new ≡ (feed_in engine b readings sums).board) (taken : answer ≡ Ok tt) where
  stays : sound (feed_in engine b readings sums).board ≡ sound b
  stays = feed_sound engine b readings sums

  both : (length words ≡ board_length) × (sound new ≡ true)
  both = kept words b new (feed_in engine b readings sums) answer holds says leaves taken stays (λ s. (feed_99 engine b readings sums s).0)

  pub asked : (length words ≡ board_length) × (new.fed < 2 ^ 63)
  asked = let p = sound_parts new both.1 in (both.0, omega (arith, p.fed, wanted_nine new p, (sides_of new p).few))

  whole : words ≡ words_of b
  whole = rw holds ((WordsLaws.laws).no_other words (rw holds at (sym stays ∙ (rw leaves at both.1))))

  pub fed_word : set words 4 (pos new.fed) ≡ words_left (feed_in engine (held words) readings sums) words
  unfolding feed_in
  fed_word =
      let passed : verdict (feed_checks_in engine b readings sums) ≡ Ok tt = sym says ∙ taken in
      rw (← holds, leaves, passed) (ap (λ l. set l 4 (pos (b.fed + length readings))) whole)

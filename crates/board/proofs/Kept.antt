-- What an operation keeps, taken or refused.
--     stays                       soundness
--     ended_sound                 of a ramp that ends
--     same_settings, same_sides   parts of the board
use mathlib.Core.Bool.{not}
use mathlib.Core.List.{List, ◌∷◌}
use mathlib.Core.Path.{◌≡◌, refl, sym, ◌∙◌}
use borrow.Author.Tests.{not-false}
use native.Mathlib.Omega.{arith}
use Rattle.std.specs.Prelude.{Ok, Err}
use Rattle.checks.specs.Checks.{Answer, verdict, by_answer}
use Rattle.checks.proofs.Laws.{both_taken, when_taken}
use Rattle.board.specs.declared.Board.{Board}
use Rattle.board.specs.Board.{sound, unsound, ended}
use Rattle.board.specs.Kept.{SameSides, SameSettings}
use Rattle.board.proofs.Soundness.{Sound, sound_parts, sound_whole}

-- checks that begin with 99: where what a taken call leaves is sound, so is what the call leaves of a sound board, and only of one
module _ (b new : Board) (rest : List Answer) (keep : Sound b → verdict (unsound b ∷ rest) ≡ Ok tt → Sound new) where
  pub stays : sound (by_answer (verdict (unsound b ∷ rest)) new b) ≡ sound b
  unfolding verdict
  stays = by (verdict (unsound b ∷ rest)) refl
    where
      by : (a : Answer) → verdict (unsound b ∷ rest) ≡ a → sound (by_answer a new b) ≡ sound b
      by (Ok tt) e =
          let s = not-false _ (when_taken (not (sound b)) _ (both_taken (unsound b) (verdict rest) e).0) in
          sound_whole new (keep (sound_parts b s) e) ∙ sym s
      by (Err r) e = refl

pub ended_sound : (b : Board) → Sound b → Sound (ended b)
ended_sound b s = record { sides = s.sides; waiting = s.waiting; in_force = s.in_force; fed = omega arith; idle = refl }

-- what holds of the board that a taken operation leaves, and of the board as it was
kept : (P : Board → Type 0) (a : Answer) (old new : Board) → P old → P new → P (by_answer a new old)
kept P (Ok tt) old new o n = n
kept P (Err r) old new o n = o

pub same_settings : (a : Answer) (old new : Board) → SameSettings old new → SameSettings old (by_answer a new old)
same_settings a old new e = kept (SameSettings old) a old new (refl, refl) e

pub same_sides : (a : Answer) (old new : Board) → SameSides old new → SameSides old (by_answer a new old)
same_sides a old new e = kept (SameSides old) a old new refl e

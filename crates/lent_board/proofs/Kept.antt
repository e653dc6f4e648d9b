-- What a taken operation on a board in lent memory leaves can be written: the words are as many as a board takes, and the board is sound.
use Prim.Native.Nat.{ℕ}
use mathlib.Core.Bool.{Bool, true, false, not}
use mathlib.Core.List.{List}
use mathlib.Core.Path.{◌≡◌, refl, sym, ap, ◌∙◌}
use lib.IntN.{ℤ}
use lib.ListN.{length}
use Rattle.std.specs.Prelude.{Result, Ok, Err, is_ok}
use Rattle.laws.specs.Lists.{each}
use Rattle.laws.proofs.Tests.{cases, clash}
use borrow.Author.Tests.{eqb-true, not-false}
use lib.Dec.{eqb}
use Rattle.checks.specs.declared.Refusal.{Refusal}
use Rattle.checks.specs.Checks.{Answer, refusal, when, or_refused}
use Rattle.checks.proofs.Laws.{when_taken}
use Rattle.board.specs.Open.{open_of}
use Rattle.board.proofs.Laws as BoardLaws
use Rattle.begin.proofs.Beginning.{ok_parts}
use Rattle.checks.specs.declared.Reason.TheVariants.{UnsoundBoard}
use Rattle.board.specs.declared.Board.{Board}
use Rattle.board.specs.Board.{Outcome, sound, unsound}
use Rattle.board.specs.Kept.{refused99}
use Rattle.board_words.specs.Words.{board_length, words_of, holds_board, held}
use Rattle.board_words.proofs.Laws as WordsLaws
use Rattle.board_words.proofs.Laws.{none_unsound}
use Rattle.operations.specs.Laws.{Gives99}
use Rattle.operations.proofs.Laws as OperationLaws

-- the words of every board are as many as a board takes
as_many : (b : Board) → length (words_of b) ≡ board_length
unfolding each
as_many b = refl

-- a board that isn't sound is refused with 99
pub unsound_99 : (b : Board) (answer : Answer) (r : Refusal) → answer ≡ unsound b → answer ≡ Err r → (r ≡ refusal UnsoundBoard) × (sound b ≡ false)
unsound_99 b answer r asked was =
    cases (sound b)
    (λ t. clash (ap is_ok (sym (rw t at asked) ∙ was)))
    (λ f. let e : Err (refusal UnsoundBoard) ≡ Err r = sym (rw f at asked) ∙ was in (cc, f))

-- and so is the board that stands for words which hold none
pub none_99 : (words : List ℤ) (answer : Answer) (r : Refusal) → answer ≡ when (not (holds_board words)) UnsoundBoard → answer ≡ Err r
    → (r ≡ refusal UnsoundBoard) × (sound (held words) ≡ false)
unfolding held
none_99 words answer r asked was =
    cases (holds_board words)
    (λ t. clash (ap is_ok (sym (rw t at asked) ∙ was)))
    (λ f. unsound_99 (held words) answer r (rw (f, none_unsound) (rw f at asked)) was)

-- every operation gives 99 then
pub none_gives_99 : (words : List ℤ) (answer : Answer) (r : Refusal) → answer ≡ when (not (holds_board words)) UnsoundBoard → answer ≡ Err r
    → (r ≡ refusal UnsoundBoard) × Gives99 (held words)
none_gives_99 words answer r asked was = let p = none_99 words answer r asked was in (p.0, (OperationLaws.laws).unsound_99 (held words) p.1)

-- of any operation that keeps a sound board sound, and refuses any other with 99: b is the board that it gets, new the one that it leaves, o what its definition says
pub kept : (words : List ℤ) (b new : Board) (o : Outcome) (answer : Answer) → b ≡ held words → answer ≡ o.answer → new ≡ o.board → answer ≡ Ok tt
    → sound o.board ≡ sound b → (sound b ≡ false → o ≡ refused99 b)
    → (length words ≡ board_length) × (sound new ≡ true)
kept words b new o answer holds says leaves taken stays refused =
    cases (sound b)
    (λ s. (ap length ((WordsLaws.laws).no_other words (rw holds at s)) ∙ as_many (held words), rw leaves (stays ∙ s)))
    (λ s. clash (ap is_ok (sym taken ∙ says ∙ ap (λ (x : Outcome). x.answer) (refused s))))

-- Open found as many words, and gave a sound board
pub opened_lem : (words : List ℤ) (w h : ℕ) (binned : Bool) (b : Board) (room : Answer) (opening : Result Board Refusal)
    → room ≡ when (not (eqb (length words) board_length)) UnsoundBoard → room ≡ Ok tt
    → opening ≡ or_refused (open_of w h binned).answer (open_of w h binned).board → opening ≡ Ok b
    → (length words ≡ board_length) × (sound b ≡ true)
opened_lem words w h binned b room opening asked passed opens gave =
    let p = ok_parts (open_of w h binned).answer (open_of w h binned).board b (sym gave ∙ opens) in (
      eqb-true _ _ (not-false _ (when_taken _ _ (sym asked ∙ passed))),
      rw (← p.1) ((BoardLaws.laws).opened_sound w h binned p.0),
    )

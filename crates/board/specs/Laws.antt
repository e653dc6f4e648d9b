-- What must be true of Open, beside the contract. `proofs/Laws.antt` shows it.
use Rattle.std.specs.Prelude.{ℕ, Bool, true, false, ◌≡◌, Ok, Err}
use Rattle.checks.specs.declared.Reason.TheVariants.{BadSides}
use Rattle.checks.specs.declared.Refusal.{Refusal}
use Rattle.checks.specs.Checks.{refusal}
use Rattle.board.specs.declared.Board.{Board}
use Rattle.board.specs.Board.{sides_taken, sound, opened, leaves}
use Rattle.board.specs.Open.{no_board, open_of}

pub record BoardLaws : Type 0 where
  -- sides that are taken give a board with the defaults; any other are refused with 1
  pub open_taken : (w h : ℕ) (binned : Bool) → sides_taken w h binned ≡ true → open_of w h binned ≡ record { answer = Ok tt; board = opened w h binned }
  pub open_refused : (w h : ℕ) (binned : Bool) → sides_taken w h binned ≡ false → (open_of w h binned).answer ≡ Err (refusal BadSides)
  -- a refused one gives no board
  pub open_gives_none : (w h : ℕ) (binned : Bool) → sides_taken w h binned ≡ false → (open_of w h binned).board ≡ no_board
  -- a taken Open gives a sound board, a refused one a board that isn't
  pub opened_sound : (w h : ℕ) (binned : Bool) → (open_of w h binned).answer ≡ Ok tt → sound (open_of w h binned).board ≡ true
  pub refused_unsound : (w h : ℕ) (binned : Bool) (r : Refusal) → (open_of w h binned).answer ≡ Err r → sound (open_of w h binned).board ≡ false
  -- of any operation: taken, it leaves the new board; refused, the board as it was
  pub taken_leaves : (new old : Board) → (leaves (Ok tt) new old).board ≡ new
  pub refused_leaves : (r : Refusal) (new old : Board) → (leaves (Err r) new old).board ≡ old

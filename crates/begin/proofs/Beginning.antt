-- Open, Update and Start.
--     begun_then       the answer of the three, then the other checks
--     begun_sound, begun_sides     where none of the three refuses, the board is sound, and Open takes its sides
--     started_unfed    a board that was opened, updated and started, or refused on the way, has nothing fed
--     started_area     and no more pixels than Open was asked for
--     begun_is, begun_refused     what `begin` answers
--     begun_on                    and where Open is taken, what `begin_on` answers
--     sides_named, of_named       the board that the three leave has the sides that Open was asked for
use Prim.Native.Nat.{ℕ, ◌*◌, ◌≤◌}
use mathlib.Core.Bool.{Bool, true}
use mathlib.Core.List.{List, [], ◌∷◌}
use mathlib.Core.Path.{◌≡◌, refl, ◌∙◌}
use native.Mathlib.Omega.{arith}
use Rattle.std.specs.Prelude.{Ok, Err}
use Rattle.checks.specs.declared.Refusal.{Refusal}
use Rattle.checks.specs.Checks.{Answer, first, verdict, by_answer, or_refused}
use Rattle.checks.proofs.Laws.{verdict_append, both_taken}
use Rattle.board.specs.declared.Board.{Board}
use Rattle.sides.specs.declared.Sides.{Sides}
use Rattle.board.specs.Board.{board_area, of_taken_sides, sides_taken, sound, opened}
use Rattle.board.specs.Open.{no_board, open_of}
use Rattle.operations.specs.Update.{update_of}
use Rattle.operations.specs.Ramp.{start_of}
use Rattle.board.proofs.Soundness.{sound_parts}
use Rattle.board.proofs.Laws as BoardLaws
use Rattle.operations.proofs.Laws as OperationLaws
use Rattle.begin.specs.Begin.{updated, started, begin_on, begin_of}

unfed : (a : Answer) (new old : Board) → new.fed ≡ 0 → old.fed ≡ 0 → (by_answer a new old).fed ≡ 0
unfed (Ok tt) new old p q = p
unfed (Err r) new old p q = q

within : (a : Answer) (new old : Board) (m : ℕ) → board_area new ≤ m → board_area old ≤ m → board_area (by_answer a new old) ≤ m
within (Ok tt) new old m p q = p
within (Err r) new old m p q = q

module _ (w h : ℕ) (binned : Bool) (bytes : List ℕ) where
  pub begun_then : (l : List Answer)
      → verdict ((open_of w h binned).answer ∷ (updated w h binned bytes).answer ∷ (started w h binned bytes).answer ∷ l) ≡ first (begin_of w h binned bytes).answer (verdict l)
  begun_then l = verdict_append ((open_of w h binned).answer ∷ (updated w h binned bytes).answer ∷ (started w h binned bytes).answer ∷ []) l

  pub begun_sound : (begin_of w h binned bytes).answer ≡ Ok tt → sound (started w h binned bytes).board ≡ true
  unfolding verdict
  begun_sound t =
      (OperationLaws.laws).stays_sound.start (updated w h binned bytes).board
      ∙ (OperationLaws.laws).stays_sound.update (open_of w h binned).board bytes
      ∙ (BoardLaws.laws).opened_sound w h binned (both_taken (open_of w h binned).answer _ t).0

  pub begun_sides : (begin_of w h binned bytes).answer ≡ Ok tt
      → let b = (started w h binned bytes).board in sides_taken b.sides.width b.sides.height b.sides.binned ≡ true
  begun_sides t = (sound_parts _ (begun_sound t)).sides

  pub started_unfed : (started w h binned bytes).board.fed ≡ 0
  unfolding open_of update_of start_of
  started_unfed =
      let o = unfed (open_of w h binned).answer _ _ refl refl in
      unfed (started w h binned bytes).answer _ _ refl (unfed (update_of (open_of w h binned).board bytes).answer _ _ o o)

  pub started_area : board_area (started w h binned bytes).board ≤ w * h
  unfolding open_of update_of start_of
  started_area =
      let o = within (open_of w h binned).answer (opened w h binned) no_board (w * h) (omega arith) (omega arith) in
      let u = within (updated w h binned bytes).answer _ _ (w * h) o o in
      within (started w h binned bytes).answer _ _ (w * h) u u

pub ok_parts : (a : Answer) (x b : Board) → Ok b ≡ or_refused a x → (a ≡ Ok tt) × (x ≡ b)
ok_parts (Ok tt) x b e = (refl, cc)
ok_parts (Err r) x b e = cc

pub err_part : (a : Answer) (x : Board) (r : Refusal) → Err r ≡ or_refused a x → a ≡ Err r
err_part (Ok tt) x r e = cc
err_part (Err s) x r e = cc

module _ (w h : ℕ) (binned : Bool) (bytes : List ℕ) where
  pub begun_is : (b : Board) → Ok b ≡ or_refused (begin_of w h binned bytes).answer (begin_of w h binned bytes).board
      → ((begin_of w h binned bytes).answer ≡ Ok tt) × ((started w h binned bytes).board ≡ b)
  begun_is b e = ok_parts (begin_of w h binned bytes).answer (started w h binned bytes).board b e

  pub begun_refused : (r : Refusal) → Err r ≡ or_refused (begin_of w h binned bytes).answer (begin_of w h binned bytes).board → (begin_of w h binned bytes).answer ≡ Err r
  begun_refused r e = err_part (begin_of w h binned bytes).answer (started w h binned bytes).board r e

  -- after a taken Open
  pub begun_on : (open_of w h binned).answer ≡ Ok tt → (begin_of w h binned bytes).answer ≡ (begin_on (open_of w h binned).board bytes).answer
  unfolding verdict
  begun_on t = rw t

  module _ (b : Board) (begun : ((begin_of w h binned bytes).answer ≡ Ok tt) × ((started w h binned bytes).board ≡ b)) where
    pub sides_named : b.sides ≡ record { width = w; height = h; binned = binned }
    unfolding open_of verdict
    sides_named =
        let stay = (OperationLaws.laws).sides_stay in
        let o : (open_of w h binned).answer ≡ Ok tt = (both_taken (open_of w h binned).answer _ begun.0).0 in
        let of_open : (open_of w h binned).board.sides ≡ record { width = w; height = h; binned = binned } = rw o refl in
        rw (← begun.1) (stay.start (updated w h binned bytes).board ∙ stay.update (open_of w h binned).board bytes ∙ of_open)

    pub of_named : (f : Sides → ℕ) → of_taken_sides b (f b.sides) ≡ f (record { width = w; height = h; binned = binned })
    of_named f =
        let taken : sides_taken b.sides.width b.sides.height b.sides.binned ≡ true = rw begun.1 at (begun_sides w h binned bytes begun.0) in
        rw (taken, sides_named) refl

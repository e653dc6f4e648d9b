-- The laws of Open.
use Prim.Native.Nat.{ℕ}
use mathlib.Core.Bool.{Bool, true, false, not}
use mathlib.Core.Path.{◌≡◌, refl, sym, ◌∙◌}
use borrow.Author.Tests.{not-false}
use native.Mathlib.Omega.{arith}
use Rattle.settings.proofs.Parts.{in_range_parts}
use Rattle.settings.proofs.Laws as SettingsLaws
use Rattle.checks.specs.declared.Reason.{Reason}
use Rattle.checks.specs.declared.Refusal.{Refusal}
use Rattle.std.specs.Prelude.{Ok, Err}
use Rattle.checks.specs.Checks.{when, verdict, by_answer}
use Rattle.checks.proofs.Laws.{first_taken, both_taken, when_taken}
use Rattle.board.specs.Board.{sides_taken, sound, opened}
use Rattle.board.specs.Open.{open_of}
use Rattle.board.specs.Laws.{BoardLaws}
use Rattle.board.proofs.Soundness.{sound_whole}

module _ (w h : ℕ) (binned : Bool) where
  open_sound : (n : Reason) (t : Bool) → sides_taken w h binned ≡ t → sound (by_answer (when (not t) n) (opened w h binned) (opened 0 0 false)) ≡ t
  unfolding sound sides_taken
  open_sound n true e =
      let d = in_range_parts _ (SettingsLaws.laws).defaults_in_range in
      sound_whole (opened w h binned) (record { sides = e; waiting = d; in_force = d; fed = omega arith; idle = refl })
  open_sound n false e = refl

  open_is : sound (open_of w h binned).board ≡ sides_taken w h binned
  unfolding open_of verdict
  open_is = rw (first_taken) (open_sound _ (sides_taken w h binned) refl)

  opened_sound : (open_of w h binned).answer ≡ Ok tt → sound (open_of w h binned).board ≡ true
  unfolding open_of verdict
  opened_sound e = open_is ∙ not-false _ (when_taken _ _ (both_taken (when (not (sides_taken w h binned)) _) (Ok tt) e).0)

  refused_unsound : (r : Refusal) → (open_of w h binned).answer ≡ Err r → sound (open_of w h binned).board ≡ false
  unfolding open_of verdict
  refused_unsound r e = open_is ∙ by _ (sides_taken w h binned) (sym (first_taken (when (not (sides_taken w h binned)) _)) ∙ e)
    where
      by : (n : Reason) (t : Bool) → when (not t) n ≡ Err r → t ≡ false
      by n true q = cc
      by n false q = refl

pub laws : BoardLaws
unfolding open_of verdict
laws = record {
  open_taken = λ w h binned e. rw e;
  open_refused = λ w h binned e. rw e;
  open_gives_none = λ w h binned e. rw e;
  taken_leaves = λ new old. refl;
  refused_leaves = λ r new old. refl;
  opened_sound = opened_sound;
  refused_unsound = refused_unsound;
}

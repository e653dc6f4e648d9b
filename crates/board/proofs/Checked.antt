-- What the checks that Feed and Read out begin with have shown, and back.
--     in_order                            the checks one after the other
--     RampTaken, ramp_taken, ramp_passes  where all are taken
use Prim.Native.Nat.{ℕ}
use mathlib.Core.Bool.{true, not}
use mathlib.Core.List.{List, [], ◌∷◌, ◌++◌}
use mathlib.Core.Path.{◌≡◌, sym, ◌∙◌}
use borrow.Author.Tests.{eqb-true, eq-eqb, not-false}
use lib.Dec.{eqb}
use Rattle.std.specs.Prelude.{Ok}
use Rattle.laws.proofs.Tests.{cases}
use Rattle.checks.specs.declared.Reason.TheVariants.{NoRamp, SumsLength}
use Rattle.checks.specs.Checks.{Answer, when, first, verdict}
use Rattle.checks.proofs.Laws.{first_taken, verdict_append, both_taken, when_taken}
use Rattle.board.specs.declared.Board.{Board}
use Rattle.board.specs.Board.{board_area, of_taken_sides, sound, unsound}
use Rattle.board.specs.RampChecks.{ramp_checks}
use Rattle.board.proofs.Soundness.{sound_parts}

-- of a board that isn't sound, the ramp and the number of sums don't matter
pub in_order : (b : Board) (n : ℕ) → first (unsound b) (first (when (not b.running) NoRamp) (when (not (eqb n (of_taken_sides b (board_area b)))) SumsLength)) ≡ verdict (ramp_checks b n)
unfolding verdict
in_order b n = cases (sound b) (λ s. rw (s, (sound_parts b s).sides, first_taken)) (λ s. rw s)

pub record RampTaken (b : Board) (sumsLength : ℕ) : Type 0 where
  pub whole : sound b ≡ true
  pub running : b.running ≡ true
  pub length_is : sumsLength ≡ board_area b

pub ramp_taken : (b : Board) (n : ℕ) → verdict (ramp_checks b n) ≡ Ok tt → RampTaken b n
unfolding verdict
ramp_taken b n e =
    let p = both_taken _ _ e in
    let q = both_taken _ _ p.1 in
    let r = both_taken _ (Ok tt) q.1 in
    record {
      whole = not-false _ (when_taken _ _ p.0);
      running = not-false _ (when_taken _ _ q.0);
      length_is = eqb-true _ _ (not-false _ (when_taken _ _ r.0));
    }

pub ramp_passes : (b : Board) (n : ℕ) → RampTaken b n → verdict (ramp_checks b n) ≡ Ok tt
unfolding verdict
ramp_passes b n t = rw (t.whole, t.running, eq-eqb _ _ t.length_is)

-- the checks of a ramp and three more, all taken
pub all_taken : (ramp : List Answer) (x y z : Answer) → verdict (ramp ++ (x ∷ y ∷ z ∷ [])) ≡ Ok tt → (verdict ramp ≡ Ok tt) × (x ≡ Ok tt) × (y ≡ Ok tt) × (z ≡ Ok tt)
unfolding verdict
all_taken ramp x y z e =
    let a = both_taken (verdict ramp) (verdict (x ∷ y ∷ z ∷ [])) (sym (verdict_append ramp (x ∷ y ∷ z ∷ [])) ∙ e) in
    let p = both_taken x _ a.1 in
    let q = both_taken y _ p.1 in
    (a.0, p.0, q.0, (both_taken z (Ok tt) q.1).0)

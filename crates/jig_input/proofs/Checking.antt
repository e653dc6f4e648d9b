-- The checks of an input.
--     input_checks_lem     one after the other, 1 as Open gives it
--     sides_pass, open_taken     what 1 has shown
--     few_pixels           what 18 has shown
--     taken_few            and what 1 has
use Prim.Native.Nat.{ℕ, ◌+◌, ◌*◌, ◌%◌, ◌≤◌}
use mathlib.Core.Bool.{Bool, not}
use mathlib.Core.List.{List, [], ◌∷◌}
use mathlib.Core.Path.{◌≡◌, ◌∙◌}
use borrow.Author.Tests.{ltb-false, not-false}
use native.Mathlib.Omega.{arith}
use lib.Dec.{ltb, eqb}
use Rattle.std.specs.Prelude.{Ok}
use Rattle.checks.specs.declared.Reason.TheVariants.{BadSides, BadInput, TooManyPixels}
use Rattle.checks.specs.Checks.{Answer, when, first, verdict}
use Rattle.checks.proofs.Laws.{first_taken, verdict_rest, both_taken, when_taken}
use Rattle.sides.specs.Sides.{max_area, sides_taken}
use Rattle.sides.proofs.Parts.{sides_parts}
use Rattle.board.specs.Open.{open_of}
use Rattle.jig_input.specs.Input.{width_of, height_of, binned_byte, is_binned, readings_at, max_pixels}
use Rattle.jig_input.specs.Checks.{job_area, input_checks}

head_taken : (a : Answer) (l : List Answer) → verdict (a ∷ l) ≡ Ok tt → a ≡ Ok tt
unfolding verdict
head_taken a l e = (both_taken a (verdict l) e).0

-- a sum is odd exactly where one part is odd and the other even
parity : (a b : ℕ) → (a % 2 + b % 2) % 2 ≡ (a + b) % 2
parity a b = omega arith

module _ (bytes : List ℕ) (total : ℕ) where
  pub input_checks_lem : verdict (input_checks bytes total)
      ≡ first (when (ltb total 6) BadInput)
      (first (when (ltb 1 (binned_byte bytes)) BadInput)
      (first (when (ltb total (readings_at bytes)) BadInput)
      (first (when (eqb ((total % 2 + readings_at bytes % 2) % 2) 1) BadInput)
      (first (open_of (width_of bytes) (height_of bytes) (is_binned bytes)).answer (when (ltb max_pixels (job_area bytes)) TooManyPixels)))))
  unfolding verdict open_of
  input_checks_lem =
      rw (
        parity total (readings_at bytes),
        first_taken (when (ltb max_pixels (job_area bytes)) TooManyPixels),
        first_taken (when (not (sides_taken (width_of bytes) (height_of bytes) (is_binned bytes))) BadSides),
      )

  pub sides_pass : verdict (input_checks bytes total) ≡ Ok tt → when (not (sides_taken (width_of bytes) (height_of bytes) (is_binned bytes))) BadSides ≡ Ok tt
  sides_pass e = head_taken _ _ (verdict_rest _ _ (verdict_rest _ _ (verdict_rest _ _ (verdict_rest _ _ e))))

  pub open_taken : verdict (input_checks bytes total) ≡ Ok tt → (open_of (width_of bytes) (height_of bytes) (is_binned bytes)).answer ≡ Ok tt
  unfolding open_of verdict
  open_taken e = first_taken (when (not (sides_taken (width_of bytes) (height_of bytes) (is_binned bytes))) BadSides) ∙ sides_pass e

  pub few_pixels : verdict (input_checks bytes total) ≡ Ok tt → job_area bytes ≤ max_pixels
  few_pixels e = ltb-false max_pixels (job_area bytes) (when_taken (ltb max_pixels (job_area bytes)) TooManyPixels (head_taken _ [] (verdict_rest _ _ (verdict_rest _ _ (verdict_rest _ _ (verdict_rest _ _ (verdict_rest _ _ e)))))))

-- sides that 1 takes
pub taken_few : (w h : ℕ) (binned : Bool) → when (not (sides_taken w h binned)) BadSides ≡ Ok tt → w * h ≤ max_area
taken_few w h binned e = (sides_parts w h binned (not-false _ (when_taken _ BadSides e))).few

-- The table of known ramps, row by row, by computation.
use mathlib.Core.Bool.{false}
use mathlib.Core.Logic.{⊎_elim, inl, inr}
use mathlib.Core.Path.{◌≡◌, refl, ap}
use borrow.Author.Tests.{eqb-false}
use lib.Dec.{eqb}
use Rattle.std.specs.Prelude.{Err}
use Rattle.laws.specs.Lists.{every, total}
use Rattle.laws.specs.Numbers.{sum_to}
use Rattle.laws.proofs.Tables.{◌then◌}
use Rattle.laws.proofs.Tests.{clash}
use Rattle.checks.specs.declared.Reason.{Reason}
use Rattle.checks.specs.declared.Reason.TheVariants.{BadSides, TooManyReadings, ReadingsWanted, UnsoundBoard}
use Rattle.checks.specs.Plain.{number}
use Rattle.settings.specs.Covered.{positives, is_covered}
use Rattle.entries.specs.Mark.{sample_of}
use Rattle.step.specs.Step.{step}
use Rattle.sums.specs.Feed.{feed_one, feed_all}
use Rattle.encoding.specs.Word.{smallest_mark, is_negative}
use Rattle.meaning.specs.Meaning.{meaning, read_word}
use Rattle.history.specs.Demands.{Placed}
use Rattle.history.specs.Known.{AllKnown}

-- a refusal with another number than 13 and 14 has no place
none_at : (reason : Reason) → eqb (number reason) 13 ≡ false → eqb (number reason) 14 ≡ false → Placed (Err (record { reason = reason; place = 1 })) → ⊥
none_at reason n m =
    ⊎_elim (λ e. eqb-false (number reason) 13 n (ap number e)) (⊎_elim (λ e. eqb-false (number reason) 14 m (ap number e)) (λ e. clash cc))

pub known : AllKnown
unfolding lib.Ieee.of_int lib.Ieee.of_bits lib.Ieee.to_signed lib.Ieee.fits every sum_to step feed_one feed_all sample_of smallest_mark is_negative total meaning read_word is_covered positives
known =
    (refl, λ old. refl, λ old. refl, refl, refl, refl)
    then (refl, λ old. refl, λ old. refl, refl, refl, refl)
    then (refl, λ old. refl, λ old. refl, refl, refl, refl)
    then (refl, λ old. refl, λ old. refl, refl, refl, refl)
    then (refl, λ old. refl, λ old. refl, refl, refl, refl)
    then (refl, λ old. refl, λ old. refl, refl, refl, refl)
    then (refl, λ old. refl, λ old. refl, refl, refl, refl)
    then (refl, λ old. refl, λ old. refl, refl, refl, refl)
    then (refl, λ old. refl, λ old. refl, refl, refl, refl)
    then (refl, λ old. refl, λ old. refl, refl, refl, refl)
    then (refl, λ old. refl, λ old. refl, refl, refl, refl)
    then (refl, λ old. refl, λ old. refl, refl, refl, refl)
    then (refl, refl)
    then (refl, refl)
    then (refl, refl)
    then (refl, refl)
    then none_at BadSides refl refl
    then none_at TooManyReadings refl refl
    then inl refl
    then inr (inl refl)
    then none_at ReadingsWanted refl refl
    then none_at UnsoundBoard refl refl
    then refl
    then refl
    then refl
    then refl
    then refl
    then refl
    then refl
    then refl
    then refl
    then refl
    then refl
    then refl
    then refl
    then refl
    then tt

-- The frame of a taken Read out of an unbroken ramp: demands 2 and 3.
--     frame_is        it is the frame that the readings make
--     frame_claim     under covered settings no word of it is false
use Prim.Native.Nat.{ℕ, ◌*◌, ◌<◌}
use mathlib.Core.Bool.{true}
use mathlib.Core.List.{List}
use mathlib.Core.Path.{◌≡◌, ap, ◌∙◌}
use native.Mathlib.Omega.{arith}
use lib.ListN.{length, get_or}
use Rattle.laws.proofs.Each.{each_length, each_same, each_at}
use Rattle.laws.proofs.Parts.{map_same}
use Rattle.std.specs.Prelude.{Ok}
use Rattle.sums.specs.Exact.{entry_after}
use Rattle.engines.proofs.Laws.{stands_for}
use Rattle.sums.proofs.Agrees.{values_full}
use Rattle.encoding.specs.Word.{word_of}
use Rattle.encoding.specs.Frame.{word_in, frame_in}
use Rattle.encoding.proofs.Grid.{pixels_on, pixels_some}
use Rattle.operations.specs.ReadOut.{read_out_in, read_out_words_in}
use Rattle.operations.specs.Covered.{coverage_of}
use Rattle.operations.proofs.Says.{covered_is}
use Rattle.operations.proofs.ReadOutChecked.{ReadOutTaken, read_out_taken}
use Rattle.history.specs.Calls.{Sums, engine, read_out, Ledger, view_of, ledger_answer, outcome_of, output_left, Allowed}
use Rattle.history.specs.Readings.{ramp_of, ramp_area, words, pixels, reading_at, frame_from}
use Rattle.history.specs.Demands.{FrameClaim}
use Rattle.history.proofs.Claims.{word_is, word_claim}
use Rattle.history.proofs.Invariant.{Good, parts, sides}

module _ {ℓ : Ledger} {allowed : Allowed} (good : Good ℓ allowed)
    (sums : Sums) (output : List ℕ) (taken : ledger_answer ℓ (read_out sums output) ≡ Ok tt) (handed : allowed sums) where
  checked : ReadOutTaken (engine sums) (view_of ℓ) sums.entries (length output)
  checked = read_out_taken (engine sums) (view_of ℓ) sums.entries output taken

  full : length ℓ.readings ≡ ℓ.in_force.samples * ramp_area (ramp_of ℓ)
  full = omega (arith, checked.full, (parts good).fed)

  -- what each pixel holds stands for the entry of its N samples
  entry_is : (p : ℕ) → p < ramp_area (ramp_of ℓ) → (engine sums).value_of (get_or sums.entries p (engine sums).absent) ≡ entry_after ℓ.in_force ℓ.in_force.samples (reading_at (ramp_of ℓ) p)
  entry_is =
      let r = (parts good).in_force in
      values_full (engine sums) ℓ.in_force r (ramp_area (ramp_of ℓ)) (sides good).some (stands_for sums.kind) ℓ.readings
      sums.entries (good.sums sums handed checked.ramp.length_is) ℓ.in_force.samples r.samples_low r.samples_high full

  pub frame_is : output_left (view_of ℓ) sums output ≡ frame_from (ramp_of ℓ)
  unfolding read_out_words_in frame_in word_in frame_from
  frame_is =
      let z = sides good in
      rw (taken, checked.ramp.length_is)
      (each_same _ _ (words (ramp_of ℓ)) (λ j l.
      ap (word_of ℓ.in_force.truncation) (map_same _ _ entry_is (pixels (ramp_of ℓ) j) (pixels_on _ _ _ z.width.low (λ e. (z.width.even e, z.height.even e)) j l))
      ∙ word_is (ramp_of ℓ) (parts good).in_force (pixels (ramp_of ℓ) j)))

  pub frame_claim : coverage_of (view_of ℓ) ≡ Ok true → FrameClaim (ramp_of ℓ) (outcome_of (view_of ℓ) (read_out sums output)).answer (output_left (view_of ℓ) sums output)
  unfolding read_out_in frame_from
  frame_claim c = record {
    succeeds = taken;
    complete = full;
    whole = ap length frame_is ∙ each_length _ (words (ramp_of ℓ));
    word = λ j l.
        rw (frame_is, each_at {A = ℕ} _ (words (ramp_of ℓ)) j 0 l)
        (word_claim (ramp_of ℓ) (parts good).in_force ((covered_is (view_of ℓ) good.whole).0 c) (pixels (ramp_of ℓ) j) (pixels_some ℓ.sides.width ℓ.sides.binned j));
  }

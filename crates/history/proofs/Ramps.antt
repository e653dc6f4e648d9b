-- A ramp that goes on: each Feed brings what the one before left.
--     RunningRamp              a running ramp, with sums as they were handed on, which their type holds
--     entry_held               the type of an entry holds that of a possible whole number
--     feed_goes, fed_ramp      its next Feed is taken, and leaves such a ramp
--     read_goes                when all its readings are fed, its Read out is taken
use Prim.Native.Nat.{ℕ, ◌+◌, ◌≤◌, ◌<◌}
use mathlib.Core.Bool.{true}
use mathlib.Core.List.{List}
use mathlib.Core.Path.{◌≡◌, refl}
use native.Mathlib.Omega.{arith}
use lib.IntN.{ℤ, pos, neg_ℤ}
use lib.ListN.{length, length-append}
use lib.Signed.{lt_z}
use lib.Ieee.{binary64, of_int, fits}
use lib.Ieee.Bits.{is_true}
use lib.Ieee.Fits.{of_int-fits}
use Rattle.laws.specs.Lists.{each, every}
use Rattle.laws.proofs.Tests.{cases, true_and}
use Rattle.laws.proofs.Ints.{up, dn, is_le, signed}
use Rattle.laws.proofs.Each.{each_length}
use Rattle.laws.proofs.Every.{every_at}
use Rattle.std.specs.Prelude.{Ok}
use Rattle.settings.specs.declared.Settings.{Settings}
use Rattle.readings.specs.Readings.{reading_in_range}
use Rattle.entries.specs.Possible.{possible}
use Rattle.entries.proofs.Range.{possible_in_range, range}
use Rattle.engines.specs.Engine.{Kind, whole_numbers, floats, engine_of, step_in}
use Rattle.engines.proofs.Laws.{stands_for}
use Rattle.sums.proofs.Feeding.{feed_past}
use Rattle.sums.proofs.HandedOn.{all_pass}
use Rattle.board.specs.Board.{wanted}
use Rattle.operations.specs.Feed.{fed_sums_in}
use Rattle.board.proofs.Checked.{RampTaken}
use Rattle.operations.proofs.FeedChecked.{feed_passes}
use Rattle.operations.proofs.ReadOutChecked.{read_out_passes}
use Rattle.history.specs.Calls.{Sums, engine, feed, read_out, Ledger, view_of, ledger_answer, effect, sums_left, Allowed, after_taken}
use Rattle.history.specs.Readings.{ramp_of, ramp_area, words}
use Rattle.history.specs.Demands.{entry_passes}
use Rattle.history.proofs.Invariant.{Good, parts, sides, few, fed_size, taken_good}
use Rattle.history.proofs.HandedOn.{none_impossible, full_possible}

pub entry_held : (kind : Kind) (s : Settings) (k : ℕ) (z : ℤ) → k ≤ 9 → possible s k z ≡ true → entry_passes kind ((engine_of kind).entry_of z) ≡ true
entry_held whole_numbers s k e l ok =
    let z : (dn e ≤ up e + 2147483648) × (up e < dn e + 2147483648) = omega (arith, range e (possible_in_range s k e l ok)) in
    true_and (is_le (neg_ℤ (pos 2147483648)) e (omega arith)) (cases (lt_z e (pos 2147483648)) (λ t. t) (λ t. absurd (omega signed)))
entry_held floats s k z l ok = is_true (fits binary64 (of_int binary64 z)) (of_int-fits binary64 z)

pub record RunningRamp (ℓ : Ledger) (allowed : Allowed) (sums : Sums) : Type 0 where
  pub good : Good ℓ allowed
  pub running : ℓ.running ≡ true
  pub handed : allowed sums
  pub size : length sums.entries ≡ ramp_area (ramp_of ℓ)
  pub bits : every (entry_passes sums.kind) sums.entries ≡ true

-- zeros for a frame
abbrev pub blank : Ledger → List ℕ
blank ℓ = each (λ j. 0) (words (ramp_of ℓ))

module _ {ℓ : Ledger} {allowed : Allowed} {sums : Sums} (ramp : RunningRamp ℓ allowed sums) where
  checked : RampTaken (view_of ℓ) (length sums.entries)
  checked = record { whole = ramp.good.whole; running = ramp.running; length_is = ramp.size }

  module _ (xs : List ℕ) (room : length ℓ.readings + length xs ≤ wanted (view_of ℓ)) (ok : every reading_in_range xs ≡ true) where
    pub feed_goes : ledger_answer ℓ (feed xs sums) ≡ Ok tt
    feed_goes =
        feed_passes (engine sums) (view_of ℓ) xs sums.entries
        (record { ramp = checked; room = room; readings = ok; entries = none_impossible ramp.good sums ramp.handed ramp.size (length xs) })

    abbrev left : Sums
    left = sums_left (view_of ℓ) xs sums

    fed_good : Good (effect ℓ (feed xs sums)) (after_taken (view_of ℓ) (feed xs sums) allowed)
    fed_good = taken_good ramp.good (feed xs sums) feed_goes

    left_size : length left.entries ≡ ramp_area (ramp_of ℓ)
    left_size = fed_size ramp.good xs sums feed_goes

    -- what is written is possible, and what isn't is as it was brought
    left_bits : every (entry_passes sums.kind) left.entries ≡ true
    unfolding fed_sums_in
    left_bits =
        all_pass (engine sums) (stands_for sums.kind) ℓ.in_force (parts fed_good).in_force (ramp_area (ramp_of ℓ)) (sides fed_good).some _ (few fed_good)
        left.entries (fed_good.sums left (ramp.handed, refl) left_size) (entry_passes sums.kind) (entry_held sums.kind ℓ.in_force)
        (λ p h l.
        let within : p < length sums.entries = rw ramp.size h in
        rw (feed_goes, feed_past (engine sums).absent (step_in (engine sums) ℓ.in_force) (length sums.entries) xs (length ℓ.readings) sums.entries p 0 within (omega (arith, length-append ℓ.readings xs)) (omega arith))
        (every_at (entry_passes sums.kind) sums.entries ramp.bits (engine sums).absent p within))

    pub fed_ramp : RunningRamp (effect ℓ (feed xs sums)) (after_taken (view_of ℓ) (feed xs sums) allowed) left
    fed_ramp = record { good = fed_good; running = ramp.running; handed = (ramp.handed, refl); size = left_size; bits = left_bits }

  pub read_goes : length ℓ.readings ≡ wanted (view_of ℓ) → ledger_answer ℓ (read_out sums (blank ℓ)) ≡ Ok tt
  read_goes full =
      let l : wanted (view_of ℓ) ≤ length ℓ.readings = omega arith in
      read_out_passes (engine sums) (view_of ℓ) sums.entries (blank ℓ)
      (record { ramp = checked; full = l; room = each_length (λ j. 0) (words (ramp_of ℓ)); entries = full_possible ramp.good sums ramp.handed ramp.size l })

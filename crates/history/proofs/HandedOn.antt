-- Check 14 refuses no sums that were handed on: a clause for each call.
--     none_impossible, full_possible     its search finds nothing, in Feed and in Read out
--     possible_sums                      so it does not refuse
use Prim.Native.Nat.{ℕ, ◌+◌, ◌≤◌}
use mathlib.Core.Bool.{true, not}
use mathlib.Core.List.{List, ◌++◌}
use mathlib.Core.Path.{◌≡◌, refl}
use native.Mathlib.Omega.{arith}
use borrow.Author.Tests.{ltb-false, eqb-true, not-false}
use lib.Dec.{ltb, eqb}
use lib.ListN.{length, get_or}
use Rattle.laws.specs.Lists.{every}
use Rattle.std.specs.Prelude.{None}
use Rattle.checks.specs.declared.Reason.TheVariants.{NoRamp, SumsLength, TooManyReadings, ReadingRange, EntryNotPossible, ReadingsWanted, WordsLength, UnsoundBoard}
use Rattle.checks.specs.Search.{first_place}
use Rattle.checks.specs.Checks.{Answer, verdict}
use Rattle.laws.proofs.Tests.{clash}
use Rattle.checks.proofs.Laws.{Spares, when_spares, found_spares, none_spares}
use Rattle.checks.proofs.Search.{found_every}
use Rattle.readings.specs.Readings.{reading_in_range}
use Rattle.engines.specs.Engine.{possible_in}
use Rattle.engines.proofs.Laws.{stands_for}
use Rattle.written.specs.Written.{impossible_at}
use Rattle.sums.proofs.Agrees.{Agrees}
use Rattle.sums.proofs.HandedOn.{never_impossible, all_possible}
use Rattle.encoding.specs.Frame.{word_count}
use Rattle.board.specs.declared.Board.{Board}
use Rattle.board.specs.Board as Board
use Rattle.board.specs.Board.{wanted, sound}
use Rattle.board.specs.RampChecks.{ramp_checks}
use Rattle.operations.specs.Feed.{reading_checks_in}
use Rattle.operations.specs.ReadOut.{output_checks_in}
use Rattle.history.specs.Calls.{Sums, engine, Call, update, start, feed, read_out, drop, ask, Ledger, view_of, Allowed}
use Rattle.history.specs.Readings.{ramp_of, ramp_area}
use Rattle.history.specs.Demands.{HandedOnPossible}
use Rattle.history.proofs.Ledgers.{shown_by}
use Rattle.history.proofs.Invariant.{Good, parts, sides, few}

-- what Feed and Read out begin with has other numbers, and shows how long the sums are
ramp_spares : (b : Board) (n : ℕ) (rest : List Answer) → (n ≡ Board.board_area b → Spares EntryNotPossible (verdict rest)) → Spares EntryNotPossible (verdict (ramp_checks b n ++ rest))
ramp_spares b n rest h =
    when_spares EntryNotPossible UnsoundBoard _ refl (not (sound b))
    (λ t. when_spares EntryNotPossible NoRamp _ refl (not b.running)
    (λ t. when_spares EntryNotPossible SumsLength _ refl (not (eqb n (Board.board_area b))) (λ t. h (eqb-true _ _ (not-false _ t)))))

module _ {ℓ : Ledger} {allowed : Allowed} (good : Good ℓ allowed) where
  module _ (sums : Sums) (handed : allowed sums) (size : length sums.entries ≡ ramp_area (ramp_of ℓ)) where
    agree : Agrees (engine sums) ℓ.in_force (ramp_area (ramp_of ℓ)) ℓ.readings sums.entries
    agree = good.sums sums handed size

    pub none_impossible : (count : ℕ) → first_place (length sums.entries) (impossible_at (engine sums).absent (possible_in (engine sums) ℓ.in_force) (length sums.entries) (length ℓ.readings) count sums.entries) ≡ None
    none_impossible count =
        rw size
        (never_impossible (engine sums) (stands_for sums.kind) ℓ.in_force (parts good).in_force (ramp_area (ramp_of ℓ)) (sides good).some ℓ.readings (few good) sums.entries agree count)

    pub full_possible : wanted (view_of ℓ) ≤ length ℓ.readings → every (possible_in (engine sums) ℓ.in_force ℓ.in_force.samples) sums.entries ≡ true
    full_possible full =
        let s = parts good in
        all_possible (engine sums) (stands_for sums.kind) ℓ.in_force s.in_force (ramp_area (ramp_of ℓ)) (sides good).some ℓ.readings (few good) sums.entries agree
        ℓ.in_force.samples s.in_force.samples_low (omega (arith, s.fed))

  pub possible_sums : (c : Call) → HandedOnPossible (shown_by ℓ allowed) c
  possible_sums (update bytes) sums e a = clash cc
  possible_sums start sums e a = clash cc
  possible_sums (feed xs own) sums e a =
      let b = view_of ℓ in
      let is : sums ≡ own = cc in
      ramp_spares b (length own.entries) (reading_checks_in (engine own) b xs own.entries)
      (λ size. when_spares EntryNotPossible TooManyReadings _ refl (ltb (wanted b) (b.fed + length xs))
      (λ t. found_spares EntryNotPossible ReadingRange _ refl (first_place (length xs) (λ i. not (reading_in_range (get_or xs i 0)))) (none_spares EntryNotPossible EntryNotPossible _ (none_impossible own (rw is at a) size (length xs)))))
  possible_sums (read_out own output) sums e a =
      let b = view_of ℓ in
      let is : sums ≡ own = cc in
      ramp_spares b (length own.entries) (output_checks_in (engine own) b own.entries (length output))
      (λ size. when_spares EntryNotPossible ReadingsWanted _ refl (ltb b.fed (wanted b))
      (λ full. when_spares EntryNotPossible WordsLength _ refl (not (eqb (length output) (word_count b.sides.binned (Board.board_area b))))
      (λ t. none_spares EntryNotPossible EntryNotPossible _ (found_every (possible_in (engine own) ℓ.in_force ℓ.in_force.samples) own.entries (engine own).absent (full_possible own (rw is at a) size (ltb-false _ _ full))))))
  possible_sums drop sums e a = clash cc
  possible_sums (ask question) sums e a = clash cc

-- What a list of calls so far ensures, and each call keeps.
--     Good                 the ledger shows a sound board, its readings are in range, and sums that are allowed agree with them
--     fed_size             a taken Feed leaves a sum for each pixel
--     taken_keeps          a taken call keeps it: a clause for each call
--     keeps, taken_good    so does any call; and what a taken one leaves
--     opened_good          at opening it holds
use Prim.Native.Nat.{ℕ, ◌*◌, ◌≤◌}
use mathlib.Core.Bool.{Bool, true}
use mathlib.Core.List.{List, []}
use mathlib.Core.Path.{◌≡◌, refl, sym, ap, ◌∙◌}
use native.Mathlib.Omega.{arith}
use lib.ListN.{length, length-append}
use Rattle.laws.specs.Lists.{every}
use Rattle.laws.proofs.Tests.{true_and}
use Rattle.laws.proofs.Elements.{every_append}
use Rattle.readings.specs.Readings.{reading_in_range}
use Rattle.std.specs.Prelude.{Ok, Err}
use Rattle.checks.specs.Checks.{Answer, by_answer}
use Rattle.engines.proofs.Laws.{stands_for}
use Rattle.sums.proofs.Feeding.{feed_length}
use Rattle.engines.specs.Engine.{step_in}
use Rattle.sums.proofs.Agrees.{Agrees, agrees_none, agrees_all}
use Rattle.board.specs.Board.{sound}
use Rattle.board.specs.Open.{open_of}
use Rattle.operations.specs.Feed.{fed_sums_in}
use Rattle.board.proofs.Soundness.{Sound, Sides, sound_parts, sides_of, wanted_nine}
use Rattle.operations.proofs.FeedChecked.{feed_taken}
use Rattle.board.proofs.Laws.{laws}
use Rattle.history.specs.Calls.{Sums, engine, Call, update, start, feed, read_out, drop, ask, Ledger, fresh, view_of, ledger_answer, effect, refused_effect, next, sums_left, Allowed, any_sums, after_taken, after}
use Rattle.history.specs.Readings.{ramp_of, ramp_area}
use Rattle.history.proofs.Ledgers.{shown_by, opened_is, board_is, call_sound}

pub record Good (ℓ : Ledger) (allowed : Allowed) : Type 0 where
  pub whole : sound (view_of ℓ) ≡ true
  pub readings : every reading_in_range ℓ.readings ≡ true
  pub sums : (σ : Sums) → allowed σ → length σ.entries ≡ ramp_area (ramp_of ℓ) → Agrees (engine σ) ℓ.in_force (ramp_area (ramp_of ℓ)) ℓ.readings σ.entries

-- where no reading is fed, any sums agree
none_fed : (ℓ : Ledger) (allowed : Allowed) → ℓ.readings ≡ [] → sound (view_of ℓ) ≡ true → Good ℓ allowed
unfolding every
none_fed ℓ allowed e s =
    let p = sound_parts (view_of ℓ) s in
    record {
      whole = s;
      readings = rw e;
      sums = λ σ a l. rw e (agrees_none (engine σ) ℓ.in_force p.in_force (ramp_area (ramp_of ℓ)) (sides_of (view_of ℓ) p).some σ.entries l);
    }

module _ {ℓ : Ledger} {allowed : Allowed} (good : Good ℓ allowed) where
  pub parts : Sound (view_of ℓ)
  parts = sound_parts (view_of ℓ) good.whole

  pub sides : Sides ℓ.sides.width ℓ.sides.height ℓ.sides.binned
  sides = sides_of (view_of ℓ) parts

  -- at most nine readings of each pixel
  pub few : length ℓ.readings ≤ 9 * ramp_area (ramp_of ℓ)
  few = omega (arith, parts.fed, wanted_nine (view_of ℓ) parts)

  pub fed_size : (xs : List ℕ) (before : Sums) → ledger_answer ℓ (feed xs before) ≡ Ok tt → length (sums_left (view_of ℓ) xs before).entries ≡ ramp_area (ramp_of ℓ)
  unfolding fed_sums_in
  fed_size xs before t =
      rw t
      (feed_length (engine before).absent (step_in (engine before) ℓ.in_force) _ xs _ before.entries
      ∙ (feed_taken (engine before) (view_of ℓ) xs before.entries t).ramp.length_is)

  feed_keeps : (xs : List ℕ) (brought : Sums) → ledger_answer ℓ (feed xs brought) ≡ Ok tt → sound (view_of (effect ℓ (feed xs brought))) ≡ true
      → Good (effect ℓ (feed xs brought)) (after_taken (view_of ℓ) (feed xs brought) allowed)
  unfolding fed_sums_in
  feed_keeps xs brought t s =
      let f = feed_taken (engine brought) (view_of ℓ) xs brought.entries t in
      record {
        whole = s;
        readings = rw every_append (true_and good.readings f.readings);
        sums = λ σ a l.
            let is : σ ≡ sums_left (view_of ℓ) xs brought = a.1 in
            rw (is, t, f.ramp.length_is)
            (agrees_all (engine brought) ℓ.in_force parts.in_force (ramp_area (ramp_of ℓ)) sides.some (stands_for brought.kind) ℓ.readings xs brought.entries
            (omega (arith, length-append ℓ.readings xs, f.room, wanted_nine (view_of ℓ) parts))
            (good.sums brought a.0 f.ramp.length_is));
      }

  -- the board that it shows is sound
  taken_keeps : (c : Call) → ledger_answer ℓ c ≡ Ok tt → sound (view_of (effect ℓ c)) ≡ true → Good (effect ℓ c) (after_taken (view_of ℓ) c allowed)
  taken_keeps (update bytes) t s = record { whole = s; readings = good.readings; sums = good.sums }
  taken_keeps start t s = none_fed (effect ℓ start) _ refl s
  taken_keeps (feed xs sums) t s = feed_keeps xs sums t s
  taken_keeps (read_out sums output) t s = none_fed (effect ℓ (read_out sums output)) allowed refl s
  taken_keeps drop t s = none_fed (effect ℓ drop) allowed refl s
  taken_keeps (ask question) t s = good

  pub keeps : (c : Call) → Good (next ℓ c) (after (shown_by ℓ allowed) c).allowed
  keeps c = by (ledger_answer ℓ c) refl (ap sound (sym (board_is ℓ c)) ∙ call_sound (view_of ℓ) c ∙ good.whole)
    where
      by : (a : Answer) → ledger_answer ℓ c ≡ a → sound (view_of (by_answer a (effect ℓ c) (refused_effect ℓ c))) ≡ true
          → Good (by_answer a (effect ℓ c) (refused_effect ℓ c)) (by_answer a (after_taken (view_of ℓ) c allowed) allowed)
      by (Ok tt) t s = taken_keeps c t s
      by (Err r) t s = good

  pub taken_good : (c : Call) → ledger_answer ℓ c ≡ Ok tt → Good (effect ℓ c) (after_taken (view_of ℓ) c allowed)
  taken_good c t = rw t at (keeps c)

pub opened_good : (w h : ℕ) (binned : Bool) → (open_of w h binned).answer ≡ Ok tt → Good (fresh w h binned) any_sums
opened_good w h binned t = none_fed (fresh w h binned) any_sums refl (rw (opened_is w h binned t) at (laws.opened_sound w h binned t))

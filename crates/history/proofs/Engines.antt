-- What is true of both engines beside the demands.
--     stored             what a taken Feed of an unbroken ramp leaves
--     engine_claims      and that two taken Read outs write equal frames
use mathlib.Core.Path.{◌≡◌, refl, sym, ap, ◌∙◌}
use Rattle.std.specs.Prelude.{Ok}
use Rattle.engines.proofs.Laws.{stands_for, laws}
use Rattle.sums.proofs.Agrees.{written}
use Rattle.history.specs.Calls.{engine, Call, feed, Ledger, view_of, ledger_answer, sums_left, Allowed}
use Rattle.history.specs.Readings.{ramp_of, ramp_area, frame_from}
use Rattle.history.specs.Demands.{Always}
use Rattle.history.specs.Engines.{StoredExactly, EqualFrames, EngineClaims}
use Rattle.history.proofs.Ledgers.{shown_by}
use Rattle.history.proofs.Invariant.{Good, parts, sides, few, fed_size, taken_good}
use Rattle.history.proofs.Frames.{frame_is}
use Rattle.history.proofs.Lists.{always}

stored : (ℓ : Ledger) (allowed : Allowed) → Good ℓ allowed → (c : Call) → StoredExactly (shown_by ℓ allowed) c
stored ℓ allowed good c xs before t =
    let goes : ledger_answer ℓ (feed xs before) ≡ Ok tt = rw t.brings at t.taken in
    let still = taken_good good (feed xs before) goes in
    let left = sums_left (view_of ℓ) xs before in
    rw (t.brings, goes)
    (λ p k h e l.
    let w = written (engine before) ℓ.in_force (parts still).in_force (ramp_area (ramp_of ℓ)) (sides still).some (stands_for before.kind) _
    left.entries (still.sums left (t.handed_on, refl) (fed_size good xs before goes)) (few still) p h k e l in
    record { entry = w.1; exactly = rw w.1 (laws.exact before.kind ℓ.in_force k _ w.0 w.2) })

pub engine_claims : EngineClaims
engine_claims = record {
  stored_exactly = always StoredExactly stored;
  equal_frames =
      always (λ at c. Always (λ other d. EqualFrames at c other d))
      (λ ℓ allowed good c. always (λ other d. EqualFrames (shown_by ℓ allowed) c other d)
      (λ m others good_too d same sums output t other_sums other_output u.
      frame_is good sums output (rw t.brings at t.taken) t.handed_on
      ∙ ap frame_from same
      ∙ sym (frame_is good_too other_sums other_output (rw u.brings at u.taken) u.handed_on)));
}

-- Readings in one Feed, and in two.
--     left, left_is, left_append     what a taken Feed leaves; two of them, and one of all readings
--     first_passes, others_pass      of a taken Feed: that of its first readings alone is taken, and then that of the others
--     in_one                         where these two are taken, the Feed of all readings is
use Prim.Native.Nat.{ℕ, ◌+◌, ◌*◌, ◌≤◌, ◌<◌}
use mathlib.Core.Bool.{true}
use mathlib.Core.List.{List, ◌++◌}
use mathlib.Core.Path.{◌≡◌, refl, sym, ◌∙◌}
use borrow.Author.Tests.{ltb-true, ltb-false}
use native.Mathlib.Nat.{add_assoc}
use native.Mathlib.Omega.{arith}
use lib.Dec.{ltb}
use lib.ListN.{length, length-append}
use Rattle.laws.specs.Lists.{every}
use Rattle.laws.proofs.Tests.{cases, and_true, true_and}
use Rattle.laws.proofs.Elements.{every_append}
use Rattle.settings.specs.declared.Settings.{Settings}
use Rattle.readings.specs.Readings.{reading_in_range}
use Rattle.engines.specs.Engine.{Engine, possible_in, step_in}
use Rattle.engines.specs.Laws.{StandsFor}
use Rattle.engines.proofs.Laws.{keeps}
use Rattle.written.proofs.Intervals.{Ready, written_ready, ready_found}
use Rattle.sums.specs.Feed.{sums_in}
use Rattle.sums.proofs.Feeding.{feed_length, feed_append, feed_past}
use Rattle.sums.proofs.Ready.{ready_all}
use Rattle.board.specs.declared.Board.{Board}
use Rattle.board.proofs.Soundness.{Sound, sound_parts, sound_whole, sides_of, wanted_nine}
use Rattle.operations.specs.Feed.{extended, feed_in, fed_sums_in}
use Rattle.operations.specs.Feeds.{BoardAndSums, after_feed}
use Rattle.operations.proofs.FeedChecked.{FeedTaken, feed_passes, extended_sound}

abbrev pub Passes : {E : Type 0} → Engine E → BoardAndSums E → List ℕ → Type 0
Passes engine before xs = FeedTaken engine before.board xs before.sums

abbrev pub left : {E : Type 0} → Engine E → BoardAndSums E → List ℕ → BoardAndSums E
left engine before xs = record {
  board = extended (length xs) before.board;
  sums = sums_in engine before.board.in_force before.board.fed xs before.sums;
}

pub left_is : {E : Type 0} (engine : Engine E) (before : BoardAndSums E) (xs : List ℕ) → Passes engine before xs → after_feed engine before xs ≡ left engine before xs
unfolding feed_in fed_sums_in
left_is engine before xs t = rw (feed_passes engine before.board xs before.sums t)

pub left_append : {E : Type 0} (engine : Engine E) (before : BoardAndSums E) (xs ys : List ℕ) → left engine (left engine before xs) ys ≡ left engine before (xs ++ ys)
left_append engine before xs ys =
    let b = before.board in
    let m = length before.sums in
    rw (
      length-append xs ys,
      add_assoc b.fed (length xs) (length ys),
      feed_length engine.absent (step_in engine b.in_force) m xs b.fed before.sums,
      feed_append engine.absent (step_in engine b.in_force) m xs ys b.fed before.sums,
    )

-- what a taken Feed finds
module _ {E : Type 0} (engine : Engine E) (before : BoardAndSums E) (xs : List ℕ) (t : Passes engine before xs) where
  whole : Sound before.board
  whole = sound_parts before.board t.ramp.whole

  some : 0 < length before.sums
  some = rw t.ramp.length_is (sides_of before.board whole).some

  ready : Ready engine.absent (possible_in engine before.board.in_force) (length before.sums) before.board.fed (length xs) before.sums
  ready = written_ready engine.absent (possible_in engine before.board.in_force) (length before.sums) before.board.fed (length xs) before.sums some t.entries

module _ {E : Type 0} (engine : Engine E) (meant : StandsFor engine) (before : BoardAndSums E) (xs ys : List ℕ) where
  abbrev b : Board
  b = before.board

  abbrev s : Settings
  s = b.in_force

  abbrev m : ℕ
  m = length before.sums

  both : length (xs ++ ys) ≡ length xs + length ys
  both = length-append xs ys

  as_many : length (left engine before xs).sums ≡ m
  as_many = feed_length engine.absent (step_in engine s) m xs b.fed before.sums

  module _ (t : Passes engine before (xs ++ ys)) where
    ok : (every reading_in_range xs ≡ true) × (every reading_in_range ys ≡ true)
    ok = and_true (every reading_in_range xs) (every reading_in_range ys) (sym (every_append reading_in_range xs ys) ∙ t.readings)

    pub first_passes : Passes engine before xs
    unfolding Ready
    first_passes = record {
      ramp = t.ramp;
      room = omega (arith, both, t.room);
      readings = ok.0;
      entries =
          ready_found engine.absent (possible_in engine s) m b.fed (length xs) before.sums (some engine before (xs ++ ys) t)
          (λ p k h lo hi brought. ready engine before (xs ++ ys) t p k h lo hi (omega (arith, both)));
    }

    room : b.fed + length xs ≤ 9 * m
    room = rw t.ramp.length_is (omega (arith, both, t.room, wanted_nine b (whole engine before (xs ++ ys) t)))

    others_ready : Ready engine.absent (possible_in engine s) m (b.fed + length xs) (length ys) (left engine before xs).sums
    others_ready =
        ready_all engine.absent (step_in engine s) (possible_in engine s) m (some engine before (xs ++ ys) t) (keeps engine meant s (whole engine before (xs ++ ys) t).in_force)
        xs b.fed (length ys) before.sums room refl (rw both at (ready engine before (xs ++ ys) t))

    pub others_pass : Passes engine (left engine before xs) ys
    others_pass = record {
      ramp = record {
        whole = sound_whole _ (extended_sound engine b xs before.sums first_passes (whole engine before (xs ++ ys) t));
        running = t.ramp.running;
        length_is = as_many ∙ t.ramp.length_is;
      };
      room = omega (arith, both, t.room);
      readings = ok.1;
      entries = rw as_many (ready_found engine.absent (possible_in engine s) m (b.fed + length xs) (length ys) (left engine before xs).sums (some engine before (xs ++ ys) t) others_ready);
    }

  module _ (t : Passes engine before xs) (u : Passes engine (left engine before xs) ys) where
    -- an entry that gets its next reading from the others is as it was
    all_ready : Ready engine.absent (possible_in engine s) m b.fed (length (xs ++ ys)) before.sums
    unfolding Ready
    all_ready p k h lo hi brought low =
        cases (ltb (k * m + p) (b.fed + length xs))
        (λ c. ready engine before xs t p k h lo hi (ltb-true _ _ c) low)
        (λ c. let past = ltb-false _ _ c in
        rw (feed_past engine.absent (step_in engine s) m xs b.fed before.sums p k h past hi)
        at ((rw as_many at (ready engine (left engine before xs) ys u)) p k h past (omega arith) (omega (arith, both)) low))

    pub in_one : Passes engine before (xs ++ ys)
    in_one = record {
      ramp = t.ramp;
      room = omega (arith, both, u.room);
      readings = every_append reading_in_range xs ys ∙ true_and t.readings u.readings;
      entries = ready_found engine.absent (possible_in engine s) m b.fed (length (xs ++ ys)) before.sums (some engine before xs t) all_ready;
    }

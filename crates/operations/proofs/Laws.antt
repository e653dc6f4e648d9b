-- The laws of the operations: what a taken one leaves is sound, and what each keeps.
use Prim.Native.Nat.{ℕ, ◌<◌}
use mathlib.Core.Bool.{false}
use mathlib.Core.List.{List, [], ◌∷◌}
use mathlib.Core.Path.{◌≡◌, refl}
use native.Mathlib.Nat.{add-zero}
use native.Mathlib.Omega.{arith}
use lib.ListN.{length}
use Rattle.laws.specs.Lists.{every}
use Rattle.settings.specs.declared.Settings.{Settings}
use Rattle.settings.proofs.Parts.{InRange, in_range_parts, in_range_whole}
use Rattle.update.specs.Update as SettingsUpdate
use Rattle.update.proofs.Laws as UpdateLaws
use Rattle.checks.specs.declared.Refusal.{Refusal}
use Rattle.std.specs.Prelude.{Ok, Err}
use Rattle.checks.specs.Checks.{Answer, verdict, by_answer}
use Rattle.checks.proofs.Laws.{both_taken}
use Rattle.engines.specs.Engine.{Engine, possible_in, Kind, Entry, engine_of}
use Rattle.engines.proofs.Laws.{stands_for}
use Rattle.written.proofs.Intervals.{written_none}
use Rattle.sums.specs.Feed.{feed_all}
use Rattle.board.specs.declared.Board.{Board}
use Rattle.board.specs.Board.{sound, unsound, ended}
use Rattle.board.specs.RampChecks.{ramp_checks}
use Rattle.board.specs.Kept.{refused99}
use Rattle.board.proofs.Soundness.{Sound, sound_parts, sides_of}
use Rattle.board.proofs.Kept.{stays, ended_sound, same_settings, same_sides}
use Rattle.board.proofs.Checked.{ramp_taken}
use Rattle.operations.specs.Update.{update_checks, with_waiting, update_of}
use Rattle.operations.specs.Ramp.{start_checks, begun, start_of, drop_checks, drop_of}
use Rattle.operations.specs.Feed.{feed_checks_in, extended, feed_in, fed_sums_in}
use Rattle.operations.specs.ReadOut.{read_out_checks_in, read_out_in, read_out_words_in}
use Rattle.operations.specs.Covered.{coverage_of}
use Rattle.operations.specs.Laws.{Gives99, OperationLaws}
use Rattle.operations.proofs.Feeds.{one_by_one, any_cut, taken_in_any_cut}
use Rattle.operations.proofs.FeedChecked.{feed_taken, feed_passes, extended_sound}

-- ---- soundness

begun_sound : (b : Board) → Sound b → Sound (begun b)
begun_sound b s = record { sides = s.sides; waiting = s.waiting; in_force = s.waiting; fed = omega arith; idle = refl }

waiting_sound : (b : Board) (t : Settings) → InRange t → Sound b → Sound (with_waiting t b)
waiting_sound b t r s = record { sides = s.sides; waiting = r; in_force = s.in_force; fed = s.fed; idle = s.idle }

-- the settings of a taken record are in range
resulting_in_range : (s : Settings) (bytes : List ℕ) → InRange s → (SettingsUpdate.apply_record s bytes).answer ≡ Ok tt → InRange (SettingsUpdate.resulting bytes s)
unfolding SettingsUpdate.apply_record
resulting_in_range s bytes r e =
    in_range_parts _ (rw e at ((UpdateLaws.laws).stays_in_range s bytes (in_range_whole s r)))

update_sound : (b : Board) (bytes : List ℕ) → sound (update_of b bytes).board ≡ sound b
unfolding update_of verdict
update_sound b bytes =
    let answer = (SettingsUpdate.apply_record b.waiting bytes).answer in
    stays b _ (answer ∷ [])
    (λ s e. waiting_sound b _ (resulting_in_range b.waiting bytes s.waiting (both_taken answer (Ok tt) (both_taken (unsound b) (verdict (answer ∷ [])) e).1).0) s)

pub feed_sound : {E : Type 0} (engine : Engine E) (b : Board) (xs : List ℕ) (sums : List E) → sound (feed_in engine b xs sums).board ≡ sound b
unfolding feed_in
feed_sound engine b xs sums =
    stays b (extended (length xs) b) _
    (λ s e. extended_sound engine b xs sums (feed_taken engine b xs sums e) s)

pub read_out_sound : {E : Type 0} (engine : Engine E) (b : Board) (sums : List E) (output : List ℕ) → sound (read_out_in engine b sums output).board ≡ sound b
unfolding read_out_in
read_out_sound engine b sums output = stays b (ended b) _ (λ s e. ended_sound b s)

-- ---- what each keeps

update_waiting : (a : Answer) (b : Board) (t : Settings) → by_answer a (with_waiting t b) b ≡ with_waiting (by_answer a (with_waiting t b) b).waiting b
update_waiting (Ok tt) b t = refl
update_waiting (Err r) b t = refl

start_in_force : (a : Answer) (b : Board) → a ≡ Ok tt → (by_answer a (begun b) b).in_force ≡ b.waiting
start_in_force a b e = rw e

start_refused : (a : Answer) (b : Board) (r : Refusal) → a ≡ Err r → by_answer a (begun b) b ≡ b
start_refused a b r e = rw e

-- ---- 99

pub feed_99 : {E : Type 0} (engine : Engine E) (b : Board) (xs : List ℕ) (sums : List E) → sound b ≡ false
    → (feed_in engine b xs sums ≡ refused99 b) × (fed_sums_in engine b xs sums ≡ sums)
unfolding feed_in fed_sums_in verdict
feed_99 engine b xs sums s = (rw s, rw s)

pub read_out_99 : {E : Type 0} (engine : Engine E) (b : Board) (sums : List E) (output : List ℕ) → sound b ≡ false
    → (read_out_in engine b sums output ≡ refused99 b) × (read_out_words_in engine b sums output ≡ output)
unfolding read_out_in read_out_words_in verdict
read_out_99 engine b sums output s = (rw s, rw s)

unsound_99 : (b : Board) → sound b ≡ false → Gives99 b
unfolding update_of start_of drop_of coverage_of verdict
unsound_99 b s = record {
  update = λ bytes. rw s;
  start = rw s;
  feed = λ kind xs sums. feed_99 (engine_of kind) b xs sums s;
  read_out = λ kind sums output. read_out_99 (engine_of kind) b sums output s;
  drop = rw s;
  covered = rw s;
}

-- ---- the empty Feed

empty_feed : (kind : Kind) (b : Board) (sums : List (Entry kind)) → verdict (ramp_checks b (length sums)) ≡ Ok tt
    → let engine = engine_of kind in (feed_in engine b [] sums ≡ record { answer = Ok tt; board = b }) × (fed_sums_in engine b [] sums ≡ sums)
unfolding feed_in fed_sums_in feed_all every
empty_feed kind b sums e =
    let engine = engine_of kind in
    let t = ramp_taken b (length sums) e in
    let s = sound_parts b t.whole in
    let some : 0 < length sums = rw t.length_is (sides_of b s).some in
    let p = feed_passes engine b [] sums (record {
      ramp = t;
      room = omega (arith, s.fed);
      readings = refl;
      entries = written_none engine.absent (possible_in engine b.in_force) (length sums) b.fed 0 sums some refl;
    }) in
    rw (p, add-zero b.fed) (refl, refl)

pub laws : OperationLaws
unfolding update_of start_of feed_in read_out_in drop_of
laws = record {
  stays_sound = record {
    update = update_sound;
    start = λ b. stays b (begun b) _ (λ s e. begun_sound b s);
    feed = λ kind. feed_sound (engine_of kind);
    read_out = λ kind. read_out_sound (engine_of kind);
    drop = λ b. stays b (ended b) _ (λ s e. ended_sound b s);
  };
  unsound_99 = unsound_99;
  sides_stay = record {
    update = λ b bytes. same_sides (verdict (update_checks b bytes)) b _ refl;
    start = λ b. same_sides (verdict (start_checks b)) b (begun b) refl;
    feed = λ kind b xs sums. same_sides (verdict (feed_checks_in (engine_of kind) b xs sums)) b (extended (length xs) b) refl;
    read_out = λ kind b sums output. same_sides (verdict (read_out_checks_in (engine_of kind) b sums output)) b (ended b) refl;
    drop = λ b. same_sides (verdict (drop_checks b)) b (ended b) refl;
  };
  update_waiting = λ b bytes. update_waiting (verdict (update_checks b bytes)) b (SettingsUpdate.resulting bytes b.waiting);
  start_in_force = λ b e. start_in_force (verdict (start_checks b)) b e;
  start_refused = λ b r e. start_refused (verdict (start_checks b)) b r e;
  feed_keeps = λ kind b xs sums. same_settings (verdict (feed_checks_in (engine_of kind) b xs sums)) b (extended (length xs) b) (refl, refl);
  read_out_keeps = λ kind b sums output. same_settings (verdict (read_out_checks_in (engine_of kind) b sums output)) b (ended b) (refl, refl);
  drop_keeps = λ b. same_settings (verdict (drop_checks b)) b (ended b) (refl, refl);
  empty_feed = empty_feed;
  one_by_one = λ kind. one_by_one (engine_of kind) (stands_for kind);
  any_cut = λ kind. any_cut (engine_of kind) (stands_for kind);
  taken_in_any_cut = λ kind. taken_in_any_cut (engine_of kind) (stands_for kind);
}

-- What must be true of the operations, beside the contracts. `proofs/Laws.antt` shows it.
use Rattle.std.specs.Prelude.{ℕ, false, List, [], ◌≡◌, length, Ok, Err}
use Rattle.laws.specs.Lists.{joined}
use Rattle.checks.specs.declared.Reason.TheVariants.{UnsoundBoard}
use Rattle.checks.specs.declared.Refusal.{Refusal}
use Rattle.checks.specs.Checks.{refusal, verdict}
use Rattle.engines.specs.Engine.{Kind, Entry, engine_of}
use Rattle.board.specs.declared.Board.{Board}
use Rattle.board.specs.Board.{sound}
use Rattle.board.specs.RampChecks.{ramp_checks}
use Rattle.board.specs.Kept.{SameSides, SameSettings, refused99}
use Rattle.operations.specs.Update.{with_waiting, update_of}
use Rattle.operations.specs.Ramp.{start_of, drop_of}
use Rattle.operations.specs.Feed.{feed_in, fed_sums_in}
use Rattle.operations.specs.Feeds.{BoardAndSums, TakesFeed, TakesFeeds, after_feeds, OneByOne}
use Rattle.operations.specs.ReadOut.{read_out_in, read_out_words_in}
use Rattle.operations.specs.Covered.{coverage_of}

-- what holds between any board and what an operation leaves of it, of each operation that changes one
pub record OfEach (P : Board → Board → Type 0) : Type 0 where
  pub update : (b : Board) (bytes : List ℕ) → P b (update_of b bytes).board
  pub start : (b : Board) → P b (start_of b).board
  pub feed : (kind : Kind) (b : Board) (readings : List ℕ) (sums : List (Entry kind)) → P b (feed_in (engine_of kind) b readings sums).board
  pub read_out : (kind : Kind) (b : Board) (sums : List (Entry kind)) (output : List ℕ) → P b (read_out_in (engine_of kind) b sums output).board
  pub drop : (b : Board) → P b (drop_of b).board

-- each operation gives 99, whatever else it is handed; board and buffers stay as they were
pub record Gives99 (b : Board) : Type 0 where
  pub update : (bytes : List ℕ) → update_of b bytes ≡ refused99 b
  pub start : start_of b ≡ refused99 b
  pub feed : (kind : Kind) (readings : List ℕ) (sums : List (Entry kind))
      → let engine = engine_of kind in (feed_in engine b readings sums ≡ refused99 b) × (fed_sums_in engine b readings sums ≡ sums)
  pub read_out : (kind : Kind) (sums : List (Entry kind)) (output : List ℕ)
      → let engine = engine_of kind in (read_out_in engine b sums output ≡ refused99 b) × (read_out_words_in engine b sums output ≡ output)
  pub drop : drop_of b ≡ refused99 b
  pub covered : coverage_of b ≡ Err (refusal UnsoundBoard)

pub record OperationLaws : Type 0 where
  -- every operation keeps a sound board sound, and leaves any other as unsound as it was
  pub stays_sound : OfEach (λ old new. sound new ≡ sound old)
  -- a board that isn't sound gets 99 first
  pub unsound_99 : (b : Board) → sound b ≡ false → Gives99 b
  -- the sides and binning stay as opened
  pub sides_stay : OfEach SameSides
  -- Update changes only the waiting settings: those in force stay
  pub update_waiting : (b : Board) (bytes : List ℕ) → (update_of b bytes).board ≡ with_waiting (update_of b bytes).board.waiting b
  -- a taken Start puts the waiting settings in force, a refused one changes nothing
  pub start_in_force : (b : Board) → (start_of b).answer ≡ Ok tt → (start_of b).board.in_force ≡ b.waiting
  pub start_refused : (b : Board) (r : Refusal) → (start_of b).answer ≡ Err r → (start_of b).board ≡ b
  -- Feed, Read out and Drop keep both settings
  pub feed_keeps : (kind : Kind) (b : Board) (readings : List ℕ) (sums : List (Entry kind)) → SameSettings b (feed_in (engine_of kind) b readings sums).board
  pub read_out_keeps : (kind : Kind) (b : Board) (sums : List (Entry kind)) (output : List ℕ) → SameSettings b (read_out_in (engine_of kind) b sums output).board
  pub drop_keeps : (b : Board) → SameSettings b (drop_of b).board
  -- an empty Feed that passes its checks is taken and changes nothing: only 99, 10 and 11 can refuse it
  pub empty_feed : (kind : Kind) (b : Board) (sums : List (Entry kind)) → verdict (ramp_checks b (length sums)) ≡ Ok tt
      → let engine = engine_of kind in (feed_in engine b [] sums ≡ record { answer = Ok tt; board = b }) × (fed_sums_in engine b [] sums ≡ sums)
  -- a taken Feed leaves the board and sums that the Feeds of its readings one at a time leave: all of these are taken, and each writes its one entry
  pub one_by_one : (kind : Kind) (before : BoardAndSums (Entry kind)) (readings : List ℕ)
      → let engine = engine_of kind in TakesFeed engine before readings → OneByOne engine before readings
  -- where the Feeds of one cut are taken, any other cut of the same readings into Feeds leaves the same board and sums
  pub any_cut : (kind : Kind) (before : BoardAndSums (Entry kind)) (cut other : List (List ℕ)) → joined cut ≡ joined other
      → let engine = engine_of kind in TakesFeeds engine before cut → after_feeds engine before cut ≡ after_feeds engine before other
  -- where all Feeds of one cut are taken, those of any other are; the board has to take an empty Feed, which another cut may hold
  pub taken_in_any_cut : (kind : Kind) (before : BoardAndSums (Entry kind)) (cut other : List (List ℕ)) → joined cut ≡ joined other
      → let engine = engine_of kind in TakesFeed engine before [] → TakesFeeds engine before cut → TakesFeeds engine before other

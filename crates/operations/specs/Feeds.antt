-- Feeds of an engine one after the other: each gets the board and the sums as the one before left them.
use Rattle.std.specs.Prelude.{ℕ, ◌<◌, List, [], ◌∷◌, map, ◌≡◌, length, get_or, Ok}
use Rattle.engines.specs.Engine.{Engine, step_in}
use Rattle.sums.specs.Feed.{pixel_of_reading, sample_of_reading}
use Rattle.board.specs.declared.Board.{Board}
use Rattle.board.specs.Board.{board_area}
use Rattle.operations.specs.Feed.{feed_in, fed_sums_in}

-- a board, and the sums that are lent to it
pub record BoardAndSums (E : Type 0) : Type 0 where
  pub board : Board
  pub sums : List E

-- Feed of these readings is taken
abbrev pub TakesFeed : {E : Type 0} → Engine E → BoardAndSums E → List ℕ → Type 0
TakesFeed engine before readings = (feed_in engine before.board readings before.sums).answer ≡ Ok tt

-- what it leaves
abbrev pub after_feed : {E : Type 0} → Engine E → BoardAndSums E → List ℕ → BoardAndSums E
after_feed engine before readings = record {
  board = (feed_in engine before.board readings before.sums).board;
  sums = fed_sums_in engine before.board readings before.sums;
}

-- readings that are cut into Feeds: all these Feeds are taken
abbrev pub TakesFeeds : {E : Type 0} → Engine E → BoardAndSums E → List (List ℕ) → Type 0
TakesFeeds engine before [] = Unit {0}
TakesFeeds engine before (readings ∷ cut) = TakesFeed engine before readings × TakesFeeds engine (after_feed engine before readings) cut

-- what they leave
abbrev pub after_feeds : {E : Type 0} → Engine E → BoardAndSums E → List (List ℕ) → BoardAndSums E
after_feeds engine before [] = before
after_feeds engine before (readings ∷ cut) = after_feeds engine (after_feed engine before readings) cut

-- each reading in a Feed of its own
abbrev pub singly : List ℕ → List (List ℕ)
singly readings = map (λ x. x ∷ []) readings

-- the pixel and the sample of the reading that comes next: its number, from 0, is how many are fed
abbrev pub next_pixel : Board → ℕ
next_pixel b = pixel_of_reading (board_area b) b.fed

abbrev pub next_sample : Board → ℕ
next_sample b = sample_of_reading (board_area b) b.fed

-- Feed of the one reading x
pub record WritesOne {E : Type 0} (engine : Engine E) (before : BoardAndSums E) (x : ℕ) : Type 0 where
  -- its pixel has an entry, and that becomes what the step makes of it
  pub has_entry : next_pixel before.board < length before.sums
  pub its_entry : let p = next_pixel before.board in
      get_or (after_feed engine before (x ∷ [])).sums p engine.absent
      ≡ step_in engine before.board.in_force (next_sample before.board) (get_or before.sums p engine.absent) x
  -- every other entry is left alone, and there are as many as before
  pub others : (q : ℕ) → (q ≡ next_pixel before.board → ⊥) → get_or (after_feed engine before (x ∷ [])).sums q engine.absent ≡ get_or before.sums q engine.absent
  pub as_many : length (after_feed engine before (x ∷ [])).sums ≡ length before.sums

-- each of the Feeds of readings one at a time does so
abbrev pub EachWritesOne : {E : Type 0} → Engine E → BoardAndSums E → List ℕ → Type 0
EachWritesOne engine before [] = Unit {0}
EachWritesOne engine before (x ∷ readings) = WritesOne engine before x × EachWritesOne engine (after_feed engine before (x ∷ [])) readings

-- Feed of these readings, and the Feeds of them one at a time: all of these are taken, each writes its one entry, and they leave the same board and sums
pub record OneByOne {E : Type 0} (engine : Engine E) (before : BoardAndSums E) (readings : List ℕ) : Type 0 where
  pub taken : TakesFeeds engine before (singly readings)
  pub writes : EachWritesOne engine before readings
  pub leave : after_feeds engine before (singly readings) ≡ after_feed engine before readings

-- The three demands, over every list of calls on a board that Open gave. Read from top to bottom.
use Rattle.std.specs.Prelude.{ℕ, ◌*◌, ◌≤◌, ◌<◌, Bool, true, false, ◌&&◌, List, [], ◌∷◌, map, ◌↔◌, ◌⊎◌, ◌≡◌, ltb, pos, neg_ℤ, length, get_or, ◌≤ℤ◌, Option, Some, None, option_to_list, Result, Ok, Err}
use Rattle.std.specs.Float.{binary64}
use Rattle.std.specs.Float.Ieee.{fits}
use Rattle.std.specs.Int.Signed.{le_z, lt_z}
use Rattle.laws.specs.Lists.{every, joined, total}
use Rattle.settings.specs.declared.Settings.{Settings}
use Rattle.settings.specs.Settings.{defaults, in_range}
use Rattle.settings.specs.Covered.{ceiling, is_covered}
use Rattle.checks.specs.declared.Reason.TheVariants.{ReadingRange, EntryNotPossible}
use Rattle.checks.specs.declared.Refusal.{Refusal}
use Rattle.checks.specs.Checks.{Answer}
use Rattle.readings.specs.Readings.{reading_in_range}
use Rattle.engines.specs.Engine.{Kind, whole_numbers, floats, Entry}
use Rattle.sums.specs.Exact.{exact_sum}
use Rattle.meaning.specs.declared.WordRead.{WordRead}
use Rattle.meaning.specs.declared.WordRead.TheVariants.{Saturated, Negative}
use Rattle.encoding.specs.Word.{is_negative}
use Rattle.meaning.specs.Meaning.{read_word}
use Rattle.encoding.specs.Meanings.{Between}
use Rattle.board.specs.declared.Board.{Board}
use Rattle.board.specs.Board.{sound}
use Rattle.board.specs.Open.{open_of}
use Rattle.operations.specs.Covered.{coverage_of}
use Rattle.history.specs.Calls.{Sums, Call, read_out, brought, view_of, ledger_answer, given_by_ledger, outcome_of, output_left, given_by_board, State, after, opening}
use Rattle.history.specs.Readings.{Ramp, ramp_of, ramp_area, words, pixels, exact_sums, FirstOver, NeverOver, frame_from}

-- ---- lists

-- at each call of a list: of what the call finds, and the call
abbrev pub Every : (State → Call → Type 0) → State → List Call → Type 0
Every P at [] = Unit {0}
Every P at (c ∷ calls) = P at c × Every P (after at c) calls

-- at every call of every list, for all sides and binning that Open takes
abbrev pub Always : (State → Call → Type 0) → Type 0
Always P = (w h : ℕ) (binned : Bool) → (open_of w h binned).answer ≡ Ok tt → (calls : List Call) → Every P (opening w h binned) calls

-- ---- demand 1, at one call

-- the board that the call gets is what the ledger says; the program's answer is, number and place, what the ledger's checks say; after the call the board is again
-- what the ledger says; and so is all else that the call gives: the sums, the words, the reply
pub record Demand1 (at : State) (c : Call) : Type 0 where
  pub before : at.board ≡ view_of at.ledger
  pub answer : (outcome_of at.board c).answer ≡ ledger_answer at.ledger c
  pub board : (after at c).board ≡ view_of (after at c).ledger
  pub given : given_by_board at.board c ≡ given_by_ledger at.ledger c

-- a refused call leaves the board, the ledger and its buffers as they were, and the ramp allows the sums that it allowed before
pub record Unchanged (at : State) (c : Call) : Type 0 where
  pub board : (after at c).board ≡ at.board
  pub ledger : (after at c).ledger ≡ at.ledger
  pub sums : (given_by_board at.board c).sums ≡ (brought c).sums
  pub output : (given_by_board at.board c).output ≡ (brought c).output
  pub allowed : (sums : Sums) → (after at c).allowed sums ↔ at.allowed sums

abbrev pub RefusedChangesNothing : State → Call → Type 0
RefusedChangesNothing at c = (r : Refusal) → ledger_answer at.ledger c ≡ Err r → Unchanged at c

-- the place of a refusal is 0, but for 13 and 14
abbrev pub Placed : Answer → Type 0
Placed (Ok tt) = Unit {0}
Placed (Err r) = (r.reason ≡ ReadingRange) ⊎ ((r.reason ≡ EntryNotPossible) ⊎ (r.place ≡ 0))

-- the call gets a sound board
abbrev pub Sound : State → Call → Type 0
Sound at c = sound at.board ≡ true

-- ---- demand 2, at one call

-- a taken Read out of an unbroken ramp: taken by the ledger, whatever the program says
pub record TakenReadOut (at : State) (c : Call) (sums : Sums) (output : List ℕ) : Type 0 where
  pub brings : c ≡ read_out sums output
  pub taken : ledger_answer at.ledger c ≡ Ok tt
  pub handed_on : at.allowed sums

-- its frame is the one that the readings and the settings in force make
abbrev pub Demand2 : State → Call → Type 0
Demand2 at c = (sums : Sums) (output : List ℕ) → TakenReadOut at c sums output → output_left at.board sums output ≡ frame_from (ramp_of at.ledger)

-- ---- demand 3

-- what Read a word gives for the word of the pixels ps
pub record WordClaim (ramp : Ramp) (ps : List ℕ) (reads : Result WordRead Refusal) : Type 0 where
  -- saturated at n, if and only if n is the first sample over the threshold
  pub saturated : (n : ℕ) → (reads ≡ Ok (Saturated n)) ↔ FirstOver ramp ps n
  -- negative, if and only if there is no such sample and the sign rule says so of the exact sums
  pub negative : (reads ≡ Ok Negative) ↔ (NeverOver ramp ps × (is_negative (exact_sums ramp ps) ≡ true))
  -- otherwise ordinary, and the exact total lies between the limits, counted once for each pixel
  pub ordinary : NeverOver ramp ps → is_negative (exact_sums ramp ps) ≡ false → Between (length ps) (total (exact_sums ramp ps)) reads

-- of a frame: the ramp that its Read out finds, and what the Read out answers and leaves
pub record FrameClaim (ramp : Ramp) (answer : Answer) (frame : List ℕ) : Type 0 where
  pub succeeds : answer ≡ Ok tt
  pub complete : length ramp.readings ≡ ramp.settings.samples * ramp_area ramp
  pub whole : length frame ≡ words ramp
  pub word : (j : ℕ) → j < words ramp → WordClaim ramp (pixels ramp j) (read_word ramp.settings.truncation (get_or frame j 0))

-- at one call: no word of the frame is false
abbrev pub NoFalseWord : State → Call → Type 0
NoFalseWord at c =
    (sums : Sums) (output : List ℕ) → TakenReadOut at c sums output
    → FrameClaim (ramp_of at.ledger) (outcome_of at.board (read_out sums output)).answer (output_left at.board sums output)

-- Covered says "covered" of the board that the call gets
abbrev pub SaidCovered : State → Type 0
SaidCovered at = coverage_of at.board ≡ Ok true

-- the last sentence, of every sound board: "covered" exactly when no N readings at or below the threshold, one per sample, have an exact sum of
-- 32,752 × 2^r or more
abbrev pub CoveredExactly : Type 0
CoveredExactly =
    (b : Board) → sound b ≡ true
    → let s = b.in_force in
    (coverage_of b ≡ Ok true)
    ↔ ((reading : ℕ → ℕ) → ((n : ℕ) → 1 ≤ n → n ≤ s.samples → reading n ≤ s.threshold)
    → pos (ceiling s.truncation) ≤ℤ exact_sum s s.samples reading → ⊥)

-- in one piece
pub record Demand3 : Type 0 where
  -- where Covered says "covered" of the board that the Read out gets, no word of its frame is false
  pub frames : Always (λ at c. SaidCovered at → NoFalseWord at c)
  pub covered_exactly : CoveredExactly

-- ---- sums that were handed on

-- they are never refused by 14, however the readings are cut into Feeds
abbrev pub HandedOnPossible : State → Call → Type 0
HandedOnPossible at c =
    (sums : Sums) → (brought c).sums ≡ Some sums → at.allowed sums
    → (place : ℕ) → ledger_answer at.ledger c ≡ Err (record { reason = EntryNotPossible; place = place }) → ⊥

-- ---- the demands are not empty

-- at some call of a list
abbrev pub AtSome : (State → Call → Type 0) → State → List Call → Type 0
AtSome P at [] = ⊥
AtSome P at (c ∷ calls) = P at c ⊎ AtSome P (after at c) calls

-- a taken Read out of an unbroken ramp, of one engine, under the settings s, of the readings xs; Covered says of its board what the settings are
pub record ReadsOut (kind : Kind) (s : Settings) (xs : List ℕ) (at : State) (c : Call) : Type 0 where
  pub entries : List (Entry kind)
  pub output : List ℕ
  pub taken : TakenReadOut at c (record { kind = kind; entries = entries }) output
  pub settings : at.ledger.in_force ≡ s
  pub coverage : coverage_of at.board ≡ Ok (is_covered s)
  pub readings : at.ledger.readings ≡ xs

-- the readings that each call of a list brings which brings any
abbrev pub fed_by : List Call → List (List ℕ)
fed_by calls = joined (map (λ c. option_to_list (brought c).readings) calls)

-- whether all that was brought of a kind passes a test
abbrev pub every_brought : {A : Type 0} → (A → Bool) → Option (List A) → Bool
every_brought test None = true
every_brought test (Some l) = every test l

-- what the type of an entry holds: whole numbers of 32 bits, floats of 64
abbrev pub entry_passes : (kind : Kind) → Entry kind → Bool
entry_passes whole_numbers z = le_z (neg_ℤ (pos 2147483648)) z && lt_z z (pos 2147483648)
entry_passes floats x = fits binary64 x

abbrev pub sums_pass : Option Sums → Bool
sums_pass None = true
sums_pass (Some sums) = every (entry_passes sums.kind) sums.entries

-- what the types of a call's parameters hold: bytes, 16-bit readings and words, and the sums
abbrev pub passable : Call → Bool
passable c =
    every_brought (λ x. ltb x 256) (brought c).bytes
    && every_brought (λ x. ltb x 65536) (brought c).readings
    && sums_pass (brought c).sums
    && every_brought (λ x. ltb x 65536) (brought c).output

-- from here on: calls that anyone can make, whose Feeds bring the readings cut as said, and which read them out by one engine, under the settings s
pub record CanReadOut (at : State) (kind : Kind) (s : Settings) (cut : List (List ℕ)) : Type 0 where
  pub calls : List Call
  pub can_be_made : every passable calls ≡ true
  pub feeds : fed_by calls ≡ cut
  pub reads_out : AtSome (ReadsOut kind s (joined cut)) at calls

-- N × M readings, all in range
abbrev pub FullRamp : State → Settings → List ℕ → Type 0
FullRamp at s readings = (length readings ≡ s.samples * (at.ledger.sides.width * at.ledger.sides.height)) × (every reading_in_range readings ≡ true)

-- whatever was called before, refused calls and broken ramps too: any readings can be read out, in any cut into Feeds, by either engine, under any settings in range
abbrev pub AnyRampFollows : State → Call → Type 0
AnyRampFollows at c = (kind : Kind) (s : Settings) → in_range s ≡ true → (cut : List (List ℕ)) → FullRamp at s (joined cut) → CanReadOut at kind s cut

-- ---- settings that no call has changed

-- at one call: the waiting settings after it are those before it
abbrev pub WaitingStays : State → Call → Type 0
WaitingStays at c = (after at c).ledger.waiting ≡ at.ledger.waiting

-- at one call: it brings no record, and they stay
abbrev pub NoRecord : State → Call → Type 0
NoRecord at c = ((brought c).bytes ≡ None) × WaitingStays at c

pub record DefaultsCovered : Type 1 where
  -- Covered says "covered" of every board that Open gives
  pub opened : (w h : ℕ) (binned : Bool) → (open_of w h binned).answer ≡ Ok tt → SaidCovered (opening w h binned)
  -- in a list of calls that leave the waiting settings as they were, Covered says so of the board that each call gets, and no word of any frame is false
  pub frames : (w h : ℕ) (binned : Bool) → (open_of w h binned).answer ≡ Ok tt → (calls : List Call)
      → Every WaitingStays (opening w h binned) calls
      → Every (λ at c. SaidCovered at × NoFalseWord at c) (opening w h binned) calls
  -- such a list, with no record in it, can read out any N × M readings in range, in any cut into Feeds, by either engine
  pub reached : (w h : ℕ) (binned : Bool) → (open_of w h binned).answer ≡ Ok tt
      → (kind : Kind) (cut : List (List ℕ)) → FullRamp (opening w h binned) defaults (joined cut)
      → (list : CanReadOut (opening w h binned) kind defaults cut) × Every NoRecord (opening w h binned) list.calls

-- ---- all demands

pub record Demands : Type 1 where
  pub demand_1 : Always Demand1
  pub refused_changes_nothing : Always RefusedChangesNothing
  -- of every board, and every call on it
  pub places : (b : Board) (c : Call) → Placed (outcome_of b c).answer
  pub sound : Always Sound
  pub demand_2 : Always Demand2
  pub demand_3 : Demand3
  pub handed_on_possible : Always HandedOnPossible
  pub any_ramp_follows : Always AnyRampFollows
  pub defaults_covered : DefaultsCovered

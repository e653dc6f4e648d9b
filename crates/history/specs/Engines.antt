-- What is true of both engines beside the demands, over every list of calls. `proofs/Engines.antt` shows it.
use Rattle.std.specs.Prelude.{ℕ, ◌<◌, ◌≤◌, List, ◌≡◌, ℤ, length, get_or, Ok}
use Rattle.engines.specs.Engine.{Kind, Entry, engine_of}
use Rattle.engines.specs.Laws.{HasExactly}
use Rattle.written.specs.Written.{samples_written}
use Rattle.sums.specs.Exact.{entry_after}
use Rattle.history.specs.Calls.{Sums, engine, Call, feed, ledger_answer, sums_left, output_left, State, after}
use Rattle.history.specs.Readings.{ramp_of, ramp_area, reading_at}
use Rattle.history.specs.Demands.{Always, TakenReadOut}

-- ---- what is stored

-- a taken Feed of an unbroken ramp: taken by the ledger, whatever the program says
pub record TakenFeed (at : State) (c : Call) (readings : List ℕ) (before : Sums) : Type 0 where
  pub brings : c ≡ feed readings before
  pub taken : ledger_answer at.ledger c ≡ Ok tt
  pub handed_on : at.allowed before

-- an entry is that of a whole number, and has exactly its value
pub record Stores (kind : Kind) (e : Entry kind) (z : ℤ) : Type 0 where
  pub entry : e ≡ (engine_of kind).entry_of z
  pub exactly : HasExactly kind e z

-- what it leaves for each pixel that has then had k samples, k from 1: the entry of the mark of the first sample over the threshold, or else of the exact sum
abbrev pub StoredExactly : State → Call → Type 0
StoredExactly at c =
    (readings : List ℕ) (before : Sums) → TakenFeed at c readings before
    → let ramp = ramp_of (after at c).ledger in
    let left = sums_left at.board readings before in
    (p k : ℕ) → p < ramp_area ramp → samples_written (ramp_area ramp) (length ramp.readings) p ≡ k → 1 ≤ k
    → Stores left.kind (get_or left.entries p (engine left).absent) (entry_after ramp.settings k (reading_at ramp p))

-- ---- what is read out

-- two taken Read outs of unbroken ramps, each of either engine, with the same sides, binning, settings in force and readings: equal frames
abbrev pub EqualFrames : State → Call → State → Call → Type 0
EqualFrames at c other d =
    ramp_of at.ledger ≡ ramp_of other.ledger
    → (sums : Sums) (output : List ℕ) → TakenReadOut at c sums output
    → (other_sums : Sums) (other_output : List ℕ) → TakenReadOut other d other_sums other_output
    → output_left at.board sums output ≡ output_left other.board other_sums other_output

-- ---- both

pub record EngineClaims : Type 0 where
  pub stored_exactly : Always StoredExactly
  -- in any two lists of calls
  pub equal_frames : Always (λ at c. Always (λ other d. EqualFrames at c other d))

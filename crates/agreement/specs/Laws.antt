-- What must be true of a whole frame and lists of calls, beside the contracts. `proofs/Laws.antt` shows it.
use Rattle.std.specs.Prelude.{ℕ, Bool, true, List, ◌≡◌, ℤ, Ok}
use Rattle.operations.specs.Covered.{coverage_of}
use Rattle.history.specs.Calls.{whole_sums, update, start, feed, Ledger, fresh, view_of, next}
use Rattle.history.specs.Readings.{ramp_of, frame_from}
use Rattle.history.specs.Demands.{FrameClaim}
use Rattle.whole_frame.specs.Chain.{frame_answer, frame_words}

-- the ledger that the Read out of a frame finds: a board that Open gave, then Update, Start, and a Feed of all readings
abbrev pub ledger_of : ℕ → ℕ → Bool → List ℕ → List ℕ → List ℤ → Ledger
ledger_of width height binned bytes readings sums = next (next (next (fresh width height binned) (update bytes)) start) (feed readings (whole_sums sums))

pub record AgreementLaws : Type 0 where
  -- a taken frame stands in a list of calls: its words are those that its readings make, and none is false where Covered says "covered"
  pub in_a_list : (width height : ℕ) (binned : Bool) (bytes readings : List ℕ) (sums : List ℤ) (output : List ℕ)
      → frame_answer width height binned bytes readings sums output ≡ Ok tt
      → let ℓ = ledger_of width height binned bytes readings sums in
      let words = frame_words width height binned bytes readings sums output in
      (words ≡ frame_from (ramp_of ℓ))
      × (coverage_of (view_of ℓ) ≡ Ok true → FrameClaim (ramp_of ℓ) (Ok tt) words)

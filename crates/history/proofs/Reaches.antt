-- The demands are not empty: an Update, a Start, a Feed for each part of any cut, and a Read out.
--     reads                        from a ramp that runs, the rest of a cut can be fed and read out
--     starts                       where no ramp runs, a Start and so every cut can be
--     updates                      and with an Update first, under any settings
--     any_ramp_follows             so at every call of a list
--     reached_unchanged            from Open on, under the defaults
use Prim.Native.Nat.{ℕ, ◌+◌, ◌≤◌}
use mathlib.Core.Bool.{Bool, true, false}
use mathlib.Core.List.{List, [], ◌∷◌, ◌++◌, append_assoc, append-nil}
use mathlib.Core.Logic.{inl, inr}
use mathlib.Core.Path.{◌≡◌, refl, sym, ap, ◌∙◌}
use borrow.Author.Tests.{leb-true, lt-ltb}
use native.Mathlib.Omega.{arith}
use lib.Dec.{ltb}
use lib.IntN.{pos}
use lib.ListN.{length, get_or, length-append}
use Rattle.laws.specs.Lists.{each, every, joined}
use Rattle.laws.proofs.Tests.{and_true, true_and, cases}
use Rattle.laws.proofs.Each.{each_length}
use Rattle.laws.proofs.Every.{every_at, every_all}
use Rattle.laws.proofs.Elements.{every_append, every_made}
use Rattle.settings.specs.declared.Settings.{Settings}
use Rattle.settings.specs.Settings.{defaults, in_range}
use Rattle.update.specs.Update.{Updated, resulting, apply_record}
use Rattle.update.proofs.Laws.{laws}
use Rattle.std.specs.Prelude.{Ok}
use Rattle.checks.specs.Checks.{verdict}
use Rattle.entries.specs.Possible.{possible_after}
use Rattle.engines.specs.Engine.{Kind, Entry, engine_of}
use Rattle.readings.specs.Readings.{max_reading, reading_in_range}
use Rattle.board.specs.Board.{wanted}
use Rattle.board.specs.Open.{open_of}
use Rattle.operations.proofs.Says.{says}
use Rattle.history.specs.Calls.{Sums, Call, update, start, feed, read_out, drop, Ledger, view_of, ledger_answer, effect, Allowed, any_sums, after_taken, State, after, opening}
use Rattle.history.specs.Readings.{ramp_of, ramp_area, words}
use Rattle.history.specs.Demands.{Every, AtSome, ReadsOut, fed_by, entry_passes, passable, CanReadOut, FullRamp, AnyRampFollows, NoRecord}
use Rattle.history.proofs.Ledgers.{shown_by, opened_is, board_is}
use Rattle.history.proofs.Invariant.{Good, parts, opened_good, taken_good}
use Rattle.history.proofs.Ramps.{entry_held, RunningRamp, blank, feed_goes, fed_ramp, read_goes}

-- from where a ledger shows the board: such calls, which bring no record and leave the waiting settings as they are
record Goes (kind : Kind) (s : Settings) (ℓ : Ledger) (allowed : Allowed) (xs : List ℕ) (cut : List (List ℕ)) : Type 0 where
  pub calls : List Call
  pub can_be_made : every passable calls ≡ true
  pub feeds : fed_by calls ≡ cut
  pub reads_out : AtSome (ReadsOut kind s xs) (shown_by ℓ allowed) calls
  pub no_record : Every NoRecord (shown_by ℓ allowed) calls

-- what a taken call and the calls after it find
onward : (F : (State → Call → Type 0) → State → List Call → Type 0) (P : State → Call → Type 0) (ℓ : Ledger) (allowed : Allowed) (c : Call) (calls : List Call)
    → ledger_answer ℓ c ≡ Ok tt → F P (shown_by (effect ℓ c) (after_taken (view_of ℓ) c allowed)) calls → F P (after (shown_by ℓ allowed) c) calls
onward F P ℓ allowed c calls t h = rw (board_is ℓ c, t) h

-- readings in range are 16-bit numbers
readings_pass : (xs : List ℕ) → every reading_in_range xs ≡ true → every (λ x. ltb x 65536) xs ≡ true
readings_pass xs ok =
    every_all (λ x. ltb x 65536) xs 0 (λ j h. lt-ltb (get_or xs j 0) 65536 (omega (arith, leb-true (get_or xs j 0) max_reading (every_at reading_in_range xs ok 0 j h))))

-- an update of bytes can be made
bytes_pass : (bytes : List ℕ) → every (λ x. ltb x 256) bytes ≡ true → passable (update bytes) ≡ true
bytes_pass bytes ok = true_and (true_and (true_and ok refl) refl) refl

module _ (kind : Kind) (s : Settings) (xs : List ℕ) where
  reads : (cut : List (List ℕ)) {ℓ : Ledger} {allowed : Allowed} {entries : List (Entry kind)} → RunningRamp ℓ allowed (record { kind = kind; entries = entries }) → ℓ.in_force ≡ s
      → ℓ.readings ++ joined cut ≡ xs → length xs ≡ wanted (view_of ℓ) → every reading_in_range (joined cut) ≡ true → Goes kind s ℓ allowed xs cut
  unfolding every
  reads [] {ℓ} {allowed} {entries} ramp is all full ok =
      let sums : Sums = record { kind = kind; entries = entries } in
      let e : ℓ.readings ≡ xs = sym (append-nil ℓ.readings) ∙ all in
      let goes : ledger_answer ℓ (read_out sums (blank ℓ)) ≡ Ok tt = read_goes ramp (ap length e ∙ full) in
      record {
        calls = read_out sums (blank ℓ) ∷ [];
        can_be_made = rw (ramp.bits, every_made (λ x. ltb x 65536) (λ j. 0) (words (ramp_of ℓ)) (λ j h. refl));
        feeds = refl;
        reads_out = inl (record {
          entries = entries;
          output = blank ℓ;
          taken = record { brings = refl; taken = goes; handed_on = ramp.handed };
          settings = is;
          coverage = says (view_of ℓ) ramp.good.whole ∙ rw is;
          readings = e;
        });
        no_record = ((refl, rw goes), tt);
      }
  reads (ys ∷ cut) {ℓ} {allowed} {entries} ramp is all full ok =
      let sums : Sums = record { kind = kind; entries = entries } in
      let o = and_true (every reading_in_range ys) (every reading_in_range (joined cut)) (sym (every_append reading_in_range ys (joined cut)) ∙ ok) in
      let room : length ℓ.readings + length ys ≤ wanted (view_of ℓ) = omega (arith, simp length-append at (ap length all)) in
      let goes : ledger_answer ℓ (feed ys sums) ≡ Ok tt = feed_goes ramp ys room o.0 in
      let rest = reads cut (fed_ramp ramp ys room o.0) is (append_assoc ℓ.readings ys (joined cut) ∙ all) full o.1 in
      record {
        calls = feed ys sums ∷ rest.calls;
        can_be_made = rw (ramp.bits, readings_pass ys o.0) rest.can_be_made;
        feeds = ap (λ (l : List (List ℕ)). ys ∷ l) rest.feeds;
        reads_out = inr (onward AtSome (ReadsOut kind s xs) ℓ allowed (feed ys sums) rest.calls goes rest.reads_out);
        no_record = ((refl, rw goes), onward Every NoRecord ℓ allowed (feed ys sums) rest.calls goes rest.no_record);
      }

module _ (kind : Kind) {ℓ : Ledger} {allowed : Allowed} (good : Good ℓ allowed) (idle : ℓ.running ≡ false) where
  -- where no ramp runs one can begin
  start_goes : ledger_answer ℓ start ≡ Ok tt
  unfolding verdict
  start_goes = rw (good.whole, idle)

  -- sums that any type holds
  abbrev zeros : Sums
  zeros = record { kind = kind; entries = each (λ p. (engine_of kind).entry_of (pos 0)) (ramp_area (ramp_of ℓ)) }

  started : RunningRamp (effect ℓ start) any_sums zeros
  unfolding possible_after
  started = record {
    good = taken_good good start start_goes;
    running = refl;
    handed = tt;
    size = each_length _ (ramp_area (ramp_of ℓ));
    bits = every_made (entry_passes kind) _ (ramp_area (ramp_of ℓ)) (λ p l. entry_held kind defaults 1 (pos 0) (omega arith) refl);
  }

  starts : (s : Settings) → ℓ.waiting ≡ s → (cut : List (List ℕ)) → FullRamp (shown_by ℓ allowed) s (joined cut) → Goes kind s ℓ allowed (joined cut) cut
  unfolding every
  starts s is cut full =
      let rest = reads kind s (joined cut) cut started is refl (rw is full.0) full.1 in
      record {
        calls = start ∷ rest.calls;
        can_be_made = rest.can_be_made;
        feeds = rest.feeds;
        reads_out = inr (onward AtSome (ReadsOut kind s (joined cut)) ℓ allowed start rest.calls start_goes rest.reads_out);
        no_record = ((refl, rw start_goes), onward Every NoRecord ℓ allowed start rest.calls start_goes rest.no_record);
      }

-- an Update first, and so under any settings
module _ (kind : Kind) {ℓ : Ledger} {allowed : Allowed} (good : Good ℓ allowed) (idle : ℓ.running ≡ false) where
  updates : (s : Settings) → in_range s ≡ true → (cut : List (List ℕ)) → FullRamp (shown_by ℓ allowed) s (joined cut) → CanReadOut (shown_by ℓ allowed) kind s cut
  unfolding apply_record every verdict
  updates s range cut full =
      let u = laws.reachable s ℓ.waiting range (parts good).waiting.nine in
      let bytes = u.0 in
      let fine : (apply_record ℓ.waiting bytes).answer ≡ Ok tt = ap (λ (x : Updated). x.answer) u.2 in
      let e : resulting bytes ℓ.waiting ≡ s = rw fine at (ap (λ (x : Updated). x.settings) u.2) in
      let goes : ledger_answer ℓ (update bytes) ≡ Ok tt = rw (good.whole, fine) in
      let rest = starts kind (taken_good good (update bytes) goes) idle s e cut full in
      record {
        calls = update bytes ∷ rest.calls;
        can_be_made = true_and (bytes_pass bytes u.1) rest.can_be_made;
        feeds = rest.feeds;
        reads_out = inr (onward AtSome (ReadsOut kind s (joined cut)) ℓ allowed (update bytes) rest.calls goes rest.reads_out);
      }

-- anywhere: a running ramp is dropped first
pub any_ramp_follows : (ℓ : Ledger) (allowed : Allowed) → Good ℓ allowed → (c : Call) → AnyRampFollows (shown_by ℓ allowed) c
unfolding every verdict
any_ramp_follows ℓ allowed good c kind s range cut full =
    cases ℓ.running
    (λ runs.
    let goes : ledger_answer ℓ drop ≡ Ok tt = rw (good.whole, runs) in
    let rest = updates kind (taken_good good drop goes) refl s range cut full in
    record {
      calls = drop ∷ rest.calls;
      can_be_made = rest.can_be_made;
      feeds = rest.feeds;
      reads_out = inr (onward AtSome (ReadsOut kind s (joined cut)) ℓ allowed drop rest.calls goes rest.reads_out);
    })
    (λ idle. updates kind good idle s range cut full)

-- from Open on, with the settings left as they are
pub reached_unchanged : (w h : ℕ) (binned : Bool) → (open_of w h binned).answer ≡ Ok tt → (kind : Kind) (cut : List (List ℕ)) → FullRamp (opening w h binned) defaults (joined cut)
    → (list : CanReadOut (opening w h binned) kind defaults cut) × Every NoRecord (opening w h binned) list.calls
reached_unchanged w h binned taken kind cut full =
    let list = starts kind (opened_good w h binned taken) refl defaults refl cut full in (
      record {
        calls = list.calls;
        can_be_made = list.can_be_made;
        feeds = list.feeds;
        reads_out = rw (opened_is w h binned taken) list.reads_out;
      },
      rw (opened_is w h binned taken) list.no_record,
    )

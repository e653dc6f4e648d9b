-- A claim about one call, at every call of a list, by one induction.
--     everywhere     where each call keeps what holds before it, and the claim follows of that; the calls may be of some kind alone
--     played_out     from Open on
--     always         for calls of every kind: from what any list of calls leaves
--     demand_1, refused_changes_nothing, demand_2, no_false_word, handed_on_possible     the claims
use Prim.Native.Nat.{ℕ}
use mathlib.Core.Bool.{Bool}
use mathlib.Core.List.{List, [], ◌∷◌}
use mathlib.Core.Path.{◌≡◌, refl}
use Rattle.std.specs.Prelude.{Ok}
use Rattle.board.specs.Open.{open_of}
use Rattle.history.specs.Calls.{Call, Ledger, fresh, view_of, next, Allowed, any_sums, State, after, opening}
use Rattle.history.specs.Demands.{Every, Always, Demand1, RefusedChangesNothing, Demand2, NoFalseWord, SaidCovered, HandedOnPossible}
use Rattle.history.proofs.Ledgers.{shown_by, opened_is, answer_is, board_is, given_is, refused_is}
use Rattle.history.proofs.Invariant.{Good, opened_good, keeps}
use Rattle.history.proofs.HandedOn.{possible_sums}
use Rattle.history.proofs.Frames.{frame_is, frame_claim}

-- K is the kind of calls, I what holds before each, P the claim
module _ (K : State → Call → Type 0) (I : Ledger → Allowed → Type 0) (P : State → Call → Type 0)
    (kept : (ℓ : Ledger) (allowed : Allowed) → I ℓ allowed → (c : Call) → K (shown_by ℓ allowed) c → I (next ℓ c) (after (shown_by ℓ allowed) c).allowed)
    (claim : (ℓ : Ledger) (allowed : Allowed) → I ℓ allowed → (c : Call) → K (shown_by ℓ allowed) c → P (shown_by ℓ allowed) c) where
  everywhere : (calls : List Call) {ℓ : Ledger} {allowed : Allowed} → I ℓ allowed → Every K (shown_by ℓ allowed) calls → Every P (shown_by ℓ allowed) calls
  everywhere [] i k = tt
  everywhere (c ∷ calls) {ℓ} {allowed} i k =
      let is : (after (shown_by ℓ allowed) c).board ≡ view_of (next ℓ c) = board_is ℓ c in
      (claim ℓ allowed i c k.0, rw is (everywhere calls (kept ℓ allowed i c k.0) (rw is at k.1)))

  pub played_out : ((w h : ℕ) (binned : Bool) → (open_of w h binned).answer ≡ Ok tt → I (fresh w h binned) any_sums)
      → (w h : ℕ) (binned : Bool) → (open_of w h binned).answer ≡ Ok tt → (calls : List Call)
      → Every K (opening w h binned) calls → Every P (opening w h binned) calls
  played_out first w h binned t calls k =
      rw (opened_is w h binned t) (everywhere calls (first w h binned t) (rw (opened_is w h binned t) at k))

-- a call of any kind
abbrev Any : State → Call → Type 0
Any at c = Unit {0}

any : (at : State) (calls : List Call) → Every Any at calls
any at [] = tt
any at (c ∷ calls) = (tt, any (after at c) calls)

pub always : (P : State → Call → Type 0) → ((ℓ : Ledger) (allowed : Allowed) → Good ℓ allowed → (c : Call) → P (shown_by ℓ allowed) c) → Always P
always P holds w h binned t calls =
    played_out Any Good P (λ ℓ allowed good c k. keeps good c) (λ ℓ allowed good c k. holds ℓ allowed good c) opened_good w h binned t calls (any (opening w h binned) calls)

pub demand_1 : Always Demand1
demand_1 = always Demand1 (λ ℓ allowed good c. record { before = refl; answer = answer_is (view_of ℓ) c; board = board_is ℓ c; given = given_is ℓ c })

pub refused_changes_nothing : Always RefusedChangesNothing
refused_changes_nothing = always RefusedChangesNothing (λ ℓ allowed good. refused_is ℓ allowed)

pub demand_2 : Always Demand2
demand_2 = always Demand2 (λ ℓ allowed good c sums output t. frame_is good sums output (rw t.brings at t.taken) t.handed_on)

pub covered_frame : (ℓ : Ledger) (allowed : Allowed) → Good ℓ allowed → (c : Call) → SaidCovered (shown_by ℓ allowed) → NoFalseWord (shown_by ℓ allowed) c
covered_frame ℓ allowed good c said sums output t = frame_claim good sums output (rw t.brings at t.taken) t.handed_on said

pub no_false_word : Always (λ at c. SaidCovered at → NoFalseWord at c)
no_false_word = always (λ at c. SaidCovered at → NoFalseWord at c) covered_frame

pub handed_on_possible : Always HandedOnPossible
handed_on_possible = always HandedOnPossible (λ ℓ allowed. possible_sums)

-- A board whose waiting settings no call has changed: its settings are the defaults, so Covered says "covered" of it.
--     Defaults, stays      both settings are the defaults, and each call that leaves the waiting ones keeps them
--     opened_covered       what Covered says of a board that Open gave
--     never_changed        and in a list of such calls, where demand 3 then speaks of every frame
use Prim.Native.Nat.{ℕ}
use mathlib.Core.Bool.{Bool, true}
use mathlib.Core.List.{List}
use mathlib.Core.Logic.{◌⊎◌, inl, inr, ⊎_elim}
use mathlib.Core.Path.{◌≡◌, refl, ◌∙◌}
use Rattle.settings.specs.Settings.{defaults}
use Rattle.settings.proofs.Laws.{laws}
use Rattle.std.specs.Prelude.{Ok, Err}
use Rattle.checks.specs.Checks.{Answer, by_answer}
use Rattle.board.specs.Open.{open_of}
use Rattle.operations.specs.Covered.{coverage_of}
use Rattle.operations.proofs.Says.{covered_is}
use Rattle.history.specs.Calls.{Call, update, start, feed, read_out, drop, ask, Ledger, fresh, view_of, ledger_answer, effect, refused_effect, next, Allowed, any_sums, opening}
use Rattle.history.specs.Demands.{Every, NoFalseWord, SaidCovered, WaitingStays}
use Rattle.history.proofs.Ledgers.{opened_is}
use Rattle.history.proofs.Invariant.{Good, opened_good, keeps}
use Rattle.history.proofs.Lists.{played_out, covered_frame}

record Defaults (ℓ : Ledger) : Type 0 where
  pub waiting : ℓ.waiting ≡ defaults
  pub in_force : ℓ.in_force ≡ defaults

-- a taken call puts in force what was waiting, or leaves what is in force
in_force_of : (ℓ : Ledger) (c : Call) → ((effect ℓ c).in_force ≡ ℓ.in_force) ⊎ ((effect ℓ c).in_force ≡ ℓ.waiting)
in_force_of ℓ (update bytes) = inl refl
in_force_of ℓ start = inr refl
in_force_of ℓ (feed xs sums) = inl refl
in_force_of ℓ (read_out sums output) = inl refl
in_force_of ℓ drop = inl refl
in_force_of ℓ (ask question) = inl refl

module _ {ℓ : Ledger} (d : Defaults ℓ) where
  stays : (c : Call) → (next ℓ c).waiting ≡ ℓ.waiting → Defaults (next ℓ c)
  stays c same = record { waiting = same ∙ d.waiting; in_force = by (ledger_answer ℓ c) }
    where
      by : (a : Answer) → (by_answer a (effect ℓ c) (refused_effect ℓ c)).in_force ≡ defaults
      by (Ok tt) = ⊎_elim (λ e. e ∙ d.in_force) (λ e. e ∙ d.waiting) (in_force_of ℓ c)
      by (Err r) = d.in_force

  said : {allowed : Allowed} → Good ℓ allowed → coverage_of (view_of ℓ) ≡ Ok true
  said good = (covered_is (view_of ℓ) good.whole).1 (rw d.in_force laws.defaults_covered)

module _ (w h : ℕ) (binned : Bool) (taken : (open_of w h binned).answer ≡ Ok tt) where
  at_opening : Good (fresh w h binned) any_sums × Defaults (fresh w h binned)
  at_opening = (opened_good w h binned taken, record { waiting = refl; in_force = refl })

  pub opened_covered : coverage_of (open_of w h binned).board ≡ Ok true
  opened_covered = rw (opened_is w h binned taken) (said at_opening.1 at_opening.0)

pub never_changed : (w h : ℕ) (binned : Bool) → (open_of w h binned).answer ≡ Ok tt → (calls : List Call)
    → Every WaitingStays (opening w h binned) calls → Every (λ at c. SaidCovered at × NoFalseWord at c) (opening w h binned) calls
never_changed =
    played_out WaitingStays (λ ℓ allowed. Good ℓ allowed × Defaults ℓ) (λ at c. SaidCovered at × NoFalseWord at c)
    (λ ℓ allowed i c k. (keeps i.0 c, stays i.1 c k))
    (λ ℓ allowed i c k. let s = said i.1 i.0 in (s, covered_frame ℓ allowed i.0 c s))
    at_opening

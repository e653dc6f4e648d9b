-- The search by the two intervals.
use mathlib.Core.Bool.{Bool, not}
use mathlib.Core.List.{List}
use mathlib.Core.Path.{◌≡◌, refl, sym, ap, ◌∙◌}
use Prim.Native.Nat.{ℕ, ◌+◌, ◌-◌, ◌/◌, ◌%◌, min}
use native.Mathlib.Nat.{sub-zero}
use native.Mathlib.Omega.{arith}
use lib.ListN.{length, get_or}
use Rattle.std.specs.Prelude.{Option, Some, None}
use Rattle.std.specs.Option.{option_or}
use Rattle.std.proofs.Common.{rules}
use Rattle.checks.specs.Search.{first_place, shifted}
use Rattle.checks.proofs.Search.{found_start}
use Rattle.engines.specs.Engine.{Engine}
use Rattle.engines.specs.SupportPasses.{possible_after_in}
use Rattle.written.proofs.Intervals.{written_found, written_first, written_none}
use Rattle.written.proofs.first_impossible_written.Goals as goal

abbrev fails : {E : Type 0} → Engine E → List E → ℕ → ℕ → Bool
fails engine l k p = not (possible_after_in engine k (get_or l p engine.absent))

pub returns-then-count-eq0 : goal.returns-then-count-eq0
returns-then-count-eq0 g c =
    let engine = g.E.Entry.engine in
    let a = c.args in
    let l = a.sums.now in
    sym (written_none engine.absent (possible_after_in engine) (length l) a.fed a.count l c.requires.0 c.if-count-eq0.true)

-- the search of the first interval
low : {E : Type 0} (engine : Engine E) (l : List E) (fed count end : ℕ) (r : Option ℕ) → let m = length l in let q = fed % m in end ≡ min q (q + count - m)
    → r ≡ shifted 0 (first_place (end - 0) (λ i. fails engine l (fed / m + 1) (0 + i)))
    → r ≡ first_place (min q (q + count - m)) (fails engine l (fed / m + 1))
low engine l fed count end r e t = rw (sub-zero, e) at t ∙ found_start (fails engine l (fed / length l + 1)) _

-- what was found, or what the closure finds
either : (r first second : Option ℕ) → (first ≡ None → r ≡ second) → ((p : ℕ) → first ≡ Some p → r ≡ Some p) → r ≡ option_or first second
either r (Some p) second f g = g p refl
either r None second f g = f refl

pub returns-then-c-eq0 : goal.returns-then-c-eq0
returns-then-c-eq0 g c =
    let engine = g.E.Entry.engine in
    let a = c.args in
    let l = a.sums.now in
    let q = a.fed % length l in
    low engine l a.fed a.count c.min.result c.first_between-low.result (c.min.ensures ∙ ap (min q) c.saturating_sub.ensures) c.first_between-low.ensures
    ∙ sym (written_first engine.absent (possible_after_in engine) (length l) a.fed a.count l c.requires.0 c.if-c-eq0.true)

pub returns : goal.returns
returns g c =
    let engine = g.E.Entry.engine in
    let a = c.args in
    let l = a.sums.now in
    let q = a.fed % length l in
    let first = low engine l a.fed a.count c.min.result c.first_between-low.result (c.min.ensures ∙ ap (min q) c.saturating_sub.ensures) c.first_between-low.ensures in
    let high = shifted q (first_place (c.min-end.result - q) (λ i. fails engine l (a.fed / length l) (q + i))) in
    let both =
    either c.or_else.result c.first_between-low.result high
    (λ e. let h = rw e at c.or_else.ensures in search rules)
    (λ p e. rw e at c.or_else.ensures) in
    both ∙ rw (first, c.min-end.ensures) (sym (written_found engine.absent (possible_after_in engine) (length l) a.fed a.count l c.requires.0 (omega arith)))

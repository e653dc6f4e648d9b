-- What the call finds in the part, said of the whole.
use mathlib.Core.Bool.{Bool, not}
use mathlib.Core.List.{List}
use mathlib.Core.Path.{◌≡◌, ap, ◌∙◌}
use Prim.Native.Nat.{ℕ, ◌+◌, ◌-◌, ◌^◌, ◌≤◌, ◌<◌}
use native.Mathlib.Omega.{arith}
use lib.ListN.{length, get_or, take, drop}
use Rattle.std.proofs.Common.{rules}
use Rattle.laws.proofs.Parts.{part_length, part_at}
use Rattle.std.specs.Prelude.{Option, None}
use Rattle.checks.specs.Search.{first_place, shifted}
use Rattle.checks.proofs.Search.{found_same, found_below}
use Rattle.engines.specs.Engine.{Engine}
use Rattle.engines.specs.SupportPasses.{possible_after_in}
use Rattle.written.proofs.first_between.Goals as goal

told : {E : Type 0} (engine : Engine E) (l : List E) (start end k : ℕ) (r : Option ℕ) → start ≤ end → end ≤ length l
    → r ≡ first_place (length (take (end - start) (drop start l))) (λ i. not (possible_after_in engine k (get_or (take (end - start) (drop start l)) i engine.absent)))
    → r ≡ first_place (end - start) (λ i. not (possible_after_in engine k (get_or l (start + i) engine.absent)))
told engine l start end k r low high e =
    let n = end - start in
    rw (part_length l start n (omega arith)) at e
    ∙ found_same (λ i. not (possible_after_in engine k (get_or (take n (drop start l)) i engine.absent))) (λ i. not (possible_after_in engine k (get_or l (start + i) engine.absent))) n
    (λ i h. rw (part_at l start n i engine.absent h))

pub map-requires : goal.map-requires
map-requires g c p e =
    let a = c.args in
    let t = told g.E.Entry.engine a.sums.now a.start a.end a.k c.first_impossible.result (omega arith) (omega arith) c.first_impossible.ensures in
    let here : a.start + p < 2 ^ 64 = omega (arith, found_below _ _ p (rw t at e)) in
    search rules

pub returns : goal.returns
returns g c =
    let a = c.args in
    let moved : c.map.result ≡ shifted a.start c.first_impossible.result = search rules in
    moved ∙ ap (shifted a.start) (told g.E.Entry.engine a.sums.now a.start a.end a.k c.first_impossible.result (omega arith) (omega arith) c.first_impossible.ensures)

none : (start n : ℕ) (test : ℕ → Bool) → n ≡ 0 → None ≡ shifted start (first_place n test)
unfolding first_place
none start n test e = rw e

pub returns-then-start-end : goal.returns-then-start-end
returns-then-start-end g c = none c.args.start (c.args.end - c.args.start) _ (omega arith)

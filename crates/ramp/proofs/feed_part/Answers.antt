use mathlib.Core.List.{List}
use mathlib.Core.Path.{◌≡◌, refl}
use Prim.Native.Nat.{ℕ, ◌+◌, ◌<◌}
use native.Mathlib.Omega.{arith}
use lib.ListN.{length, take, get_or, set}
use Rattle.laws.specs.Lists.{over}
use Rattle.laws.proofs.Every.{every_at}
use Rattle.laws.proofs.Over.{over_at_lem, over_more}
use Rattle.readings.specs.Readings.{reading_in_range}
use Rattle.engines.specs.SupportRange.{entry_in_range_in}
use Rattle.engines.specs.SupportPasses.{step_by_in}
use Rattle.ramp.proofs.feed_part.Goals as goal

pub loop-i-init : goal.loop-i-init
unfolding over
loop-i-init g c = refl

pub accumulate-requires-clause-reading_value : goal.accumulate-requires-clause-reading_value
accumulate-requires-clause-reading_value g c = every_at reading_in_range c.args.readings.now c.requires.readings_value 0 c.loop-i.i (omega arith)

pub accumulate-requires-clause-stored_value : goal.accumulate-requires-clause-stored_value
accumulate-requires-clause-stored_value g c p =
    rw (c.loop-i.invariant, over_at_lem) (every_at (entry_in_range_in g.E.Entry.engine) c.args.sums.now (c.requires.sums_value p) c.index-sums-i.result c.loop-i.i (omega arith))

-- one turn, on plain values
turn : {E : Type 0} (e : E) (f : ℕ → E → E) (xs : List ℕ) (ss sums : List E) (i : ℕ) (v : E) → sums ≡ over f (take i xs) ss → v ≡ f (get_or xs i 0) (get_or sums i e) → i < length xs
    → set sums i v ≡ over f (take (i + 1) xs) ss
turn e f xs ss sums i v p q h = rw (q, p, over_at_lem f xs ss i e) (over_more f xs ss i 0 e h)

pub loop-i-preserved : goal.loop-i-preserved
loop-i-preserved g c =
    let l = c.loop-i in
    let a = c.args in
    turn c.index-sums-i.result (step_by_in g.E.Entry.engine a.sample) a.readings.now a.sums.now l.sums l.i _ l.invariant c.accumulate.ensures (omega arith)

-- Each call gives its half, and changes nothing.
use Rattle.std.proofs.Common.{◌/◌, rules}
use Rattle.laws.proofs.Calls.{answers_each}
use Rattle.replay_items.specs.Patterns.{half, pattern_at}
use Rattle.replay_items.proofs.halves_of.Goals as goal

pub returns-clause-items : goal.returns-clause-items
returns-clause-items c =
    answers_each _ _ (λ i. half i (pattern_at c.args.floats.now (i / 2))) (λ i y q k. search rules) c.from_fn.result 8192 c.from_fn.ensures.items

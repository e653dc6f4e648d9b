-- Each call gives its byte, and changes nothing.
use Rattle.std.proofs.Common.{rules}
use Rattle.replay_items.specs.Items.{byte_item}
use Rattle.laws.proofs.Calls.{answers_each}
use Rattle.replay_items.proofs.bytes_of.Goals as goal

pub returns-clause-items : goal.returns-clause-items
returns-clause-items c =
    answers_each _ _ (byte_item c.args.list.now) (λ i y q k. search rules) c.from_fn.result 4096 c.from_fn.ensures.items

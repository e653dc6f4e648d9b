-- `flag_search::Query::least_key`: the rows nearer than `away` have been asked.
use Rattle.flag_search.proofs.Keyed.{LeastWithin}
use Rattle.flag_search.proofs.Query.least_key.Given as goal

abbrev pub invariant-loop-away : goal.invariant-loop-away
invariant-loop-away l = LeastWithin l.self.frame.words.now l.self.frame.width l.self.place l.away l.best

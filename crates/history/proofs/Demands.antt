-- The demands hold.
use Rattle.history.specs.Demands.{Demands, Sound, AnyRampFollows}
use Rattle.history.proofs.Lists.{always, demand_1, refused_changes_nothing, demand_2, no_false_word, handed_on_possible}
use Rattle.history.proofs.Places.{places}
use Rattle.history.proofs.Coverage.{covered_exactly}
use Rattle.history.proofs.Reaches.{any_ramp_follows, reached_unchanged}
use Rattle.history.proofs.Unchanged.{opened_covered, never_changed}

pub demands : Demands
demands = record {
  demand_1 = demand_1;
  refused_changes_nothing = refused_changes_nothing;
  places = places;
  sound = always Sound (λ ℓ allowed good c. good.whole);
  demand_2 = demand_2;
  demand_3 = record { frames = no_false_word; covered_exactly = covered_exactly };
  handed_on_possible = handed_on_possible;
  any_ramp_follows = always AnyRampFollows any_ramp_follows;
  defaults_covered = record { opened = opened_covered; frames = never_changed; reached = reached_unchanged };
}

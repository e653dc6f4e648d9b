-- What one reading does to an engine's entry, and which entries are possible, as the passes have it: without settings. No rule of the product stands here.
use Rattle.std.specs.Prelude.{ℕ, Bool, ◌&&◌}
use Rattle.entries.specs.Possible.{possible_after}
use Rattle.step.specs.declared.Sample.{Sample}
use Rattle.step.specs.Step.{step_by}
use Rattle.engines.specs.Engine.{Engine}

-- possible after k samples
abbrev pub possible_after_in : {E : Type 0} → Engine E → ℕ → E → Bool
possible_after_in engine k e = engine.is_whole e && possible_after k (engine.value_of e)

-- the entry e after the reading x of a sample
abbrev pub step_by_in : {E : Type 0} → Engine E → Sample → ℕ → E → E
step_by_in engine sample x e = engine.entry_of (step_by sample x (engine.value_of e))

-- The range of an engine's entry that the passes work with. No rule of the product stands here, as in `entries/specs/SupportRange.antt`.
use Rattle.std.specs.Prelude.{Bool, ◌&&◌}
use Rattle.entries.specs.SupportRange.{entry_in_range}
use Rattle.engines.specs.Engine.{Engine}

-- the entry of a whole number in range
abbrev pub entry_in_range_in : {E : Type 0} → Engine E → E → Bool
entry_in_range_in engine e = engine.is_whole e && entry_in_range (engine.value_of e)

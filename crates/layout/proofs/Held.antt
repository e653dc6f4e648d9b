-- An entry of a lent list, each of them in range, and its whole number as a local holds it.
--     read_in_range       the entry is in range
--     whole_is            its whole number is what the definitions read
--     whole_in_range      and in range
use Prim.Native.Nat.{ℕ, ◌<◌}
use mathlib.Core.Bool.{true}
use mathlib.Core.List.{List}
use mathlib.Core.Path.{◌≡◌, ap, ◌∙◌}
use native.Mathlib.Omega.{arith}
use lib.IntN.{ℤ}
use lib.ListN.{length, get_or}
use mir.Syntax.{w32}
use mir.Val.{to_z, of_z}
use mir.Facts.{to_z-of_z}
use Rattle.std.proofs.lemmas.List.{get_or_default}
use Rattle.laws.specs.Lists.{every}
use Rattle.laws.proofs.Every.{every_at}
use Rattle.laws.proofs.Ints.{fits}
use Rattle.laws.proofs.Tests.{and_true}
use Rattle.entries.specs.SupportRange.{entry_in_range}
use Rattle.entries.proofs.Range.{range}
use Rattle.engines.specs.Engine.{Engine}
use Rattle.engines.specs.SupportRange.{entry_in_range_in}

held : (e : ℤ) → entry_in_range e ≡ true → to_z w32 (of_z w32 e) ≡ e
held e h = to_z-of_z (fits w32 e (omega (arith, range e h)))

module _ {E : Type 0} (engine : Engine E) (l : List E) (i : ℕ) (e : E) (h : every (entry_in_range_in engine) l ≡ true) (low : i < length l) (at : e ≡ get_or l i e) where
  pub read_in_range : entry_in_range_in engine e ≡ true
  read_in_range = ap (entry_in_range_in engine) at ∙ every_at (entry_in_range_in engine) l h e i low

  in_range : (z : ℤ) → z ≡ engine.value_of e → entry_in_range z ≡ true
  in_range z q = ap entry_in_range q ∙ (and_true (engine.is_whole e) (entry_in_range (engine.value_of e)) read_in_range).1

  pub whole_is : (z : ℤ) → z ≡ engine.value_of e → to_z w32 (of_z w32 z) ≡ engine.value_of (get_or l i engine.absent)
  whole_is z q = held z (in_range z q) ∙ q ∙ ap engine.value_of (at ∙ get_or_default l i e engine.absent low)

  pub whole_in_range : (z : ℤ) → z ≡ engine.value_of e → entry_in_range (to_z w32 (of_z w32 z)) ≡ true
  whole_in_range z q = ap entry_in_range (held z (in_range z q)) ∙ in_range z q

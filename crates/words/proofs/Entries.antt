-- An entry in range, and its sample.
--     apart, sample_range                a mark's sample, as the code takes it
--     no_sample, none_both               an entry, or two, with no sample
use Prim.Native.Nat.{ℕ, min}
use mathlib.Core.Bool.{Bool, true, false}
use Rattle.std.specs.Prelude.{Option, Some, None}
use mathlib.Core.Path.{◌≡◌, refl, sym, ap, ◌∙◌}
use native.Mathlib.Omega.{arith}
use lib.IntN.{ℤ, pos, neg_ℤ, ◌-ℤ◌}
use lib.Signed.{◌≤ℤ◌}
use mir.Syntax.{w32}
use mir.Val.{SFits}
use Rattle.laws.proofs.Ints.{up, dn, sum, fits, signed}
use Rattle.laws.proofs.Tests.{clash}
use Rattle.entries.specs.Mark.{marked, sample_of}
use Rattle.entries.proofs.Marks.{sample_is}
use Rattle.encoding.specs.Word.{smaller}
use Rattle.entries.specs.SupportRange.{entry_in_range}
use Rattle.entries.proofs.Range.{Small, by_kind, range}

pub apart : (e : ℤ) → entry_in_range e ≡ true → SFits w32 (e -ℤ pos 1073741824)
apart e h = fits w32 _ (omega (arith, range e h, sum e (neg_ℤ (pos 1073741824))))

-- a sample
pub sample_range : (e : ℤ) → entry_in_range e ≡ true → marked e ≡ true → (pos 0 ≤ℤ (e -ℤ pos 1073741824)) × ((e -ℤ pos 1073741824) ≤ℤ pos 15)
sample_range e h t = by_kind e h (λ n l m q. omega (signed, ap up q, ap dn q, sum e (neg_ℤ (pos 1073741824)))) (λ u s. clash (sym t ∙ u))

abbrev empty : Option ℕ → Bool
empty None = true
empty (Some n) = false

not_some : {A : Type 0} (n : ℕ) → Some n ≡ None → A
not_some n e = clash (sym (ap empty e))

-- an entry with no sample is a sum
pub no_sample : (e : ℤ) → entry_in_range e ≡ true → sample_of e ≡ None → (marked e ≡ false) × Small e
no_sample e h z = by_kind e h (λ n l m q. not_some n (sym (sample_is n l) ∙ rw q at z)) (λ u s. (u, s))

pub none_both : (o p : Option ℕ) → smaller o p ≡ None → (o ≡ None) × (p ≡ None)
none_both None p e = (refl, e)
none_both (Some m) None e = not_some m e
none_both (Some m) (Some n) e = not_some (min m n) e

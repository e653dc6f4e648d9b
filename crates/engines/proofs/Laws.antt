-- The laws of both engines, and what follows of any engine.
--     stands_for, exact         what a whole number's entry stands for, and its value
--     possible_value            what a possible entry stands for is possible
--     possible_in_range_in      and in the range of the passes
--     entry_possible            the entry of a possible whole number is possible
--     keeps                     a step takes an entry that is possible for k to one that is possible for k + 1; sample 1 takes any entry
use Prim.Native.Nat.{ℕ, suc, ◌^◌, ◌≤◌, ◌<◌}
use mathlib.Core.Bool.{true}
use mathlib.Core.Path.{◌≡◌, refl, subst}
use borrow.Author.Tests.{le-ltb}
use native.Mathlib.Omega.{arith}
use lib.Ieee.{Float, binary64, of_int}
use lib.Ieee.Back.{Float-back_signed}
use lib.Ieee.Casts.{to_signed_in}
use lib.Ieee.Exact.{HasValue}
use lib.IntN.{ℤ, pos, negsuc, nat_abs}
use lib.Signed.{mag, lt_z}
use Rattle.laws.proofs.Tests.{and_true, true_and}
use Rattle.float_laws.proofs.Whole.{value}
use Rattle.float_laws.proofs.Integers.{whole_back}
use Rattle.settings.specs.declared.Settings.{Settings}
use Rattle.settings.specs.Settings.{max_samples}
use Rattle.settings.proofs.Parts.{InRange}
use Rattle.entries.specs.Possible.{possible}
use Rattle.entries.proofs.Range.{possible_in_range, range}
use Rattle.step.proofs.Steps.{possible_step}
use Rattle.engines.specs.Engine.{Engine, possible_in, step_in, in_floats, Kind, whole_numbers, floats, engine_of}
use Rattle.engines.specs.SupportRange.{entry_in_range_in}
use Rattle.engines.specs.Laws.{StandsFor, HasExactly, EngineLaws}

-- ---- floats

small : (s : Settings) (k : ℕ) (z : ℤ) → k ≤ max_samples → possible s k z ≡ true → mag z < 2 ^ 31
small s k (pos n) l ok = omega (arith, range (pos n) (possible_in_range s k (pos n) l ok))
small s k (negsuc n) l ok = omega (arith, range (negsuc n) (possible_in_range s k (negsuc n) l ok))

value_is : (z : ℤ) → mag z < 2 ^ 31 → HasValue (of_int binary64 z) (lt_z z (pos 0)) (nat_abs z) 1
value_is (pos n) h = rw (le-ltb n 0 (omega arith)) (value binary64 (pos n) (omega arith))
value_is (negsuc n) h = value binary64 (negsuc n) (omega arith)

pub stands_for : (kind : Kind) → StandsFor (engine_of kind)
stands_for whole_numbers = record { is_whole = λ s k z l ok. refl; value = λ s k z l ok. refl }
stands_for floats = record {
  is_whole = λ s k z l ok. (whole_back z (small s k z l ok)).0;
  value = λ s k z l ok. (whole_back z (small s k z l ok)).1;
}

exact : (kind : Kind) (s : Settings) (k : ℕ) (z : ℤ) → k ≤ max_samples → possible s k z ≡ true → HasExactly kind ((engine_of kind).entry_of z) z
exact whole_numbers s k z l ok = refl
exact floats s k z l ok = value_is z (small s k z l ok)

pub laws : EngineLaws
laws = record {
  stands_for = stands_for;
  exact = exact;
  only_exact = λ e f w.
      let z = in_floats.value_of e in
      subst (λ (x : Float). HasExactly floats x z) (Float-back_signed binary64 31 e (rw f tt) (rw w tt)).1 (value_is z (to_signed_in 31 e));
}

-- ---- any engine

module _ {E : Type 0} (engine : Engine E) where
  pub possible_value : (s : Settings) (k : ℕ) (e : E) → possible_in engine s k e ≡ true → possible s k (engine.value_of e) ≡ true
  possible_value s k e ok = (and_true (engine.is_whole e) (possible s k (engine.value_of e)) ok).1

  pub possible_in_range_in : (s : Settings) (k : ℕ) (e : E) → k ≤ max_samples → possible_in engine s k e ≡ true → entry_in_range_in engine e ≡ true
  possible_in_range_in s k e l ok =
      let t = and_true (engine.is_whole e) (possible s k (engine.value_of e)) ok in
      true_and t.0 (possible_in_range s k (engine.value_of e) l t.1)

  module _ (meant : StandsFor engine) where
    pub entry_possible : (s : Settings) (k : ℕ) (z : ℤ) → k ≤ max_samples → possible s k z ≡ true → possible_in engine s k (engine.entry_of z) ≡ true
    entry_possible s k z l ok = true_and (meant.is_whole s k z l ok) (rw (meant.value s k z l ok) ok)

    module _ (s : Settings) (r : InRange s) (k : ℕ) (e : E) (x : ℕ) (few : k ≤ 8) (h : 0 < k → possible_in engine s k e ≡ true) where
      pub keeps : possible_in engine s (suc k) (step_in engine s (suc k) e x) ≡ true
      keeps = entry_possible s (suc k) _ (omega arith) (possible_step s r k (engine.value_of e) x few (λ l. possible_value s k e (h l)))

-- The first number at which one of two tests holds.
use Prim.Native.Nat.{ℕ, zero, suc}
use mathlib.Core.Bool.{Bool, true, false, cond, ◌||◌}
use Rattle.std.specs.Prelude.{Option, Some, None}
use Rattle.std.specs.Option.{option_or}
use mathlib.Core.Path.{◌≡◌, refl, ap}
use native.Mathlib.Omega.{arith}
use Rattle.laws.specs.Numbers.{first_of}
use Rattle.laws.proofs.Firsts.{Says, first_says}
use Rattle.encoding.specs.Word.{smaller}

module _ (t u : ℕ → Bool) where
  one_more : (k : ℕ) (o p : Option ℕ) → Says t k o → Says u k p → (a b : Bool)
      → let new : Bool → Option ℕ = λ c. cond c (Some (suc k)) None in
      option_or (smaller o p) (new (a || b)) ≡ smaller (option_or o (new a)) (option_or p (new b))
  one_more k (Some x) (Some y) f g a b = refl
  one_more k (Some x) None f g a true = ap Some (omega (arith, f.high))
  one_more k (Some x) None f g a false = refl
  one_more k None p f g false b = refl
  one_more k None (Some y) f g true b = ap Some (omega (arith, g.high))
  one_more k None None f g true true = ap Some (omega arith)
  one_more k None None f g true false = refl

  pub first_or : (k : ℕ) → first_of k (λ n. t n || u n) ≡ smaller (first_of k t) (first_of k u)
  unfolding first_of
  first_or zero = refl
  first_or (suc k) = rw (first_or k) (one_more k (first_of k t) (first_of k u) (first_says t k) (first_says u k) (t (suc k)) (u (suc k)))

-- The laws of `nearest_at`.
--     Best              i is the nearest of those below n, and the first among equals
--     Says, nearest_says     what `nearest_at` finds is the best; where it finds nothing, the test holds nowhere
--     nearest_is, nearest_none    and back
use Prim.Native.Nat.{ℕ, zero, suc, ◌≤◌, ◌<◌}
use mathlib.Core.Bool.{Bool, true, false, cond}
use mathlib.Core.Logic.{inl, inr}
use mathlib.Core.Path.{◌≡◌, refl, sym, ap, ◌∙◌}
use native.Mathlib.Decide.{ℕ_discrete}
use native.Mathlib.Omega.{arith}
use borrow.Author.Tests.{leb-true, leb-false}
use lib.Dec.{leb}
use Rattle.laws.proofs.Tests.{clash}
use Rattle.std.specs.Prelude.{Option, Some, None}
use Rattle.places.specs.Finding.{nearer, nearest_at}
use Rattle.places.specs.Laws.{NotAfter}

module _ {a i b j : ℕ} where
  -- what is not after another, and the other not after it, are the same
  pub same : NotAfter a i b j → NotAfter b j a i → i ≡ j
  same (inl p) (inl q) = absurd (omega arith)
  same (inl p) (inr q) = absurd (omega arith)
  same (inr p) (inl q) = absurd (omega arith)
  same (inr p) (inr q) = omega arith

  not_further : NotAfter a i b j → a ≤ b
  not_further (inl p) = omega arith
  not_further (inr p) = omega arith

module _ (test : ℕ → Bool) (distance : ℕ → ℕ) where
  pub record Best (n i : ℕ) : Type 0 where
    pub below : i < n
    pub holds : test i ≡ true
    pub first : (j : ℕ) → j < n → test j ≡ true → NotAfter (distance i) i (distance j) j

  abbrev pub Says : ℕ → Option ℕ → Type 0
  Says n (Some i) = Best n i
  Says n None = (j : ℕ) → j < n → test j ≡ false

  -- of the numbers up to n, those before it and n itself
  up_to : {P : ℕ → Type 0} (n : ℕ) → ((j : ℕ) → j < n → P j) → P n → (j : ℕ) → j < suc n → P j
  up_to {P = P} n before here j l = at (ℕ_discrete j n)
    where
      at : Dec (j ≡ n) → P j
      at (yes q) = rw q here
      at (no ne) = before j (omega arith)

  here : (i : ℕ) → NotAfter (distance i) i (distance i) i
  here i = inr (refl, omega arith)

  more : (n : ℕ) (x : Option ℕ) → Says n x → (b : Bool) → test n ≡ b → Says (suc n) (nearer distance x (cond b (Some n) None))
  more n None s true e =
      record {
        below = omega arith;
        holds = e;
        first = up_to {P = λ j. test j ≡ true → NotAfter (distance n) n (distance j) j} n (λ j l t. clash (sym t ∙ s j l)) (λ t. here n);
      }
  more n None s false e = up_to {P = λ j. test j ≡ false} n s e
  more n (Some i) s false e =
      record {
        below = omega (arith, s.below);
        holds = s.holds;
        first = up_to {P = λ j. test j ≡ true → NotAfter (distance i) i (distance j) j} n s.first (λ t. clash (sym t ∙ e));
      }
  more n (Some i) s true e = by (leb (distance i) (distance n)) refl
    where
      by : (t : Bool) → leb (distance i) (distance n) ≡ t → Says (suc n) (cond t (Some i) (Some n))
      by true q =
          record {
            below = omega (arith, s.below);
            holds = s.holds;
            first = up_to {P = λ j. test j ≡ true → NotAfter (distance i) i (distance j) j} n s.first (λ u. nearly (ℕ_discrete (distance i) (distance n)) (leb-true _ _ q));
          }
        where
          nearly : Dec (distance i ≡ distance n) → distance i ≤ distance n → NotAfter (distance i) i (distance n) n
          nearly (yes z) l = inr (z, omega (arith, s.below))
          nearly (no z) l = inl (omega arith)
      by false q =
          record {
            below = omega arith;
            holds = e;
            first = up_to {P = λ j. test j ≡ true → NotAfter (distance n) n (distance j) j} n (λ j l u. inl (omega (arith, leb-false (distance i) (distance n) q, not_further (s.first j l u)))) (λ u. here n);
          }

  pub nearest_says : (n : ℕ) → Says n (nearest_at n test distance)
  unfolding nearest_at
  nearest_says zero = λ j l. absurd (omega arith)
  nearest_says (suc n) = more n (nearest_at n test distance) (nearest_says n) (test n) refl

  pub nearest_is : (n i : ℕ) → Best n i → nearest_at n test distance ≡ Some i
  nearest_is n i b = by (nearest_at n test distance) (nearest_says n)
    where
      by : (x : Option ℕ) → Says n x → x ≡ Some i
      by (Some k) s = ap Some (same (s.first i b.below b.holds) (b.first k s.below s.holds))
      by None s = clash (sym b.holds ∙ s i b.below)

  pub nearest_none : (n : ℕ) → ((j : ℕ) → j < n → test j ≡ false) → nearest_at n test distance ≡ None
  nearest_none n h = by (nearest_at n test distance) (nearest_says n)
    where
      by : (x : Option ℕ) → Says n x → x ≡ None
      by (Some k) s = clash (sym s.holds ∙ h k s.below)
      by None s = refl

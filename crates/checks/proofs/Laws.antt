-- The laws of a list of checks.
--     verdict_append     the checks of two lists, one after the other
--     verdict_each       one check more
--     verdict_none       where none of them refuses
--     both_taken         neither of two refuses
--     verdict_rest       the checks after the first
--     when_taken, found_taken     a test that does not hold, and a search that finds nothing
--     Spares                      an answer that is no refusal with a number n
--     when_spares, found_spares, none_spares     checks with other numbers give none, and a search that finds nothing
use Prim.Native.Nat.{ℕ, zero, suc, ◌<◌}
use mathlib.Core.Bool.{Bool, true, false}
use mathlib.Core.List.{List, [], ◌∷◌, ◌++◌}
use mathlib.Core.Path.{◌≡◌, refl, ap}
use borrow.Author.Tests.{eqb-false}
use native.Mathlib.Omega.{arith}
use lib.Dec.{eqb}
use Rattle.laws.specs.Lists.{each}
use Rattle.checks.specs.declared.Reason.{Reason}
use Rattle.checks.specs.declared.Refusal.{Refusal}
use Rattle.std.specs.Prelude.{Option, Some, None, Ok, Err}
use Rattle.checks.specs.Checks.{Answer, refusal, when, found, first, verdict}
use Rattle.checks.specs.Plain.{number}

pub first_taken : (a : Answer) → first a (Ok tt) ≡ a
first_taken (Ok tt) = refl
first_taken (Err r) = refl

pub verdict_append : (xs ys : List Answer) → verdict (xs ++ ys) ≡ first (verdict xs) (verdict ys)
unfolding verdict
verdict_append [] ys = refl
verdict_append ((Ok tt) ∷ xs) ys = verdict_append xs ys
verdict_append (Err r ∷ xs) ys = refl

pub verdict_each : (check : ℕ → Answer) (n : ℕ) → verdict (each check (suc n)) ≡ first (verdict (each check n)) (check n)
unfolding each verdict
verdict_each check n = rw (verdict_append (each check n) (check n ∷ []), first_taken (check n))

pub verdict_none : (check : ℕ → Answer) (n : ℕ) → ((i : ℕ) → i < n → check i ≡ Ok tt) → verdict (each check n) ≡ Ok tt
unfolding each verdict
verdict_none check zero h = refl
verdict_none check (suc n) h = rw (verdict_each check n, verdict_none check n (λ i k. h i (omega arith)), h n (omega arith))

pub both_taken : (a b : Answer) → first a b ≡ Ok tt → (a ≡ Ok tt) × (b ≡ Ok tt)
both_taken (Ok tt) b e = (refl, e)
both_taken (Err r) b e = (e, cc)

pub verdict_rest : (a : Answer) (l : List Answer) → verdict (a ∷ l) ≡ Ok tt → verdict l ≡ Ok tt
unfolding verdict
verdict_rest a l e = (both_taken a (verdict l) e).1

pub found_taken : (x : Option ℕ) (n : Reason) → found x n ≡ Ok tt → x ≡ None
found_taken (Some p) n e = let z : ◌≡◌ {A = ℕ} 0 1 = cc in absurd (omega arith)
found_taken None n e = refl

pub when_taken : (t : Bool) (n : Reason) → when t n ≡ Ok tt → t ≡ false
when_taken true n e = cc
when_taken false n e = refl

abbrev pub Spares : Reason → Answer → Type 0
Spares n a = (place : ℕ) → a ≡ Err (record { reason = n; place = place }) → ⊥

taken_spares : (n : Reason) → Spares n (Ok tt)
taken_spares n p e = let z : ◌≡◌ {A = ℕ} 0 1 = cc in omega arith

-- a refusal with another number
other_spares : (n : Reason) (r : Refusal) → eqb (number r.reason) (number n) ≡ false → Spares n (Err r)
other_spares n r ne p e = eqb-false (number r.reason) (number n) ne (ap (λ (t : Refusal). number t.reason) (same e))
  where
    same : {a b : Refusal} → ◌≡◌ {A = Answer} (Err a) (Err b) → a ≡ b
    same q = cc

module _ (n k : Reason) (l : List Answer) (ne : eqb (number k) (number n) ≡ false) where
  pub when_spares : (t : Bool) → (t ≡ false → Spares n (verdict l)) → Spares n (verdict (when t k ∷ l))
  unfolding verdict
  when_spares true h = other_spares n (refusal k) ne
  when_spares false h = h refl

  pub found_spares : (x : Option ℕ) → Spares n (verdict l) → Spares n (verdict (found x k ∷ l))
  unfolding verdict
  found_spares (Some p) h = other_spares n (record { reason = k; place = p }) ne
  found_spares None h = h

pub none_spares : (n k : Reason) (x : Option ℕ) → x ≡ None → Spares n (verdict (found x k ∷ []))
unfolding verdict
none_spares n k x e = rw e (taken_spares n)

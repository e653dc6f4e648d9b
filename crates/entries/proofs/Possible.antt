-- What `possible` says, in linear facts.
--     Mark, Near           a mark of a sample up to k; or near 128
--     fair, is_fair        from the test to the facts, and back
--     gap, gap_is          how far the mark of sample k lies above the highest sum
--     lowered_is           with marks moved down by the gap, one range tells
use Prim.Native.Nat.{ℕ, ◌+◌, ◌*◌, ◌≤◌}
use mathlib.Core.Bool.{Bool, true, cond, ◌&&◌}
use mathlib.Core.Logic.{◌⊎◌, inl, inr, ⊎_elim}
use mathlib.Core.Path.{◌≡◌, sym, ◌∙◌}
use native.Mathlib.Omega.{arith}
use lib.IntN.{ℤ, pos, neg_ℤ, ◌+ℤ◌, ◌-ℤ◌}
use lib.Signed.{le_z}
use Rattle.laws.proofs.Tests.{cases, and_true, or_true, or_right, or_false}
use Rattle.laws.proofs.Ints.{up, dn, sum, neg_up, neg_dn, is_le, not_le, signed}
use Rattle.entries.specs.Mark.{mark, marked}
use Rattle.entries.specs.Possible.{max_product, possible_after}

abbrev pub Mark : ℕ → ℤ → Type 0
Mark k e = (1073741825 + dn e ≤ up e) × (up e ≤ dn e + (1073741824 + k))

abbrev pub Near : ℕ → ℤ → Type 0
Near k e = (128 + dn e ≤ up e + k * max_product) × (up e ≤ dn e + (128 + k * max_product))

module _ (k : ℕ) where
  abbrev span : ℤ
  span = pos (k * max_product)

  low : up (pos 128 -ℤ span) + k * max_product ≡ dn (pos 128 -ℤ span) + 128
  low = omega (arith, sum (pos 128) (neg_ℤ span), neg_up span, neg_dn span)

  pub fair : (e : ℤ) → possible_after k e ≡ true → Mark k e ⊎ Near k e
  unfolding possible_after
  fair e t =
      ⊎_elim
      (λ m. inr (let h = and_true (le_z (pos 128 -ℤ span) e) (le_z e (pos 128 +ℤ span)) m in omega (signed, low)))
      (λ m. inl (let h = and_true (le_z (mark 1) e) (le_z e (mark k)) m in omega signed))
      (or_true (le_z (pos 128 -ℤ span) e && le_z e (pos 128 +ℤ span)) (le_z (mark 1) e && le_z e (mark k)) t)

  pub is_fair : (e : ℤ) → Mark k e ⊎ Near k e → possible_after k e ≡ true
  unfolding possible_after
  is_fair e (inl m) =
      rw (is_le (mark 1) e (omega arith), is_le e (mark k) (omega arith)) (or_right (le_z (pos 128 -ℤ span) e && le_z e (pos 128 +ℤ span)))
  is_fair e (inr m) = rw (is_le (pos 128 -ℤ span) e (omega (arith, low)), is_le e (pos 128 +ℤ span) (omega arith))

  abbrev pub gap : ℤ
  gap = mark k -ℤ (pos 128 +ℤ span)

  pub gap_is : up gap + (128 + k * max_product) ≡ dn gap + (1073741824 + k)
  gap_is = omega (arith, sum (mark k) (neg_ℤ (pos 128 +ℤ span)), neg_up (pos 128 +ℤ span), neg_dn (pos 128 +ℤ span))

  module _ (few : k ≤ 9) (e : ℤ) where
    abbrev inside : ℤ → Bool
    inside y = le_z (pos 128 -ℤ span) y && le_z y (pos 128 +ℤ span)

    -- a mark is inside exactly where its sample is at most k
    moved : up (e -ℤ gap) + (dn e + up gap) ≡ dn (e -ℤ gap) + (up e + dn gap)
    moved = omega (arith, sum e (neg_ℤ gap), neg_up gap, neg_dn gap)

    mark_inside : marked e ≡ true → inside (e -ℤ gap) ≡ le_z e (mark k)
    mark_inside t =
        rw (is_le (pos 128 -ℤ span) (e -ℤ gap) (omega (signed, low, moved, gap_is)))
        (cases (le_z e (mark k))
        (λ u. is_le (e -ℤ gap) (pos 128 +ℤ span) (omega (signed, moved, gap_is)) ∙ sym u)
        (λ u. not_le (e -ℤ gap) (pos 128 +ℤ span) (omega (signed, moved, gap_is)) ∙ sym u))

    pub lowered_is : inside (cond (marked e) (e -ℤ gap) e) ≡ possible_after k e
    unfolding possible_after
    lowered_is =
        cases (marked e)
        (λ t. rw (t, is_le (pos 128 -ℤ span) e (omega (signed, low)), not_le e (pos 128 +ℤ span) (omega signed)) (mark_inside t))
        (λ t. rw t (sym (or_false (inside e))))

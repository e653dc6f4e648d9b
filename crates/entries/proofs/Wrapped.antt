-- With the lowest number of a range moved to −2^31, modulo 2^32, one test tells the range.
use Prim.Native.Nat.{ℕ, ◌+◌, ◌*◌, ◌≤◌, ◌<◌}
use mathlib.Core.Bool.{◌&&◌}
use mathlib.Core.Logic.{◌⊎◌, inl, inr, ⊎_elim}
use mathlib.Core.Path.{◌≡◌, sym, ◌∙◌}
use native.Mathlib.Omega.{arith}
use lib.IntN.{ℤ, pos, neg_ℤ, ◌+ℤ◌, ◌-ℤ◌}
use lib.Signed.{le_z}
use mir.Syntax.{w32}
use Rattle.laws.proofs.Tests.{cases}
use Rattle.std.specs.Int.{int_wrap}
use Rattle.entries.proofs.Wraps.{by_wrap}
use Rattle.laws.proofs.Ints.{up, dn, sum, neg_up, neg_dn, is_le, not_le, signed}

module _ (s : ℕ) (small : s ≤ 268435456) where
  -- b moves 128 − s to −2^31
  abbrev Lowest : ℤ → Type 0
  Lowest b = ((up b + 2147483776 ≡ dn b + s) × (128 ≤ s)) ⊎ ((up b + 2147483776 ≡ dn b + s + 4294967296) × (s < 128))

  abbrev pub lowest : ℤ
  lowest = int_wrap w32 (neg_ℤ (pos 2147483648) +ℤ (pos s -ℤ pos 128))

  lowest_is : Lowest lowest
  lowest_is =
      let t = sum (neg_ℤ (pos 2147483648)) (pos s -ℤ pos 128) in
      let u = sum (pos s) (neg_ℤ (pos 128)) in
      by_wrap (neg_ℤ (pos 2147483648) +ℤ (pos s -ℤ pos 128)) (omega arith) (omega arith)
      (λ l e. absurd (omega arith))
      (λ l k e. inl (rw e (omega arith)))
      (λ l e. inr (omega arith))

  -- a number moved by b, from 128 − s on and below it
  abbrev Moved : ℤ → ℤ → Type 0
  Moved y z =
      ((up z + dn y + 2147483776 ≡ dn z + up y + s) × (dn z ≤ up z + 2147483648))
      ⊎ ((up z + dn y + 2147483776 ≡ dn z + up y + s + 4294967296) × (up z < dn z + 2147483648))

  moved_is : (b y : ℤ) → Lowest b → up y < dn y + 2147483648 → dn y ≤ up y + 2147483648 → Moved y (int_wrap w32 (y +ℤ b))
  moved_is b y (inl e) high low =
      let t = sum y b in
      by_wrap (y +ℤ b) (omega arith) (omega arith) (λ l q. absurd (omega arith)) (λ l k q. inl (rw q (omega arith))) (λ l q. inr (omega arith))
  moved_is b y (inr e) high low =
      let t = sum y b in
      by_wrap (y +ℤ b) (omega arith) (omega arith) (λ l q. inl (omega arith)) (λ l k q. inr (rw q (omega arith))) (λ l q. absurd (omega arith))

  tells : (y z : ℤ) → up y < dn y + 2147483648 → dn y ≤ up y + 2147483648 → Moved y z
      → le_z z (neg_ℤ (pos 2147483648) +ℤ pos (2 * s)) ≡ (le_z (pos 128 -ℤ pos s) y && le_z y (pos 128 +ℤ pos s))
  tells y z high low m =
      let t = sum (neg_ℤ (pos 2147483648)) (pos (2 * s)) in
      let u = sum (pos 128) (neg_ℤ (pos s)) in
      let v = neg_up (pos s) in
      let w = neg_dn (pos s) in
      ⊎_elim
      (λ e. rw (is_le (pos 128 -ℤ pos s) y (omega arith))
      (cases (le_z y (pos 128 +ℤ pos s))
      (λ h. is_le z _ (omega signed) ∙ sym h)
      (λ h. not_le z _ (omega signed) ∙ sym h)))
      (λ e. rw (not_le (pos 128 -ℤ pos s) y (omega arith)) (not_le z _ (omega arith)))
      m

  pub one_test : (y : ℤ) → up y < dn y + 2147483648 → dn y ≤ up y + 2147483648
      → le_z (int_wrap w32 (y +ℤ lowest)) (neg_ℤ (pos 2147483648) +ℤ pos (2 * s)) ≡ (le_z (pos 128 -ℤ pos s) y && le_z y (pos 128 +ℤ pos s))
  one_test y high low = tells y (int_wrap w32 (y +ℤ lowest)) high low (moved_is lowest y lowest_is high low)

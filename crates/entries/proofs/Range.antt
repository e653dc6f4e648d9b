-- The range of an entry that is possible after at most nine samples.
--     possible_in_range     it lies there
--     by_kind               a mark of sample 1 to 9, or a sum within 2^28
--     range                 the range of both
use Prim.Native.Nat.{ℕ, ◌+◌, ◌≤◌}
use mathlib.Core.Bool.{true, false, ◌&&◌}
use mathlib.Core.Logic.{⊎_elim}
use mathlib.Core.Path.{◌≡◌, sym, ap, ◌∙◌}
use native.Mathlib.Omega.{arith}
use lib.IntN.{ℤ, pos, neg_ℤ}
use lib.Signed.{le_z, ◌≤ℤ◌}
use Rattle.laws.proofs.Ints.{up, dn, is_le, signed}
use Rattle.laws.proofs.Tests.{clash, and_true, or_true, or_right}
use Rattle.settings.specs.declared.Settings.{Settings}
use Rattle.settings.specs.Settings.{max_samples}
use Rattle.entries.specs.Mark.{mark, marked}
use Rattle.entries.specs.Possible.{possible}
use Rattle.entries.specs.SupportRange.{entry_in_range}
use Rattle.entries.proofs.Marks.{by_mark}
use Rattle.entries.proofs.Possible.{fair}

pub possible_in_range : (s : Settings) (k : ℕ) (e : ℤ) → k ≤ max_samples → possible s k e ≡ true → entry_in_range e ≡ true
unfolding entry_in_range
possible_in_range s k e h p =
    ⊎_elim
    (λ m. rw (is_le (mark 1) e (omega arith), is_le e (mark max_samples) (omega arith)))
    (λ m. rw (is_le (neg_ℤ (pos 268435456)) e (omega arith), is_le e (pos 268435456) (omega arith)) (or_right (le_z (mark 1) e && le_z e (mark max_samples))))
    (fair k e p)

-- within 2^28 of 0
abbrev pub Small : ℤ → Type 0
Small z = (neg_ℤ (pos 268435456) ≤ℤ z) × (z ≤ℤ pos 268435456)

pub by_kind : {A : Type 0} (e : ℤ) → entry_in_range e ≡ true → ((n : ℕ) → 1 ≤ n → n ≤ max_samples → e ≡ mark n → A) → (marked e ≡ false → Small e → A) → A
unfolding entry_in_range
by_kind e h f g =
    ⊎_elim
    (λ m. let t = and_true (le_z (mark 1) e) (le_z e (mark max_samples)) m in
    by_mark e (λ n l q. f n l (omega (signed, ap up q, ap dn q)) q) (λ u. clash (sym t.0 ∙ u)))
    (λ m. let t = and_true (le_z (neg_ℤ (pos 268435456)) e) (le_z e (pos 268435456)) m in
    by_mark e (λ n l q. absurd (omega (signed, ap up q, ap dn q))) (λ u. g u (omega signed)))
    (or_true (le_z (mark 1) e && le_z e (mark max_samples)) (le_z (neg_ℤ (pos 268435456)) e && le_z e (pos 268435456)) h)

pub range : (e : ℤ) → entry_in_range e ≡ true → (dn e ≤ up e + 268435456) × (up e ≤ dn e + 1073741833)
range e h = by_kind e h (λ n l m q. omega (arith, ap up q, ap dn q)) (λ u s. omega signed)

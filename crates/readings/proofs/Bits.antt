-- Readings are in range exactly where the bits of all of them together are.
--     together         of two
--     all_together     of some bits and a list
--     four_together    of some bits and four lists, an element of each at once
use Prim.Native.Nat.{ℕ}
use mathlib.Core.Bool.{◌&&◌}
use mathlib.Core.List.{List, [], ◌∷◌}
use mathlib.Core.Path.{◌≡◌, refl, sym, ◌∙◌}
use native.Mathlib.Omega.{arith}
use borrow.Author.Tests.{leb-true, leb-false, le-leb, lt-leb}
use lib.Bits.{bit_or, or_lt}
use lib.Dec.{leb}
use lib.ListN.{length}
use Rattle.std.specs.List.{fold, zip}
use Rattle.laws.specs.Lists.{every}
use Rattle.laws.proofs.Quarters.{Four, four_flag}
use Rattle.laws.proofs.Tests.{cases, and_right, and_assoc}
use Rattle.laws.proofs.Bits.{or_above}
use Rattle.readings.specs.Readings.{max_reading, reading_in_range}

pub together : (a b : ℕ) → reading_in_range (bit_or a b) ≡ (reading_in_range a && reading_in_range b)
together a b =
    cases (leb a max_reading)
    (λ p. cases (leb b max_reading)
    (λ q. rw (p, q) (le-leb (bit_or a b) max_reading (omega (arith, or_lt 14 a b (omega (arith, leb-true a max_reading p)) (omega (arith, leb-true b max_reading q))))))
    (λ q. rw (p, q) (lt-leb (bit_or a b) max_reading (omega (arith, or_above a b, leb-false b max_reading q)))))
    (λ p. rw p (lt-leb (bit_or a b) max_reading (omega (arith, or_above a b, leb-false a max_reading p))))

pub all_together : (bits : ℕ) (l : List ℕ) → reading_in_range (fold bit_or bits l) ≡ (reading_in_range bits && every reading_in_range l)
unfolding every
all_together bits [] = sym (and_right (reading_in_range bits))
all_together bits (x ∷ l) = all_together (bit_or bits x) l ∙ rw (together bits x) (and_assoc (reading_in_range bits) (reading_in_range x) (every reading_in_range l))

abbrev pub bits_of_four : ℕ → (ℕ × ℕ) × (ℕ × ℕ) → ℕ
bits_of_four bits row = bit_or bits (bit_or (bit_or row.0.0 row.0.1) (bit_or row.1.0 row.1.1))

pub four_together : (bits : ℕ) (a b c d : List ℕ) → length b ≡ length a → length c ≡ length a → length d ≡ length a
    → reading_in_range (fold bits_of_four bits (zip (zip a b) (zip c d))) ≡ (reading_in_range bits && Four reading_in_range a b c d)
unfolding every
four_together bits [] [] [] [] h k l = sym (and_right (reading_in_range bits))
four_together bits (x ∷ a) (y ∷ b) (u ∷ c) (v ∷ d) h k l =
    four_together (bits_of_four bits ((x, y), (u, v))) a b c d (omega arith) (omega arith) (omega arith)
    ∙ rw (together bits (bit_or (bit_or x y) (bit_or u v)), together (bit_or x y) (bit_or u v), together x y, together u v)
    (sym (four_flag reading_in_range (x ∷ a) (y ∷ b) (u ∷ c) (v ∷ d) 0 0 (omega arith) (omega arith) (omega arith) (omega arith) (reading_in_range bits) _ _ _ _ refl refl refl refl))
four_together bits [] (y ∷ b) c d h k l = absurd (omega arith)
four_together bits [] [] (u ∷ c) d h k l = absurd (omega arith)
four_together bits [] [] [] (v ∷ d) h k l = absurd (omega arith)
four_together bits (x ∷ a) [] c d h k l = absurd (omega arith)
four_together bits (x ∷ a) (y ∷ b) [] d h k l = absurd (omega arith)
four_together bits (x ∷ a) (y ∷ b) (u ∷ c) [] h k l = absurd (omega arith)

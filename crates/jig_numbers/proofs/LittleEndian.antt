-- The laws of `u16_le_all`.
--     u16_le_all_take, u16_le_all_at, u16_le_all_length     a part, an element, how many
use Prim.Native.Nat.{ℕ, zero, suc, ◌+◌, ◌*◌, ◌/◌, ◌<◌}
use mathlib.Core.List.{List, [], ◌∷◌}
use mathlib.Core.Path.{◌≡◌, refl, ap}
use native.Mathlib.Omega.{arith}
use lib.ListN.{length, get_or, take}
use Rattle.record.specs.Record.{u16_le_at}
use Rattle.jig_numbers.specs.LittleEndian.{u16_le_all}

pub u16_le_all_take : (n : ℕ) (l : List ℕ) → u16_le_all (take (2 * n) l) ≡ take n (u16_le_all l)
unfolding u16_le_all
u16_le_all_take zero l = refl
u16_le_all_take (suc n) l = let e : 2 * suc n ≡ suc (suc (2 * n)) = omega arith in rw e (by (u16_le_all_take n) l)
  where
    by : ((l : List ℕ) → u16_le_all (take (2 * n) l) ≡ take n (u16_le_all l)) → (l : List ℕ) → u16_le_all (take (suc (suc (2 * n))) l) ≡ take (suc n) (u16_le_all l)
    by more [] = refl
    by more (x ∷ []) = refl
    by more (x ∷ y ∷ l) = ap (λ (k : List ℕ). (x + 256 * y) ∷ k) (more l)

pub u16_le_all_length : (l : List ℕ) → length (u16_le_all l) ≡ length l / 2
unfolding u16_le_all
u16_le_all_length [] = refl
u16_le_all_length (x ∷ []) = refl
u16_le_all_length (x ∷ y ∷ l) = omega (arith, u16_le_all_length l)

pub u16_le_all_at : (l : List ℕ) (i : ℕ) → i < length (u16_le_all l) → get_or (u16_le_all l) i 0 ≡ u16_le_at l (2 * i)
unfolding u16_le_all
u16_le_all_at [] i h = absurd (omega arith)
u16_le_all_at (x ∷ []) i h = absurd (omega arith)
u16_le_all_at (x ∷ y ∷ l) zero h = refl
u16_le_all_at (x ∷ y ∷ l) (suc i) h =
    let e : 2 * suc i ≡ suc (suc (2 * i)) = omega arith in
    let f : suc (suc (2 * i)) + 1 ≡ suc (suc (2 * i + 1)) = omega arith in
    rw (e, f) (u16_le_all_at l i (omega arith))

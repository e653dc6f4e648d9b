-- The parts of an input.
--     take_least, drop_least     a part that is cut where the list ends
--     drop_take                  the end of a front
--     record_part                the record
--     readings_part              the first readings
use Prim.Native.Nat.{ℕ, zero, suc, ◌+◌, ◌-◌, ◌*◌, ◌/◌, ◌≤◌, min}
use mathlib.Core.List.{List, [], ◌∷◌}
use mathlib.Core.Path.{◌≡◌, sym, ◌∙◌}
use borrow.Author.Tests.{ltb-true, ltb-false}
use native.Mathlib.Omega.{arith}
use lib.Dec.{ltb}
use lib.ListN.{length, take, drop, length-drop, drop_of_length-le}
use lib.Seq.{take_all, take-nil, take-take}
use Rattle.laws.proofs.Tests.{cases}
use Rattle.jig_numbers.specs.LittleEndian.{u16_le_all}
use Rattle.jig_numbers.proofs.LittleEndian.{u16_le_all_take, u16_le_all_length}
use Rattle.jig_input.specs.Input.{record_length, record_of, readings_at, readings_of, max_readings}

module _ {A : Type 0} where
  take_least : (n m : ℕ) (l : List A) → n ≡ min m (length l) → take n l ≡ take m l
  take_least n m l e =
      cases (ltb m (length l))
      (λ q. let h : n ≡ m = omega (arith, ltb-true m (length l) q) in rw h)
      (λ q. let h : length l ≤ m = ltb-false _ _ q in take_all n l (omega arith) ∙ sym (take_all m l h))

  drop_least : (n m : ℕ) (l : List A) → n ≡ min m (length l) → drop n l ≡ drop m l
  drop_least n m l e =
      cases (ltb m (length l))
      (λ q. let h : n ≡ m = omega (arith, ltb-true m (length l) q) in rw h)
      (λ q. let h : length l ≤ m = ltb-false _ _ q in drop_of_length-le l {i = n} (omega arith) ∙ sym (drop_of_length-le l h))

  pub drop_take : (i n : ℕ) (l : List A) → drop i (take n l) ≡ take (n - i) (drop i l)
  drop_take zero n l = let e : n - 0 ≡ n = omega arith in rw e
  drop_take (suc i) zero l = let e : 0 - suc i ≡ 0 = omega arith in rw e
  drop_take (suc i) (suc n) [] = sym (take-nil (suc n - suc i))
  drop_take (suc i) (suc n) (x ∷ l) = let e : suc n - suc i ≡ n - i = omega arith in rw e (drop_take i n l)

-- from a place to a place, both cut where the list ends
pub record_part : (l : List ℕ) (from start : ℕ) → from ≡ min 6 (length l) → start ≡ min (readings_at l) (length l) → take (start - from) (drop from l) ≡ record_of l
record_part l from start e f =
    rw (drop_least from 6 l e) (take_least (start - from) (record_length l) (drop 6 l) (rw length-drop (omega arith)))

-- the first bytes after the record, which hold the first readings
module _ (l : List ℕ) (start fed : ℕ) (e : start ≡ min (readings_at l) (length l)) (f : fed ≡ min ((length l - start) / 2) max_readings) where
  pub readings_part : take fed (u16_le_all (take (start + 2 * fed - start) (drop start l))) ≡ take max_readings (readings_of l)
  readings_part =
      let d : start + 2 * fed - start ≡ 2 * fed = omega arith in
      rw (d, drop_least start (readings_at l) l e, u16_le_all_take fed (drop (readings_at l) l), take-take fed fed (readings_of l) (omega arith))
      (take_least fed max_readings (readings_of l) (rw (u16_le_all_length, length-drop) (omega arith)))

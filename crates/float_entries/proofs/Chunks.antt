-- A test of each element.
--     every_chunk              chunk by chunk, and what is left over
--     one_less, none_left      a loop that keeps a flag: the flag, and what is left
use Prim.Native.Nat.{ℕ, zero, suc, ◌+◌, ◌*◌, ◌<◌, ◌≤◌}
use mathlib.Core.Bool.{Bool, ◌&&◌}
use mathlib.Core.List.{List, [], ◌∷◌}
use mathlib.Core.Path.{◌≡◌, sym, ap, ◌∙◌}
use native.Mathlib.Nat.{zero-mul, suc-mul, add_comm}
use native.Mathlib.Omega.{arith}
use native.Mathlib.Numerals.{add-one}
use lib.ListN.{length, get_or, take, drop, take-append-drop}
use lib.Seq.{drop-cons, drop-drop}
use Rattle.std.specs.Simd.{first_chunks}
use Rattle.laws.specs.Lists.{every}
use Rattle.laws.proofs.Elements.{every_append}
use Rattle.laws.proofs.Tests.{and_assoc, and_right}

module _ {A : Type 0} (test : A → Bool) where
  parts : (n : ℕ) (l : List A) → every test (take n l) && every test (drop n l) ≡ every test l
  parts n l = sym (every_append test (take n l) (drop n l)) ∙ ap (every test) (take-append-drop n l)

  pub every_chunk : (n count : ℕ) (l : List A) → every (every test) (first_chunks n count l) && every test (drop (count * n) l) ≡ every test l
  unfolding every
  every_chunk n zero l = ap (λ k. every test (drop k l)) (zero-mul n)
  every_chunk n (suc count) l =
      let rest : drop (suc count * n) l ≡ drop (count * n) (drop n l) = ap (λ k. drop k l) (suc-mul count n ∙ add_comm (count * n) n) ∙ sym (drop-drop (count * n) n l) in
      rw rest
      (and_assoc (every test (take n l)) (every (every test) (first_chunks n count (drop n l))) (every test (drop (count * n) (drop n l)))
      ∙ ap (λ b. every test (take n l) && b) (every_chunk n count (drop n l))
      ∙ parts n l)

  -- what is left from i on, and one element less
  pub one_less : (l : List A) (i : ℕ) (d : A) (ok : Bool) → i < length l → (ok && every test (drop i l)) ≡ (ok && test (get_or l i d) && every test (drop (i + 1) l))
  unfolding every
  one_less l i d ok h = rw (add-one, drop-cons l i d h) (sym (and_assoc ok (test (get_or l i d)) (every test (drop (suc i) l))))

  pub none_left : (l : List A) (i : ℕ) (ok : Bool) → length l ≤ i → (ok && every test (drop i l)) ≡ ok
  unfolding every
  none_left [] zero ok h = and_right ok
  none_left [] (suc i) ok h = and_right ok
  none_left (x ∷ l) zero ok h = absurd (omega arith)
  none_left (x ∷ l) (suc i) ok h = none_left l i ok (omega arith)

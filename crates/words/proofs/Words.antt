-- A word, from a sample or a total.
--     kept                       a sample is left as it is by the mask
--     cut_word, cut_lt           the word of a total
--     pixel, square              what the code computes is the word
use Prim.Native.Nat.{ℕ, suc, ◌+◌, ◌-◌, ◌*◌, ◌/◌, ◌%◌, ◌^◌, ◌≤◌, ◌<◌}
use mathlib.Core.Bool.{Bool, true, false, cond}
use mathlib.Core.List.{List, [], ◌∷◌}
use Rattle.std.specs.Prelude.{Option, Some, None}
use mathlib.Core.Path.{◌≡◌, refl, ap, ◌∙◌}
use native.Mathlib.Nat.{mod-eq_of_lt, mod-lt, lt_of_lt_of_le, one-mul, mul_comm}
use native.Mathlib.Omega.{arith}
use borrow.Author.Tests.{le-ltb}
use lib.Bits.{bit_and, and_mask}
use lib.IntN.{ℤ, pos, negsuc, ◌+ℤ◌, ◌-ℤ◌, nat_abs, +ℤ_idr, +ℤ_assoc}
use lib.ListN.{length}
use lib.Pow.{pow-add, pow_pos}
use lib.Signed.{lt_z, ◌≤ℤ◌}
use mir.Syntax.{w32}
use mir.Val.{to_z, of_z}
use mir.Facts.{to_z_pos}
use Rattle.laws.specs.Lists.{total}
use Rattle.laws.proofs.Ints.{signed}
use Rattle.laws.proofs.Numbers.{less}
use Rattle.word_codes.specs.Codes.{saturated_at, negative_code, word_modulus}
use Rattle.entries.specs.Mark.{marked, sample_of}
use Rattle.entries.proofs.Marks.{is_marked, sample_is, sample_none, by_mark}
use Rattle.encoding.specs.Word.{smaller, smallest_mark, is_negative, cut_by, word_by, word_of}
use Rattle.words.proofs.Raising.{Raised}

-- a sample
pub kept : (z : ℤ) → (pos 0 ≤ℤ z) × (z ≤ℤ pos 15) → (bit_and (nat_abs z) 15 ≡ nat_abs z) × (nat_abs z ≤ 15)
kept (pos n) h = let k : n ≤ 15 = omega signed in (and_mask n 4 ∙ mod-eq_of_lt (omega arith), k)
kept (negsuc n) h = absurd (omega signed)

-- the word of a total: the sign rule, or what is left once it is cut
abbrev pub cut_word : ℕ → ℤ → ℕ
cut_word d z = cond (lt_z z (pos 0)) negative_code (cut_by d z)

pub cut_lt : (d : ℕ) (z : ℤ) → cut_word d z < word_modulus
cut_lt d z = either (lt_z z (pos 0)) (nat_abs z / d)
  where
    either : (t : Bool) (n : ℕ) → cond t negative_code (n % word_modulus) < word_modulus
    either true n = omega arith
    either false n = omega arith

-- the last k bits, as the code takes them
masked : (x k : ℕ) → 2 ^ k ≤ 2147483648 → to_z w32 (bit_and x (2 ^ k - 1)) ≡ pos (x % 2 ^ k)
masked x k h = ap (to_z w32) (and_mask x k) ∙ to_z_pos w32 {n = x % 2 ^ k} (lt_of_lt_of_le (mod-lt x (pow_pos k)) h)

pub pixel : (e : ℤ) (r : ℕ) → cond (marked e) (saturated_at (nat_abs (e -ℤ pos 1073741824))) (cut_word (2 ^ r) e) ≡ word_of r (e ∷ [])
unfolding smallest_mark is_negative total
pixel e r =
    by_mark e
    (λ n l q. rw (q, is_marked n l, sample_is n l, less (1073741824 + n) 1073741824 (omega arith)) (omega arith))
    (λ u. rw (u, sample_none e u, +ℤ_idr e, one-mul (2 ^ r)))

-- ---- a square

smaller_none : (o : Option ℕ) → smaller o None ≡ o
smaller_none None = refl
smaller_none (Some n) = refl

smaller_assoc : (o p q : Option ℕ) → smaller (smaller o p) q ≡ smaller o (smaller p q)
smaller_assoc None p q = refl
smaller_assoc (Some a) None q = refl
smaller_assoc (Some a) (Some b) None = refl
smaller_assoc (Some a) (Some b) (Some c) = ap Some (omega arith)

-- as the code takes it, by two and two
pub by_pairs : (a b c d : ℤ) → smaller (smaller (sample_of a) (sample_of b)) (smaller (sample_of c) (sample_of d)) ≡ smallest_mark (a ∷ b ∷ c ∷ d ∷ [])
unfolding smallest_mark
by_pairs a b c d = rw (smaller_none (sample_of d)) (smaller_assoc (sample_of a) (sample_of b) (smaller (sample_of c) (sample_of d)))

-- the last four bits
abbrev pub last_bits : ℤ → ℤ
last_bits z = to_z w32 (bit_and (of_z w32 z) 15)

last_is : (x : ℕ) → to_z w32 (bit_and x 15) ≡ pos (x % 16)
last_is x = masked x 4 (omega arith)

pub last_range : (z : ℤ) → (pos 0 ≤ℤ last_bits z) × (last_bits z ≤ℤ pos 15)
last_range z = rw (last_is (of_z w32 z)) (omega signed, omega signed)

word_of_lem : (r : ℕ) (es : List ℤ) (o : Option ℕ) (z t : ℤ) → Raised o z → (o ≡ None → t ≡ total es)
    → cond (lt_z z (pos 0)) (saturated_at (nat_abs (last_bits z))) (cut_word (length es * 2 ^ r) t) ≡ word_by r o es
unfolding is_negative
word_of_lem r es None (pos m) t f h = rw (le-ltb m 0 (omega arith), h refl)
word_of_lem r es None (negsuc m) t f h = absurd (omega arith)
word_of_lem r es (Some n) (pos m) t f h = absurd (omega arith)
word_of_lem r es (Some n) (negsuc m) t f h = rw (last_is (4294967296 - suc m)) (omega arith)

pub square : (a b c d : ℤ) (r : ℕ) (z t : ℤ) → let o = smallest_mark (a ∷ b ∷ c ∷ d ∷ []) in
    Raised o z → (o ≡ None → t ≡ a +ℤ b +ℤ (c +ℤ d))
    → cond (lt_z z (pos 0)) (saturated_at (nat_abs (last_bits z))) (cut_word (2 ^ (r + 2)) t) ≡ word_of r (a ∷ b ∷ c ∷ d ∷ [])
unfolding total
square a b c d r z t f h =
    let es = a ∷ b ∷ c ∷ d ∷ [] in
    let u : a +ℤ b +ℤ (c +ℤ d) ≡ total es = rw (+ℤ_idr d) (+ℤ_assoc a b (c +ℤ d)) in
    let v : 2 ^ (r + 2) ≡ 4 * 2 ^ r = pow-add 2 r 2 ∙ mul_comm (2 ^ r) 4 in
    rw v (word_of_lem r es (smallest_mark es) z t f (λ e. h e ∙ u))

-- The mask of the lanes that equal themselves.
--     none_missing        it is full where each is a number
use Prim.Native.Nat.{ℕ, suc, ◌+◌, ◌-◌, ◌*◌, ◌%◌, ◌^◌, ◌≤◌, ◌<◌}
use mathlib.Core.Bool.{Bool, true, false, cond, not, ◌&&◌}
use mathlib.Core.List.{List, [], ◌∷◌, map}
use mathlib.Core.Path.{◌≡◌, refl, sym, ap, ◌∙◌}
use native.Mathlib.Nat.{pow-succ'}
use native.Mathlib.Omega.{arith}
use borrow.Author.Tests.{eqb-true, eqb-false, eq-eqb, ne_eqb}
use lib.Dec.{eqb, eqb_refl}
use lib.Ieee.{Float, nan, inf, fin, eq, is_nan, up, down}
use lib.Ieee.Bits.{is_true}
use lib.Lanes.{zip2, mask_l, top}
use lib.ListN.{length}
use lib.Pow.{pow_pos}
use mir.Syntax.{w64}
use Rattle.std.proofs.lemmas.Simd.{tops_compared, mask_l-mod}
use Rattle.laws.specs.Lists.{every}
use Rattle.laws.proofs.Tests.{cases}

equals_itself : (x : Float) → eq x x ≡ not (is_nan x)
unfolding eq is_nan
equals_itself nan = refl
equals_itself (inf true) = refl
equals_itself (inf false) = refl
equals_itself (fin true m e) = rw (is_true (eqb (m * up e * down e) (m * up e * down e)) (eqb_refl (m * up e * down e))) refl
equals_itself (fin false m e) = rw (is_true (eqb (m * up e * down e) (m * up e * down e)) (eqb_refl (m * up e * down e))) refl

abbrev pub is_number : Float → Bool
is_number x = not (is_nan x)

pairs : (xs : List Float) → zip2 eq xs xs ≡ map is_number xs
pairs [] = refl
pairs (x ∷ xs) = λ i. equals_itself x i ∷ pairs xs i

lengths : (xs : List Float) → length (map is_number xs) ≡ length xs
lengths [] = refl
lengths (x ∷ xs) = ap suc (lengths xs)

-- one lane more
one_more : (b r : Bool) (m p : ℕ) → 0 < p → eqb m (p - 1) ≡ r → eqb (cond b 1 0 + 2 * m) (2 * p - 1) ≡ (b && r)
one_more true r m p h e =
    cases r
    (λ t. eq-eqb (1 + 2 * m) (2 * p - 1) (let q = eqb-true m (p - 1) (e ∙ t) in omega arith) ∙ sym t)
    (λ t. ne_eqb (1 + 2 * m) (2 * p - 1) (λ q. eqb-false m (p - 1) (e ∙ t) (omega arith)) ∙ sym t)
one_more false r m p h e = ne_eqb (0 + 2 * m) (2 * p - 1) (λ q. omega arith)

full : (xs : List Float) → eqb (mask_l (map is_number xs)) (2 ^ length xs - 1) ≡ every is_number xs
unfolding every
full [] = refl
full (x ∷ xs) =
    ap (λ (n : ℕ). eqb (cond (is_number x) 1 0 + 2 * mask_l (map is_number xs)) (n - 1)) (pow-succ' 2 (length xs))
    ∙ one_more (is_number x) (every is_number xs) (mask_l (map is_number xs)) (2 ^ length xs) (pow_pos (length xs)) (full xs)

pub none_missing : (xs : List Float) → length xs ≡ 8
    → eqb (mask_l (map (top 63) (zip2 (λ a b. cond (eq a b) 18446744073709551615 0) xs xs)) % 18446744073709551616) 255 ≡ every is_number xs
none_missing xs h =
    let bits = tops_compared w64 eq xs xs ∙ pairs xs in
    let few : length (map is_number xs) ≤ 64 = omega (arith, lengths xs) in
    let n : 255 ≡ 2 ^ length xs - 1 = rw h refl in
    rw (bits, mask_l-mod (map is_number xs) 64 few, n) (full xs)

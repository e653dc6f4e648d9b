-- The limits that *Read a word* gives are whole numbers of 64 bits.
use Prim.Native.Nat.{ℕ, ◌+◌, ◌*◌, ◌^◌, ◌≤◌, ◌<◌}
use mathlib.Core.Bool.{true, ◌&&◌}
use mathlib.Core.List.{◌++◌}
use mathlib.Core.Path.{◌≡◌, subst, sym}
use borrow.Author.Tests.{ltb-true, leb-true, le-leb}
use native.Mathlib.Nat.{mul-le-mul}
use native.Mathlib.Omega.{arith}
use lib.Dec.{T, ltb, leb, eqb}
use lib.Ieee.{binary64, in_unsigned, in_float}
use lib.Ieee.Back.{unsigned_back}
use lib.Pow.{pow_mono}
use Rattle.std.specs.Prelude.{Ok}
use Rattle.laws.proofs.Tests.{cases, and_true}
use Rattle.settings.specs.Settings.{truncation_in_range}
use Rattle.word_codes.specs.Codes.{ordinary_end, first_saturated, last_saturated, negative_code}
use Rattle.meaning.specs.Meaning.{limit, meaning, read_word}
use Rattle.meaning.proofs.Laws.{laws}
use Rattle.jig_text.specs.Text.{decimal, dots, whole_of, meaning_text}
use Rattle.jig_text.specs.SupportRequires.{WholeLimits}

-- the float of a whole number, as a whole number again
back : (n : ℕ) → n ≤ 262016 → T (in_unsigned binary64 64 (limit n)) × (whole_of (limit n) ≡ n)
unfolding in_float
back n h = unsigned_back binary64 64 n (subst T (sym (le-leb n 9007199254740992 (omega arith))) tt) (omega arith)

whole : (n : ℕ) → n ≤ 262016 → T (in_unsigned binary64 64 (limit n))
whole n h = (back n h).0

pub whole_is : (n : ℕ) → n ≤ 262016 → whole_of (limit n) ≡ n
whole_is n h = (back n h).1

-- the limits of ordinary words
low_high : (r w : ℕ) → truncation_in_range r ≡ true → w < ordinary_end → (w * 2 ^ r ≤ 262016) × ((w + 1) * 2 ^ r ≤ 262016)
low_high r w in_r h =
    let b : 2 ^ r ≤ 8 = pow_mono (leb-true r 3 (and_true (leb 1 r) (leb r 3) in_r).1) in
    (mul-le-mul {n₂ = ordinary_end} (omega arith) b, mul-le-mul {n₂ = ordinary_end} (omega arith) b)

of_meaning : (r w : ℕ) → truncation_in_range r ≡ true → WholeLimits (Ok (meaning r w))
unfolding meaning
of_meaning r w in_r =
    cases (ltb w ordinary_end)
    (λ p. let l = low_high r w in_r (ltb-true w ordinary_end p) in rw p (whole (w * 2 ^ r) l.0, whole ((w + 1) * 2 ^ r) l.1))
    (λ p. rw p (
    cases (leb first_saturated w && leb w last_saturated)
    (λ q. rw q tt)
    (λ q. rw q (cases (eqb w negative_code) (λ z. rw z tt) (λ z. rw z tt)))))

pub whole_limits : (r w : ℕ) → WholeLimits (read_word r w)
unfolding read_word
whole_limits r w = cases (truncation_in_range r) (λ q. rw q (of_meaning r w q)) (λ q. rw q tt)

pub ordinary_text : (r w : ℕ) → truncation_in_range r ≡ true → w < ordinary_end
    → meaning_text (read_word r w) ≡ (decimal (w * 2 ^ r) ++ dots) ++ decimal ((w + 1) * 2 ^ r)
ordinary_text r w in_r h =
    let l = low_high r w in_r h in
    rw ((laws.limits_exact r w in_r h).0, whole_is (w * 2 ^ r) l.0, whole_is ((w + 1) * 2 ^ r) l.1)

-- Entries with 2^30 added, modulo 2^32, as `raised` has them.
--     Raised                     a mark of sample n is n above −2^31; any other number is not negative
--     raise, entry_raised        a raised entry, and what is known of it
--     lower                      what is known of the smaller of two
--     Up, sum_raised, whole      a sum, and the total of four
use Prim.Native.Nat.{ℕ, ◌+◌, ◌≤◌, ◌<◌}
use mathlib.Core.Bool.{true, cond}
use mathlib.Core.Logic.{◌⊎◌, inl, inr}
use Rattle.std.specs.Prelude.{Option, Some, None}
use mathlib.Core.Path.{◌≡◌, ◌∙◌}
use native.Mathlib.Omega.{arith}
use lib.IntN.{ℤ, pos, neg_ℤ, ◌+ℤ◌, ◌-ℤ◌}
use lib.Signed.{lt_z}
use mir.Syntax.{w32}
use Rattle.std.specs.Int.{int_wrap, int_min}
use Rattle.laws.proofs.Ints.{up, dn, sum, same, signed}
use Rattle.laws.proofs.Tests.{cases}
use Rattle.entries.specs.Mark.{mark, marked, sample_of}
use Rattle.entries.proofs.Marks.{is_marked, sample_is, sample_none}
use Rattle.entries.proofs.Wraps.{by_wrap}
use Rattle.encoding.specs.Word.{smaller}
use Rattle.entries.specs.SupportRange.{entry_in_range}
use Rattle.entries.proofs.Range.{Small, by_kind}
use Rattle.words.proofs.Entries.{no_sample}

abbrev pub Raised : Option ℕ → ℤ → Type 0
Raised None z = dn z ≤ up z
Raised (Some n) z = (n ≤ 9) × (up z + 2147483648 ≡ dn z + n)

-- as a machine's sum
pub raise : (e : ℤ) → entry_in_range e ≡ true → int_wrap w32 (e +ℤ pos 1073741824) ≡ cond (marked e) (e -ℤ pos 3221225472) (e +ℤ pos 1073741824)
raise e h =
    by_kind e h
    (λ n l m q. let t = sum (mark n) (pos 1073741824) in
    rw (q, is_marked n l)
    (by_wrap (mark n +ℤ pos 1073741824) (omega arith) (omega arith) (λ k f. same _ _ (omega (arith, sum (mark n) (neg_ℤ (pos 3221225472))))) (λ j k f. absurd (omega arith)) (λ k f. absurd (omega arith))))
    (λ u s. let t = sum e (pos 1073741824) in
    rw u (by_wrap (e +ℤ pos 1073741824) (omega signed) (omega signed) (λ k f. absurd (omega signed)) (λ j k f. f) (λ k f. absurd (omega signed))))

pub entry_raised : (e z : ℤ) → entry_in_range e ≡ true → z ≡ cond (marked e) (e -ℤ pos 3221225472) (e +ℤ pos 1073741824) → Raised (sample_of e) z
entry_raised e z h told =
    by_kind e h
    (λ n l m q. let f = rw (q, is_marked n l) at told in rw (q, sample_is n l) (m, rw f (omega (arith, sum (mark n) (neg_ℤ (pos 3221225472))))))
    (λ u s. let f = rw u at told in rw (sample_none e u, f) (omega (signed, sum e (pos 1073741824))))

pub lower : (o p : Option ℕ) (a b z : ℤ) → z ≡ int_min a b → Raised o a → Raised p b → Raised (smaller o p) z
lower None None a b z e f g = cases (lt_z b a) (λ t. rw (e, t) g) (λ t. rw (e, t) f)
lower None (Some n) a b z e f g = cases (lt_z b a) (λ t. rw (e, t) g) (λ t. absurd (omega signed))
lower (Some m) None a b z e f g = cases (lt_z b a) (λ t. absurd (omega signed)) (λ t. rw (e, t) f)
lower (Some m) (Some n) a b z e f g = cases (lt_z b a) (λ t. rw (e, t) (omega signed)) (λ t. rw (e, t) (omega signed))

-- a number and 2^31, modulo 2^32
abbrev Half : ℤ → ℤ → Type 0
Half x z = ((up z + dn x ≡ dn z + up x + 2147483648) × (up x < dn x)) ⊎ ((up z + dn x + 2147483648 ≡ dn z + up x) × (dn x ≤ up x))

half : (a b p q : ℤ) → Small a → Small b → p ≡ a +ℤ pos 1073741824 → q ≡ b +ℤ pos 1073741824 → Half (a +ℤ b) (int_wrap w32 (p +ℤ q))
half a b p q f g d e =
    let t = sum a (pos 1073741824) in
    let u = sum b (pos 1073741824) in
    let v = sum (a +ℤ pos 1073741824) (b +ℤ pos 1073741824) in
    let w = sum a b in
    rw (d, e) (by_wrap (a +ℤ pos 1073741824 +ℤ (b +ℤ pos 1073741824)) (omega signed) (omega signed) (λ l k. inr (omega signed, omega signed)) (λ l k c. inl (rw c (omega signed), omega signed)) (λ l k. absurd (omega signed)))

-- within 2^29 of 0
abbrev Near : ℤ → Type 0
Near x = (up x ≤ dn x + 536870912) × (dn x ≤ up x + 536870912)

halves : (x y v w : ℤ) → Near x → Near y → Half x v → Half y w → int_wrap w32 (v +ℤ w) ≡ x +ℤ y
halves x y v w a b (inl f) (inl g) =
    let t = sum v w in
    let u = sum x y in
    by_wrap (v +ℤ w) (omega arith) (omega arith) (λ l k. same _ _ (omega arith)) (λ l k c. absurd (omega arith)) (λ l k. absurd (omega arith))
halves x y v w a b (inl f) (inr g) =
    let t = sum v w in
    let u = sum x y in
    by_wrap (v +ℤ w) (omega arith) (omega arith) (λ l k. absurd (omega arith)) (λ l k c. c ∙ same _ _ (omega arith)) (λ l k. absurd (omega arith))
halves x y v w a b (inr f) (inl g) =
    let t = sum v w in
    let u = sum x y in
    by_wrap (v +ℤ w) (omega arith) (omega arith) (λ l k. absurd (omega arith)) (λ l k c. c ∙ same _ _ (omega arith)) (λ l k. absurd (omega arith))
halves x y v w a b (inr f) (inr g) =
    let t = sum v w in
    let u = sum x y in
    by_wrap (v +ℤ w) (omega arith) (omega arith) (λ l k. absurd (omega arith)) (λ l k c. absurd (omega arith)) (λ l k. same _ _ (omega arith))

-- a sum that is raised
abbrev pub Up : ℤ → ℤ → Type 0
Up e z = Small e × (z ≡ e +ℤ pos 1073741824)

pub sum_raised : (e z : ℤ) → entry_in_range e ≡ true → z ≡ cond (marked e) (e -ℤ pos 3221225472) (e +ℤ pos 1073741824) → sample_of e ≡ None → Up e z
sum_raised e z h told o = let n = no_sample e h o in (n.1, rw n.0 at told)

pub whole : (a b c d p q s t : ℤ) → Up a p → Up b q → Up c s → Up d t
    → int_wrap w32 (int_wrap w32 (p +ℤ q) +ℤ int_wrap w32 (s +ℤ t)) ≡ a +ℤ b +ℤ (c +ℤ d)
whole a b c d p q s t e f g h =
    let x = sum a b in
    let y = sum c d in
    halves (a +ℤ b) (c +ℤ d) (int_wrap w32 (p +ℤ q)) (int_wrap w32 (s +ℤ t)) (omega signed) (omega signed)
    (half a b p q e.0 f.0 e.1 f.1) (half c d s t g.0 h.0 g.1 h.1)

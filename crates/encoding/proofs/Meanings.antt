-- What the word of entries reads as.
use Prim.Native.Nat.{ℕ, ◌+◌, ◌*◌, ◌/◌, ◌%◌, ◌^◌, ◌≤◌, ◌<◌}
use mathlib.Core.Bool.{true, false}
use mathlib.Core.Path.{◌≡◌}
use borrow.Author.Tests.{lt-ltb, le-leb}
use native.Mathlib.Nat.{mul_comm, mul_left_comm, mul-pos, mod-eq_of_lt, div-lt_iff_lt-mul, div-mul-le_self, lt-mul-div-succ}
use native.Mathlib.Omega.{arith}
use lib.Dec.{ltb→lt}
use lib.IntN.{ℤ, pos, negsuc}
use lib.ListN.{length}
use lib.Pow.{pow_pos}
use lib.Signed.{◌<ℤ◌, lt_z}
use Rattle.laws.specs.Lists.{total}
use Rattle.laws.proofs.Tests.{clash}
use Rattle.word_codes.specs.Codes.{ordinary_end, word_modulus}
use Rattle.settings.specs.Settings.{truncation_in_range}
use Rattle.settings.specs.Covered.{ceiling}
use Rattle.encoding.specs.Word.{is_negative, cut_by}
use Rattle.meaning.specs.Meaning.{limit, read_word}
use Rattle.encoding.specs.Meanings.{Between, WordLaws}
use Rattle.meaning.proofs.Laws as MeaningLaws

module _ (r : ℕ) (in_r : truncation_in_range r ≡ true) where
  -- k pixels with the total v
  between : (k v : ℕ) → 0 < k → v < k * ceiling r → Between k (pos v) (read_word r (cut_by (k * 2 ^ r) (pos v)))
  between k v some-k h =
      let b = 2 ^ r in
      let d = k * b in
      let q = v / d in
      let hd : 0 < d = mul-pos some-k (pow_pos r) in
      let small : q < ordinary_end = (div-lt_iff_lt-mul {k = d} {x = v} {y = ordinary_end} hd).1 (rw (mul_left_comm ordinary_end k b) h) in
      let kept : q % word_modulus ≡ q = mod-eq_of_lt (omega arith) in
      let e = (MeaningLaws.laws).limits_exact r q in_r small in
      let from : k * (q * b) ≤ v = rw (mul_left_comm k q b) (div-mul-le_self v d) in
      let below : v < k * ((q + 1) * b) = rw (mul_left_comm k (q + 1) b, mul_comm (q + 1) d) (lt-mul-div-succ v hd) in
      record {
        lower = limit (q * b);
        upper = limit ((q + 1) * b);
        lo = q * b;
        hi = (q + 1) * b;
        ordinary = rw kept e.0;
        lower_is = e.1;
        upper_is = e.2;
        from = record { le = rw (le-leb _ _ from) tt };
        below = record { lt = rw (lt-ltb _ _ below) tt };
      }

  cut : (k : ℕ) (z : ℤ) → 0 < k → lt_z z (pos 0) ≡ false → z <ℤ pos (k * ceiling r) → Between k z (read_word r (cut_by (k * 2 ^ r) z))
  cut k (pos v) l e h = between k v l (ltb→lt _ _ h.lt)
  cut k (negsuc v) l e h = clash e

pub laws : WordLaws
unfolding is_negative
laws = record {
  ordinary = λ r es t l m e h. rw (m, e) (cut r t (length es) (total es) l e h);
  saturated = λ r es n t m a b. rw m ((MeaningLaws.laws).saturated r n t a b);
  negative = λ r es t m e. rw (m, e) ((MeaningLaws.laws).negative r t);
}

-- One word, pixels and squares alike.
--     word_is         the word that the entries give is the word that the readings give
--     word_claim      under covered settings it reads as demand 3 says
use Prim.Native.Nat.{ℕ, ◌+◌, ◌*◌, ◌≤◌, ◌<◌}
use mathlib.Core.Bool.{Bool, true, false}
use mathlib.Core.List.{List, [], ◌∷◌, map}
use Rattle.std.specs.Prelude.{Option, Some, None, Result, Ok}
use mathlib.Core.Path.{◌≡◌, refl, sym, ◌∙◌}
use borrow.Author.Tests.{le-leb}
use native.Mathlib.Nat.{suc-mul}
use native.Mathlib.Omega.{arith}
use lib.IntN.{ℤ, pos}
use lib.ListN.{length, length-map}
use lib.Signed.{◌<ℤ◌, lt_z}
use Rattle.laws.specs.Lists.{any_of, total}
use Rattle.laws.specs.Numbers.{first_of}
use Rattle.laws.proofs.Ints.{up, dn, sum, signed}
use Rattle.laws.proofs.Firsts.{Nowhere, Says, first_says, first_found, first_not, nowhere_any}
use Rattle.laws.proofs.Parts.{All}
use Rattle.laws.proofs.Tests.{clash, cases, true_and}
use Rattle.checks.specs.declared.Refusal.{Refusal}
use Rattle.settings.specs.declared.Settings.{Settings}
use Rattle.settings.specs.Settings.{truncation_in_range}
use Rattle.settings.specs.Covered.{is_covered, ceiling}
use Rattle.settings.proofs.Parts.{InRange}
use Rattle.step.specs.Step.{over_it}
use Rattle.sums.specs.Exact.{exact_sum, entry_after}
use Rattle.sums.proofs.Bounds.{cover_holds}
use Rattle.sums.proofs.Pixel.{entry_sample}
use Rattle.meaning.specs.declared.WordRead.{WordRead}
use Rattle.meaning.specs.declared.WordRead.TheVariants.{Saturated, Negative}
use Rattle.encoding.specs.Word.{smallest_mark, is_negative, word_by, word_of}
use Rattle.meaning.specs.Meaning.{read_word}
use Rattle.encoding.specs.Meanings.{Between}
use Rattle.encoding.proofs.Firsts.{first_or}
use Rattle.encoding.proofs.Meanings.{laws}
use Rattle.history.specs.Readings.{Ramp, reading_at, exact_sums, over_at, FirstOver, NeverOver}
use Rattle.history.specs.Demands.{WordClaim}

module _ (ramp : Ramp) (range : InRange ramp.settings) where
  abbrev s : Settings
  s = ramp.settings

  abbrev N : ℕ
  N = s.samples

  abbrev r : ℕ
  r = s.truncation

  -- whether pixel p is over the threshold at sample n
  abbrev over : ℕ → ℕ → Bool
  over p n = over_it s n (reading_at ramp p n)

  abbrev Under : ℕ → Type 0
  Under p = Nowhere (over p) N

  -- the entries of pixels
  abbrev entries : List ℕ → List ℤ
  entries ps = map (λ p. entry_after s N (reading_at ramp p)) ps

  marks : (ps : List ℕ) → smallest_mark (entries ps) ≡ first_of N (over_at ramp ps)
  unfolding smallest_mark any_of
  marks [] = sym (first_not (λ n. false) N (λ n a l. refl))
  marks (p ∷ ps) = rw (entry_sample s range (reading_at ramp p) N, marks ps) (sym (first_or (over p) (over_at ramp ps) N))

  -- where no pixel is ever over
  sums : (ps : List ℕ) → All Under ps → entries ps ≡ exact_sums ramp ps
  sums [] h = refl
  sums (p ∷ ps) h = rw (first_not (over p) N h.0, sums ps h.1)

  pub word_is : (ps : List ℕ)
      → word_of ramp.settings.truncation (map (λ p. entry_after ramp.settings ramp.settings.samples (reading_at ramp p)) ps)
      ≡ word_by ramp.settings.truncation (first_of ramp.settings.samples (over_at ramp ps)) (exact_sums ramp ps)
  word_is ps = rw (marks ps) (by (first_of N (over_at ramp ps)) (first_says (over_at ramp ps) N))
    where
      by : (o : Option ℕ) → Says (over_at ramp ps) N o → word_by r o (entries ps) ≡ word_by r o (exact_sums ramp ps)
      by (Some n) f = refl
      by None f = rw (sums ps (nowhere_any over N ps f))

  -- ---- the three ways that a word reads

  module _ (ps : List ℕ) (reads : Result WordRead Refusal) where
    at_mark : (n : ℕ) → FirstOver ramp ps n → reads ≡ Ok (Saturated n) → WordClaim ramp ps reads
    at_mark n f e = record {
      saturated = λ m. (
        (λ q. let i : n ≡ m = cc in rw i at f),
        λ g. cc (first_found (over_at ramp ps) N n f, first_found (over_at ramp ps) N m g),
      );
      negative = ((λ q. clash (cc)), λ g. absurd (g.0 n f));
      ordinary = λ never t. absurd (never n f);
    }

    at_negative : NeverOver ramp ps → is_negative (exact_sums ramp ps) ≡ true → reads ≡ Ok Negative → WordClaim ramp ps reads
    at_negative never t e = record {
      saturated = λ m. ((λ q. clash (cc)), λ g. absurd (never m g));
      negative = ((λ q. (never, t)), λ g. e);
      ordinary = λ v f. clash (cc);
    }

    at_ordinary : NeverOver ramp ps → is_negative (exact_sums ramp ps) ≡ false → Between (length ps) (total (exact_sums ramp ps)) reads → WordClaim ramp ps reads
    at_ordinary never t b = record {
      saturated = λ m. ((λ q. clash (cc)), λ g. absurd (never m g));
      negative = ((λ q. clash (cc)), λ g. clash (cc g.1));
      ordinary = λ v f. b;
    }

  -- ---- covered settings

  module _ (c : is_covered s ≡ true) where
    -- each pixel's sum is at least 1 below the ceiling
    total_under : (ps : List ℕ) → All Under ps → let z = total (exact_sums ramp ps) in up z + length ps ≤ dn z + length ps * ceiling r
    unfolding total
    total_under [] h = omega arith
    total_under (p ∷ ps) h =
        let x = reading_at ramp p in
        omega (arith, cover_holds s c x h.0, total_under ps h.1, sum (exact_sum s N x) (total (exact_sums ramp ps)), suc-mul (length ps) (ceiling r))

    total_lt : (ps : List ℕ) → 0 < length ps → All Under ps → total (exact_sums ramp ps) <ℤ pos (length ps * ceiling r)
    total_lt ps l h =
        cases (lt_z (total (exact_sums ramp ps)) (pos (length ps * ceiling r)))
        (λ t. record { lt = rw t tt })
        (λ t. absurd (omega (signed, total_under ps h)))

  pub word_claim : is_covered ramp.settings ≡ true → (ps : List ℕ) → 0 < length ps
      → WordClaim ramp ps (read_word ramp.settings.truncation (word_by ramp.settings.truncation (first_of ramp.settings.samples (over_at ramp ps)) (exact_sums ramp ps)))
  word_claim c ps l = rw (← word_is ps) (by (first_of N (over_at ramp ps)) (first_says (over_at ramp ps) N))
    where
      in_r : truncation_in_range r ≡ true
      in_r = true_and (le-leb 1 r range.truncation_low) (le-leb r 3 range.truncation_high)

      by : (o : Option ℕ) → Says (over_at ramp ps) N o → WordClaim ramp ps (read_word r (word_of r (entries ps)))
      by (Some n) f =
          at_mark ps _ n f
          (laws.saturated r (entries ps) n in_r (marks ps ∙ first_found (over_at ramp ps) N n f) f.low (omega (arith, f.high, range.samples_high)))
      by None f =
          let es = exact_sums ramp ps in
          let under = nowhere_any over N ps f in
          let e = sums ps under in
          let m : smallest_mark es ≡ None = rw e at (marks ps ∙ first_not (over_at ramp ps) N f) in
          let k : length es ≡ length ps = length-map ps _ in
          let never : NeverOver ramp ps = λ n g. clash (sym g.holds ∙ f n g.low g.high) in
          rw e
          (cases (is_negative es)
          (λ t. at_negative ps _ never t (laws.negative r es in_r m t))
          (λ t. at_ordinary ps _ never t (rw k at (laws.ordinary r es in_r (rw k l) m t (rw k (total_lt c ps l under))))))

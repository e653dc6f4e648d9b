-- All settings in range come of one record on any others: the record with every field.
use Prim.Native.Nat.{ℕ, suc, ◌+◌, ◌-◌, ◌*◌, ◌/◌, ◌%◌, ◌^◌, ◌≤◌, ◌<◌}
use mathlib.Core.Bool.{true}
use mathlib.Core.List.{List, [], ◌∷◌, ◌++◌}
use mathlib.Core.Path.{◌≡◌, refl, sym, ap, ◌∙◌}
use borrow.Author.Tests.{leb-true, le-leb, lt-ltb, le-ltb, ne_eqb, eqb-true}
use native.Mathlib.Omega.{arith}
use lib.Dec.{leb, ltb, eqb}
use lib.IntN.{ℤ, pos, negsuc}
use lib.ListN.{length, get_or, get_or-append}
use lib.Seq.{ext_get_or}
use Rattle.laws.specs.Lists.{each, every, any_of}
use Rattle.laws.proofs.Tests.{and_true, true_and}
use Rattle.laws.proofs.Each.{each_length, each_at}
use Rattle.laws.proofs.Elements.{every_append, every_made, table}
use Rattle.std.specs.Prelude.{Ok}
use Rattle.checks.specs.Checks.{verdict}
use Rattle.checks.proofs.Laws.{verdict_none}
use Rattle.record.specs.declared.Field.{Field}
use Rattle.record.specs.declared.Field.TheVariants.{Threshold, Truncation, Samples}
use Rattle.settings.specs.declared.Settings.{Settings}
use Rattle.settings.specs.Settings.{weight_in_range, in_range}
use Rattle.record.specs.Record.{bit_set, field_count, field_of, offset_of, number_at, number_of, weight_of}
use Rattle.fields.specs.Fields.{check_of, field_check, field_checks, resulting}
use Rattle.update.specs.Update.{record_checks, apply_record}
use Rattle.update.specs.Laws.{value_in, meant_by, taken}
use Rattle.record.proofs.Fields.{field_cases}
use Rattle.settings.proofs.Parts.{InRange, in_range_parts}
use Rattle.update.proofs.Changes.{resulting_length, resulting_value}

-- ---- the byte of a weight

abbrev byte_of : ℤ → ℕ
byte_of (pos n) = n
byte_of (negsuc n) = 17 + n

record Encoded (z : ℤ) : Type 0 where
  pub small : byte_of z ≤ 31
  pub back : weight_of (byte_of z) ≡ z

encoded : (z : ℤ) → weight_in_range z ≡ true → Encoded z
unfolding weight_of bit_set
encoded (pos n) e =
    let h : n ≤ 15 = leb-true n 15 e in
    record { small = omega arith; back = rw (ne_eqb (n / 2 ^ 4 % 2) 1 (λ q. omega arith)) (ap pos (omega arith)) }
encoded (negsuc n) e =
    let h : n ≤ 14 = leb-true n 14 (and_true (leb n 14) true e).0 in
    let m : (17 + n) % 16 ≡ suc n = omega arith in
    let d : (17 + n) / 16 ≡ 1 = omega arith in
    record { small = omega arith; back = rw (d, m) }

-- ---- the map of all fields; the weights stand from the third byte on

abbrev all_fields : ℕ
all_fields = 2 ^ field_count - 1

every_stands : (bit : ℕ) → bit < field_count → bit_set all_fields bit ≡ true
unfolding every each bit_set
every_stands = table (bit_set all_fields) field_count refl

weight_place : (i : ℕ) → i < 9 → offset_of all_fields i ≡ suc (suc i)
unfolding every each offset_of bit_set field_of
weight_place i h = eqb-true _ _ (table (λ k. eqb (offset_of all_fields k) (suc (suc k))) 9 refl i h)

-- ---- settings that hold the same in every field are the same

same_parts : {v w : List ℤ} {a b c d e f : ℕ} → v ≡ w → a ≡ b → c ≡ d → e ≡ f
    → ◌≡◌ {A = Settings} (record { weights = v; threshold = a; truncation = c; samples = e }) (record { weights = w; threshold = b; truncation = d; samples = f })
same_parts p q r t = rw (p, q, r, t)

same_settings : (s t : Settings) → length s.weights ≡ 9 → length t.weights ≡ 9 → ((bit : ℕ) → bit < field_count → value_in (field_of bit) s ≡ value_in (field_of bit) t) → s ≡ t
unfolding field_of
same_settings s t p q h =
    same_parts (ext_get_or (pos 0) s.weights t.weights (p ∙ sym q) weight) (number (h 9 (omega arith))) (number (h 10 (omega arith))) (number (h 11 (omega arith)))
  where
    number : {a b : ℕ} → pos a ≡ pos b → a ≡ b
    number e = cc

    weight : (i : ℕ) → i < length s.weights → get_or s.weights i (pos 0) ≡ get_or t.weights i (pos 0)
    weight i k =
        let l : i < 9 = rw p at k in
        rw (lt-ltb i 9 l) at (h i (omega arith))

module _ (s : Settings) (p : InRange s) where
  abbrev weight_byte : ℕ → ℕ
  weight_byte i = byte_of (get_or s.weights i (pos 0))

  abbrev last : List ℕ
  last = (s.threshold % 256) ∷ (s.threshold / 256) ∷ s.truncation ∷ s.samples ∷ []

  abbrev bytes : List ℕ
  bytes = (all_fields % 256) ∷ (all_fields / 256) ∷ (each weight_byte 9 ++ last)

  weight_code : (i : ℕ) → Encoded (get_or s.weights i (pos 0))
  weight_code i = encoded (get_or s.weights i (pos 0)) (p.weights i)

  weight_number : (i : ℕ) → i < 9 → get_or bytes (offset_of all_fields i) 0 ≡ weight_byte i
  weight_number i h =
      rw (weight_place i h)
      (get_or-append (each weight_byte 9) last 0 i (rw (each_length weight_byte 9) h) ∙ each_at weight_byte 9 i 0 h)

  -- a number that means what the settings hold, and is taken
  record Right (f : Field) (v : ℕ) : Type 0 where
    pub meant : meant_by f v ≡ value_in f s
    pub fine : check_of f v ≡ Ok tt

  right_threshold : Right Threshold (number_at Threshold bytes (offset_of all_fields 9))
  unfolding each offset_of bit_set field_of
  right_threshold =
      let e : s.threshold % 256 + 256 * (s.threshold / 256) ≡ s.threshold = omega arith in
      record { meant = ap pos e; fine = rw (e, le-leb _ _ p.threshold) }

  right_truncation : Right Truncation (number_at Truncation bytes (offset_of all_fields 10))
  unfolding each offset_of bit_set field_of
  right_truncation = record { meant = refl; fine = rw (le-leb _ _ p.truncation_low, le-leb _ _ p.truncation_high) }

  right_samples : Right Samples (number_at Samples bytes (offset_of all_fields 11))
  unfolding each offset_of bit_set field_of
  right_samples = record { meant = refl; fine = rw (le-leb _ _ p.samples_low, le-leb _ _ p.samples_high) }

  right : (bit : ℕ) → bit < field_count → Right (field_of bit) (number_of bytes bit)
  right bit h =
      field_cases (λ f. Right f (number_at f bytes (offset_of all_fields bit))) bit
      (λ l. rw (weight_number bit l) (record { meant = (weight_code bit).back; fine = rw (le-ltb _ _ (weight_code bit).small) }))
      (λ e. rw e right_threshold)
      (λ e. rw e right_truncation)
      (λ g. let e : bit ≡ 11 = omega arith in rw e right_samples)

  are_bytes : every (λ b. ltb b 256) bytes ≡ true
  unfolding every
  are_bytes =
      rw (every_append (λ b. ltb b 256) (each weight_byte 9) last)
      (true_and (every_made (λ b. ltb b 256) weight_byte 9 (λ i h. lt-ltb (weight_byte i) 256 (omega (arith, (weight_code i).small))))
      (rw (lt-ltb (s.threshold % 256) 256 (omega arith), lt-ltb (s.threshold / 256) 256 (omega arith), lt-ltb s.truncation 256 (omega arith), lt-ltb s.samples 256 (omega arith))))

  none_refused : verdict (field_checks bytes) ≡ Ok tt
  none_refused = verdict_none (field_check bytes) field_count (λ bit h. rw (every_stands bit h) (right bit h).fine)

  is_taken : verdict (record_checks bytes) ≡ Ok tt
  unfolding verdict each any_of offset_of bit_set field_of
  is_taken = none_refused

  whole : (t : Settings) → length t.weights ≡ 9 → apply_record t bytes ≡ taken s
  unfolding apply_record
  whole t nine =
      rw is_taken
      (ap taken
      (same_settings (resulting bytes t) s (resulting_length t bytes field_count ∙ nine) p.nine
      (λ bit h. resulting_value t bytes nine bit h ∙ rw (every_stands bit h) (right bit h).meant)))

pub reachable : (s t : Settings) → in_range s ≡ true → length t.weights ≡ 9
    → (bytes : List ℕ) × (every (λ b. ltb b 256) bytes ≡ true) × (apply_record t bytes ≡ taken s)
reachable s t e nine = let p = in_range_parts s e in (bytes s p, are_bytes s p, whole s p t nine)

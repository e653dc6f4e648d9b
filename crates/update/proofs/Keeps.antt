-- An update keeps the settings in range.
use Prim.Native.Nat.{ℕ, zero, suc, ◌<◌, ◌%◌}
use mathlib.Core.Bool.{true}
use mathlib.Core.List.{List}
use mathlib.Core.Path.{◌≡◌, refl}
use borrow.Author.Tests.{le-leb, not-false}
use native.Mathlib.Omega.{arith}
use lib.IntN.{ℤ, pos, neg_ℤ}
use lib.ListN.{length, set, length-set}
use lib.Dec.{eqb}
use Rattle.laws.specs.Lists.{each, every}
use Rattle.laws.proofs.Tests.{cases, and_true, true_and}
use Rattle.laws.proofs.Every.{every_all, every_each}
use Rattle.laws.proofs.Elements.{every_set}
use Rattle.std.specs.Prelude.{Ok, Err}
use Rattle.checks.specs.Checks.{Answer, verdict, by_answer}
use Rattle.checks.proofs.Laws.{verdict_each, both_taken, verdict_rest, when_taken}
use Rattle.record.specs.declared.Field.{Field}
use Rattle.record.specs.declared.Field.TheVariants.{Weight, Threshold, Truncation, Samples}
use Rattle.settings.specs.declared.Settings.{Settings}
use Rattle.settings.specs.Settings.{weight_in_range, max_samples, weights_in_range, in_range}
use Rattle.settings.proofs.Parts.{Fields, fields_of, of_fields}
use Rattle.record.specs.Record.{bit_set, map_of, field_count, field_of, number_of, weight_of}
use Rattle.fields.specs.Fields.{check_of, field_check, with_field, with_bit, with_bits, resulting}
use Rattle.update.specs.Update.{record_checks, apply_record}

size_in_range : (m : ℕ) → m < 16 → weight_in_range (neg_ℤ (pos m)) ≡ true
size_in_range zero h = refl
size_in_range (suc m) h = true_and (le-leb m 14 (omega arith)) refl

weight_in_range_lem : (b : ℕ) → weight_in_range (weight_of b) ≡ true
unfolding weight_of
weight_in_range_lem b =
    cases (bit_set b 4) (λ e. rw e (size_in_range (b % 16) (omega arith))) (λ e. rw e (le-leb (b % 16) 15 (omega arith)))

-- one weight written
weights_kept : (ws : List ℤ) (i b : ℕ) → weights_in_range ws ≡ true → weights_in_range (set ws i (weight_of b)) ≡ true
weights_kept ws i b e =
    let h = and_true (eqb (length ws) max_samples) (every weight_in_range ws) e in
    rw (
      length-set ws i (weight_of b),
      h.0,
      every_all weight_in_range (set ws i (weight_of b)) (pos 0)
          (λ k l. every_set weight_in_range ws i (weight_of b) (pos 0) (weight_in_range_lem b) (every_each weight_in_range ws h.1 (pos 0) refl) k),
    )

module _ (s : Settings) (p : Fields s) (v : ℕ) where
  field_kept : (f : Field) → check_of f v ≡ Ok tt → Fields (with_field f v s)
  field_kept (Weight i) e = record { weights = weights_kept s.weights i v p.weights; threshold = p.threshold; truncation = p.truncation; samples = p.samples }
  field_kept Threshold e = record { weights = p.weights; threshold = not-false _ (when_taken _ _ e); truncation = p.truncation; samples = p.samples }
  field_kept Truncation e = record { weights = p.weights; threshold = p.threshold; truncation = not-false _ (when_taken _ _ e); samples = p.samples }
  field_kept Samples e = record { weights = p.weights; threshold = p.threshold; truncation = p.truncation; samples = not-false _ (when_taken _ _ e) }

bit_kept : (bytes : List ℕ) (bit : ℕ) (s : Settings) → Fields s → field_check bytes bit ≡ Ok tt → Fields (with_bit bytes bit s)
bit_kept bytes bit s p e =
    cases (bit_set (map_of bytes) bit)
    (λ t. rw t (field_kept s p (number_of bytes bit) (field_of bit) (rw t at e)))
    (λ t. rw t p)

fields_kept : (bytes : List ℕ) (n : ℕ) (s : Settings) → Fields s → verdict (each (field_check bytes) n) ≡ Ok tt → Fields (with_bits bytes n s)
unfolding with_bits
fields_kept bytes zero s p e = p
fields_kept bytes (suc n) s p e =
    let q = both_taken _ _ (rw (verdict_each (field_check bytes) n) at e) in
    bit_kept bytes n (with_bits bytes n s) (fields_kept bytes n s p q.0) q.1

pub stays_in_range : (s : Settings) (bytes : List ℕ) → in_range s ≡ true → in_range (apply_record s bytes).settings ≡ true
unfolding apply_record
stays_in_range s bytes e =
    by (verdict (record_checks bytes))
    (λ t. fields_kept bytes field_count s (fields_of s e) (verdict_rest _ _ (verdict_rest _ _ (verdict_rest _ _ t))))
  where
    by : (a : Answer) → (a ≡ Ok tt → Fields (resulting bytes s)) → in_range (by_answer a (resulting bytes s) s) ≡ true
    by (Ok tt) h = of_fields (resulting bytes s) (h refl)
    by (Err r) h = e

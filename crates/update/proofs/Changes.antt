-- A taken update changes exactly the fields whose bit is set.
use Prim.Native.Nat.{ℕ, zero, suc, ◌≤◌, ◌<◌}
use mathlib.Core.Bool.{cond}
use mathlib.Core.List.{List}
use mathlib.Core.Path.{◌≡◌, refl, sym, ap, ◌∙◌}
use borrow.Author.Tests.{eqb-true, eqb-false}
use native.Mathlib.Omega.{arith}
use native.Mathlib.Nat.{le_refl}
use lib.Dec.{eqb}
use lib.IntN.{ℤ, pos}
use lib.ListN.{length, length-set}
use lib.Seq.{get_or-set_same, get_or-set_other}
use Rattle.laws.proofs.Tests.{cases}
use Rattle.std.specs.Prelude.{Ok}
use Rattle.record.specs.declared.Field.{Field}
use Rattle.record.specs.declared.Field.TheVariants.{Weight, Threshold, Truncation, Samples}
use Rattle.settings.specs.declared.Settings.{Settings}
use Rattle.record.specs.Record.{bit_set, map_of, field_count, field_of, number_of, weight_of}
use Rattle.fields.specs.Fields.{with_field, with_bits}
use Rattle.update.specs.Update.{apply_record}
use Rattle.update.specs.Laws.{value_in, meant_by}
use Rattle.record.proofs.Fields.{weight_below, field_apart}

module _ (v : ℕ) (s : Settings) where
  length_kept : (f : Field) → length (with_field f v s).weights ≡ length s.weights
  length_kept (Weight i) = length-set s.weights _ (weight_of v)
  length_kept Threshold = refl
  length_kept Truncation = refl
  length_kept Samples = refl

  written : (f : Field) → ((i : ℕ) → f ≡ Weight i → i < length s.weights) → value_in f (with_field f v s) ≡ meant_by f v
  written (Weight i) h = get_or-set_same s.weights i (weight_of v) (pos 0) (h i refl)
  written Threshold h = refl
  written Truncation h = refl
  written Samples h = refl

  untouched : (f g : Field) → (f ≡ g → ⊥) → value_in f (with_field g v s) ≡ value_in f s
  untouched (Weight i) (Weight j) d = get_or-set_other s.weights j i (weight_of v) (pos 0) (λ e. d (ap Weight e))
  untouched (Weight i) Threshold d = refl
  untouched (Weight i) Truncation d = refl
  untouched (Weight i) Samples d = refl
  untouched Threshold (Weight j) d = refl
  untouched Threshold Threshold d = absurd (d refl)
  untouched Threshold Truncation d = refl
  untouched Threshold Samples d = refl
  untouched Truncation (Weight j) d = refl
  untouched Truncation Threshold d = refl
  untouched Truncation Truncation d = absurd (d refl)
  untouched Truncation Samples d = refl
  untouched Samples (Weight j) d = refl
  untouched Samples Threshold d = refl
  untouched Samples Truncation d = refl
  untouched Samples Samples d = absurd (d refl)

module _ (s : Settings) (bytes : List ℕ) where
  pub resulting_length : (n : ℕ) → length (with_bits bytes n s).weights ≡ length s.weights
  unfolding with_bits
  resulting_length zero = refl
  resulting_length (suc n) =
      cases (bit_set (map_of bytes) n)
      (λ t. rw t (length_kept (number_of bytes n) (with_bits bytes n s) (field_of n) ∙ resulting_length n))
      (λ t. rw t (resulting_length n))

  -- what a taken update leaves in the field of a bit
  abbrev changed : ℕ → ℤ
  changed bit = cond (bit_set (map_of bytes) bit) (meant_by (field_of bit) (number_of bytes bit)) (value_in (field_of bit) s)

  module _ (nine : length s.weights ≡ 9) (bit : ℕ) (h : bit < field_count) where
    abbrev value : ℕ → ℤ
    value n = value_in (field_of bit) (with_bits bytes n s)

    elsewhere : (n : ℕ) → n < field_count → (bit ≡ n → ⊥) → value (suc n) ≡ value n
    unfolding with_bits
    elsewhere n k d =
        cases (bit_set (map_of bytes) n)
        (λ t. rw t (untouched (number_of bytes n) (with_bits bytes n s) (field_of bit) (field_of n) (λ e. d (field_apart bit n h k e))))
        (λ t. rw t)

    before : (n : ℕ) → n ≤ bit → value n ≡ value 0
    before zero k = refl
    before (suc n) k = elsewhere n (omega arith) (λ e. omega arith) ∙ before n (omega arith)

    here : value (suc bit) ≡ changed bit
    unfolding with_bits
    here =
        cases (bit_set (map_of bytes) bit)
        (λ t. rw t (written (number_of bytes bit) (with_bits bytes bit s) (field_of bit) (λ i e. rw (resulting_length bit, nine) (weight_below bit i e))))
        (λ t. rw t (before bit (le_refl bit)))

    after : (n : ℕ) → bit < n → n ≤ field_count → value n ≡ changed bit
    after zero k l = absurd (omega arith)
    after (suc n) k l =
        cases (eqb bit n)
        (λ t. ap (λ (m : ℕ). value (suc m)) (sym (eqb-true bit n t)) ∙ here)
        (λ t. let d = eqb-false bit n t in elsewhere n (omega arith) d ∙ after n (omega arith) (omega arith))

    pub resulting_value : value field_count ≡ changed bit
    resulting_value = after field_count h (le_refl field_count)

pub changes_named : (s : Settings) (bytes : List ℕ) → length s.weights ≡ 9 → (apply_record s bytes).answer ≡ Ok tt → (bit : ℕ) → bit < field_count
    → value_in (field_of bit) (apply_record s bytes).settings ≡ changed s bytes bit
unfolding apply_record
changes_named s bytes nine taken bit h = rw taken (resulting_value s bytes nine bit h)

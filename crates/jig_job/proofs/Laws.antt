-- The laws of jobs.
use Prim.Native.Nat.{ℕ, ◌+◌, ◌-◌, ◌*◌, ◌≤◌, ◌<◌}
use mathlib.Core.List.{List, []}
use mathlib.Core.Path.{◌≡◌, refl, sym, ◌∙◌}
use borrow.Author.Tests.{ltb-true, ltb-false}
use native.Mathlib.Omega.{arith}
use lib.Dec.{ltb}
use lib.ListN.{length, get_or, take, drop, length-take, length-drop}
use lib.Seq.{take_all, get_or-take, take-take}
use Rattle.laws.proofs.Tests.{cases}
use Rattle.laws.proofs.Parts.{part_at}
use Rattle.std.specs.Prelude.{Result, Ok, Err}
use Rattle.checks.specs.declared.Refusal.{Refusal}
use Rattle.checks.specs.Checks.{Answer, by_answer, or_refused}
use Rattle.begin.specs.Begin.{started}
use Rattle.whole_frame.specs.Chain.{frame_answer, frame_words}
use Rattle.jig_numbers.specs.LittleEndian.{u16_le_all}
use Rattle.jig_numbers.proofs.LittleEndian.{u16_le_all_take}
use Rattle.jig_input.specs.Input.{width_of, height_of, binned_byte, is_binned, record_length, record_of, readings_at, max_readings}
use Rattle.jig_input.specs.Checks.{input_checks}
use Rattle.jig_job.specs.declared.Job.{Job}
use Rattle.update.proofs.Overlong.{longest}
use Rattle.jig_job.specs.Kept.{capacity}
use Rattle.jig_job.specs.Job.{zero_sums, zero_words, job_answer, job_words, truncation_of, padded, result_of}
use Rattle.jig_job.specs.Laws.{JobLaws}
use Rattle.jig_job.proofs.Parts.{drop_take}
use Rattle.jig_job.proofs.Jobs.{Handed, handed, first_readings, answer_is, words_are, overlong_is, overlong_refused}

-- results of the same answer, words, columns and r
same_results : {a b : Answer} {c d : ℕ} {v w : List ℕ} (r s : ℕ) → a ≡ b → (x : Answer) → b ≡ x → c ≡ d → by_answer b r 0 ≡ by_answer b s 0 → v ≡ w
    → ◌≡◌ {A = Result Job Refusal}
    (or_refused a (record { columns = c; truncation = r; count = length v; words = padded v }))
    (or_refused b (record { columns = d; truncation = s; count = length w; words = padded w }))
same_results r s e (Ok tt) is c t w = let k : r ≡ s = rw is at t in rw (e, is, c, k, w)
same_results r s e (Err f) is c t w = rw (e, is)

-- the first readings lie in the first bytes
within : (n m : ℕ) (l : List ℕ) → 2 * n ≤ m → take n (u16_le_all (take m l)) ≡ take n (u16_le_all l)
within n m l h = sym (u16_le_all_take n (take m l)) ∙ rw (take-take (2 * n) m l h) (u16_le_all_take n l)

-- the first n bytes, where n is large enough
module _ (bytes : List ℕ) (total n : ℕ) (room : capacity ≤ n) where
  at : (i : ℕ) → i < 8 → get_or (take n bytes) i 0 ≡ get_or bytes i 0
  at i h = get_or-take n bytes i 0 (omega arith)

  width_is : width_of (take n bytes) ≡ width_of bytes
  width_is = rw (at 0 (omega arith), at 1 (omega arith))

  height_is : height_of (take n bytes) ≡ height_of bytes
  height_is = rw (at 2 (omega arith), at 3 (omega arith))

  flag_is : binned_byte (take n bytes) ≡ binned_byte bytes
  flag_is = at 4 (omega arith)

  size_is : record_length (take n bytes) ≡ record_length bytes
  size_is = at 5 (omega arith)

  same_checks : input_checks (take n bytes) total ≡ input_checks bytes total
  same_checks = rw (width_is, height_is, flag_is, size_is)

  -- all that a result says, beside what the first bytes show
  record Same : Type 0 where
    pub answer : job_answer (take n bytes) total ≡ job_answer bytes total
    pub words : job_words (take n bytes) total ≡ job_words bytes total
    pub truncation : by_answer (job_answer bytes total) (truncation_of (take n bytes)) 0 ≡ by_answer (job_answer bytes total) (truncation_of bytes) 0

  -- the length of the record is a byte: what matters lies in the first n
  module _ (small : record_length bytes ≤ 255) where
    front : Handed bytes (width_of (take n bytes)) (height_of (take n bytes)) (is_binned (take n bytes)) (record_of (take n bytes)) (first_readings (take n bytes)) (zero_sums (take n bytes)) (zero_words (take n bytes))
    front = record {
      width = width_is;
      height = height_is;
      flag_is = rw flag_is;
      part_is = rw (size_is, drop_take 6 n bytes) (take-take (record_length bytes) (n - 6) (drop 6 bytes) (omega arith));
      readings_are = rw (size_is, drop_take (readings_at bytes) n bytes) (within max_readings (n - readings_at bytes) (drop (readings_at bytes) bytes) (omega arith));
      sums_are = refl;
      words_are = refl;
    }

    byte_record : Same
    byte_record =
        let e : job_answer (take n bytes) total ≡ job_answer bytes total = answer_is (take n bytes) total ∙ rw (same_checks, handed frame_answer front) (sym (answer_is bytes total)) in
        record {
          answer = e;
          words = words_are (take n bytes) total ∙ rw (e, handed frame_words front) (sym (words_are bytes total));
          truncation = rw (handed (λ w h binned part readings sums words. (started w h binned part).board.in_force.truncation) front);
        }

  -- any other record is refused
  module _ (large : 255 < record_length bytes) (more : n < length bytes) where
    record_at : (i : ℕ) → i < 2 → get_or (record_of (take n bytes)) i 0 ≡ get_or (record_of bytes) i 0
    record_at i h =
        part_at (take n bytes) 6 (record_length (take n bytes)) i 0 (rw size_is (omega arith))
        ∙ at (6 + i) (omega arith)
        ∙ sym (part_at bytes 6 (record_length bytes) i 0 (omega arith))

    long : longest < length (record_of bytes)
    long = rw (length-take (record_length bytes) (drop 6 bytes), length-drop 6 bytes) (omega arith)

    long_front : longest < length (record_of (take n bytes))
    long_front = rw (size_is, length-take (record_length bytes) (drop 6 (take n bytes)), length-drop 6 (take n bytes), length-take n bytes) (omega arith)

    long_record : Same
    unfolding job_words
    long_record = record {
      answer =
          overlong_is (take n bytes) total long_front
          ∙ rw (same_checks, record_at 0 (omega arith), record_at 1 (omega arith), width_is, height_is, flag_is) (sym (overlong_is bytes total long));
      words = overlong_refused (take n bytes) total long_front _ [] ∙ sym (overlong_refused bytes total long _ []);
      truncation = overlong_refused bytes total long _ 0 ∙ sym (overlong_refused bytes total long _ 0);
    }

  settled : Same
  settled =
      cases (ltb n (length bytes))
      (λ m. cases (ltb 255 (record_length bytes)) (λ e. long_record (ltb-true _ _ e) (ltb-true _ _ m)) (λ e. byte_record (ltb-false _ _ e)))
      (λ m. let e = take_all n bytes (ltb-false _ _ m) in record { answer = rw e; words = rw e; truncation = rw e })

  carried_over : result_of (take n bytes) total ≡ result_of bytes total
  unfolding result_of
  carried_over = let s = settled in same_results _ _ s.answer (job_answer bytes total) refl (rw (width_is, flag_is)) s.truncation s.words

pub laws : JobLaws
laws = record { prefix = λ bytes. carried_over bytes (length bytes) capacity (omega arith) }

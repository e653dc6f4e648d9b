-- The table of known reports: of each job its known result, and the lines by computation.
use Prim.Native.Nat.{ℕ}
use mathlib.Core.List.{List, ◌++◌}
use mathlib.Core.Path.{◌≡◌, refl, ◌∙◌}
use native.Mathlib.Omega.{arith}
use lib.ListN.{length}
use Rattle.laws.proofs.Tables.{◌then◌}
use Rattle.checks.specs.declared.Refusal.{Refusal}
use Rattle.jig_text.specs.Text.{digit_count, decimal, refusal_text, newline}
use Rattle.jig_text.proofs.Laws as TextLaws
use Rattle.jig_text.proofs.Known as TextRows
use Rattle.jig_lines.specs.Lines.{lines_text}
use Rattle.jig_job.specs.Known.{two_pixels, four_squares, record_missing, odd_byte, reading_too_large}
use Rattle.jig_job.specs.Known as Jobs
use Rattle.jig_job.proofs.Known as JobRows
use Rattle.jig_report.specs.Text.{header, text_of}
use Rattle.jig_report.specs.Known.{AllKnown}

taken_text : (bytes words : List ℕ) (columns r : ℕ) → Jobs.Holds (Jobs.taken bytes words columns r)
    → text_of bytes (length bytes) ≡ header ++ lines_text columns r words (length words)
unfolding text_of
taken_text bytes words columns r k = rw (k.0, k.1, k.2, k.3)

refused_text : (bytes : List ℕ) (why : Refusal) → Jobs.Holds (Jobs.refused bytes why) → text_of bytes (length bytes) ≡ refusal_text why ++ newline
unfolding text_of
refused_text bytes why k = rw k

pub known : AllKnown
unfolding lines_text decimal digit_count
known =
    (taken_text _ _ _ _ (JobRows.known).0 ∙ rw ((TextLaws.laws).ordinary_text 2 32 refl (omega arith), (TextLaws.laws).ordinary_text 2 4127 refl (omega arith)))
    then (taken_text _ _ _ _ (JobRows.known).1.0 ∙ rw ((TextLaws.laws).ordinary_text 3 16 refl (omega arith), (TextLaws.laws).ordinary_text 3 3 refl (omega arith), TextRows.known_codes.0, TextRows.known_codes.1))
    then refused_text _ _ (JobRows.known).1.1.0
    then refused_text _ _ (JobRows.known).1.1.1.0
    then refused_text _ _ (JobRows.known).1.1.1.1.0
    then tt

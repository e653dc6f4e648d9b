-- Known records, in one table that one statement covers. Bytes are hexadecimal.
use Rattle.std.specs.Prelude.{ℕ, List, [], ◌∷◌, ◌≡◌, ℤ, pos, neg_ℤ, set}
use Rattle.laws.specs.Tables.{AllHold}
use Rattle.settings.specs.declared.Settings.{Settings}
use Rattle.settings.specs.Settings.{with_weights, with_threshold, with_truncation, with_samples}
use Rattle.update.specs.Update.{apply_record}
use Rattle.update.specs.Laws.{taken, refused_with}
use Rattle.checks.specs.declared.Reason.{Reason}
use Rattle.checks.specs.declared.Reason.TheVariants.{ShortRecord, UnknownField, RecordLength, WeightRange, ThresholdRange, TruncationRange, SamplesRange}

-- a record, and the reason for which it is refused; or what it makes of the settings
pub data Known : Type 0 where
  refused : (bytes : List ℕ) (reason : Reason) → Known
  makes : (bytes : List ℕ) (change : Settings → Settings) → Known

-- a row follows from the definitions, whatever the settings are
abbrev pub Holds : Settings → Known → Type 0
Holds s (refused bytes reason) = apply_record s bytes ≡ refused_with reason s
Holds s (makes bytes change) = apply_record s bytes ≡ taken (change s)

-- settings with another first weight
abbrev with_first : ℤ → Settings → Settings
with_first w s = with_weights (set s.weights 0 w) s

abbrev pub table : List Known
table =
    refused [] ShortRecord
    -- 00 00 changes nothing
    ∷ makes (0x00 ∷ 0x00 ∷ []) (λ s. s)
    -- threshold 13,087 and r = 3
    ∷ makes (0x00 ∷ 0x06 ∷ 0x1F ∷ 0x33 ∷ 0x03 ∷ []) (λ s. with_truncation 3 (with_threshold 13087 s))
    -- the ends of each range: weight bytes 0F, 1F and 10, which is minus zero; threshold, r and N
    ∷ makes (0x01 ∷ 0x00 ∷ 0x0F ∷ []) (with_first (pos 15))
    ∷ makes (0x01 ∷ 0x00 ∷ 0x10 ∷ []) (with_first (pos 0))
    ∷ makes (0x01 ∷ 0x00 ∷ 0x1F ∷ []) (with_first (neg_ℤ (pos 15)))
    ∷ refused (0x01 ∷ 0x00 ∷ 0x20 ∷ []) WeightRange
    ∷ makes (0x00 ∷ 0x02 ∷ 0xFF ∷ 0x3F ∷ []) (with_threshold 16383)
    ∷ refused (0x00 ∷ 0x02 ∷ 0x00 ∷ 0x40 ∷ []) ThresholdRange
    ∷ refused (0x00 ∷ 0x04 ∷ 0x00 ∷ []) TruncationRange
    ∷ makes (0x00 ∷ 0x04 ∷ 0x01 ∷ []) (with_truncation 1)
    ∷ makes (0x00 ∷ 0x04 ∷ 0x03 ∷ []) (with_truncation 3)
    ∷ refused (0x00 ∷ 0x04 ∷ 0x04 ∷ []) TruncationRange
    ∷ refused (0x00 ∷ 0x08 ∷ 0x00 ∷ []) SamplesRange
    ∷ makes (0x00 ∷ 0x08 ∷ 0x01 ∷ []) (with_samples 1)
    ∷ makes (0x00 ∷ 0x08 ∷ 0x09 ∷ []) (with_samples 9)
    ∷ refused (0x00 ∷ 0x08 ∷ 0x0A ∷ []) SamplesRange
    -- one byte; map bits 12 and 15; a byte too few, one too many
    ∷ refused (0x00 ∷ []) ShortRecord
    ∷ refused (0x00 ∷ 0x10 ∷ []) UnknownField
    ∷ refused (0x00 ∷ 0x80 ∷ []) UnknownField
    ∷ refused (0x00 ∷ 0x02 ∷ 0x00 ∷ []) RecordLength
    ∷ refused (0x00 ∷ 0x00 ∷ 0x00 ∷ []) RecordLength
    -- 2 before 4, 3 before 4, 4 before 5, 5 before 6, 6 before 7, 7 before 8; and of two weights the second is bad
    ∷ refused (0x01 ∷ []) ShortRecord
    ∷ refused (0x00 ∷ 0x10 ∷ 0x00 ∷ []) UnknownField
    ∷ refused (0x01 ∷ 0x00 ∷ 0x20 ∷ 0x00 ∷ []) RecordLength
    ∷ refused (0x01 ∷ 0x02 ∷ 0x20 ∷ 0x00 ∷ 0x40 ∷ []) WeightRange
    ∷ refused (0x00 ∷ 0x06 ∷ 0x00 ∷ 0x40 ∷ 0x04 ∷ []) ThresholdRange
    ∷ refused (0x00 ∷ 0x0C ∷ 0x04 ∷ 0x0A ∷ []) TruncationRange
    ∷ refused (0x01 ∷ 0x01 ∷ 0x1F ∷ 0x20 ∷ []) WeightRange
    ∷ []

-- every row follows from the definitions
abbrev pub AllKnown : Type 0
AllKnown = (s : Settings) → AllHold (Holds s) table

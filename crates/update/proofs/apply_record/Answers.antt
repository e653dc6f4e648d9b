use Rattle.std.proofs.Common.{◌≡◌, ℕ, ◌<◌, ◌/◌, ◌^◌, ◌∙◌, List, length, arith, refl, rules}
use Rattle.std.specs.Prelude.{not, ltb, eqb, Ok, Err}
use Rattle.checks.specs.declared.Reason.TheVariants.{ShortRecord, UnknownField, RecordLength}
use Rattle.checks.specs.Checks.{Answer, when, first, verdict, by_answer, or_refused}
use Rattle.settings.specs.declared.Settings.{Settings}
use Rattle.record.specs.Record.{map_of, field_count, offset_of}
use Rattle.fields.specs.Fields.{field_checks, resulting}
use Rattle.update.specs.Update.{apply_record}
use Rattle.update.proofs.Order.{answer_is}
use Rattle.update.proofs.apply_record.Goals as goal

new_or_refused : (a : Answer) (new old : Settings) → or_refused a (by_answer a new old) ≡ or_refused a new
new_or_refused (Ok tt) new old = refl
new_or_refused (Err r) new old = refl

-- an update's outcome, by the code's tests
outcome : (s : Settings) (bytes : List ℕ) {map end : ℕ} {short unknown lengths : Answer} → map < 2 ^ 16 → map ≡ map_of bytes → end ≡ offset_of map field_count
    → short ≡ when (ltb (length bytes) 2) ShortRecord
    → unknown ≡ when (not (eqb (map / 2 ^ field_count) 0)) UnknownField
    → lengths ≡ when (not (eqb (length bytes) end)) RecordLength
    → or_refused (apply_record s bytes).answer (apply_record s bytes).settings ≡ or_refused (first short (first unknown (first lengths (verdict (field_checks bytes))))) (resulting bytes s)
unfolding apply_record
outcome s bytes h m e p q r =
    new_or_refused _ (resulting bytes s) s ∙ rw (← answer_is bytes h m (e ∙ rw m) p q r refl)

pub returns-in_err-refuse_when : goal.returns-in_err-refuse_when
returns-in_err-refuse_when c =
    rw (outcome c.args.before c.args.bytes.now (omega arith) c.u16_le_at-map.ensures refl c.refuse_when.ensures refl refl, c.in_err-refuse_when.was) (search rules)

pub returns-in_err-refuse_when-2 : goal.returns-in_err-refuse_when-2
returns-in_err-refuse_when-2 c =
    rw (outcome c.args.before c.args.bytes.now (omega arith) c.u16_le_at-map.ensures refl c.refuse_when.ensures c.refuse_when-2.ensures refl, c.in_ok-refuse_when.was, c.in_err-refuse_when-2.was) (search rules)

pub returns-in_err-refuse_when-3 : goal.returns-in_err-refuse_when-3
returns-in_err-refuse_when-3 c =
    rw (outcome c.args.before c.args.bytes.now (omega arith) c.u16_le_at-map.ensures c.end_of.ensures c.refuse_when.ensures c.refuse_when-2.ensures c.refuse_when-3.ensures, c.in_ok-refuse_when.was, c.in_ok-refuse_when-2.was, c.in_err-refuse_when-3.was) (search rules)

pub returns : goal.returns
returns c =
    rw (outcome c.args.before c.args.bytes.now (omega arith) c.u16_le_at-map.ensures c.end_of.ensures c.refuse_when.ensures c.refuse_when-2.ensures c.refuse_when-3.ensures, c.in_ok-refuse_when.was, c.in_ok-refuse_when-2.was, c.in_ok-refuse_when-3.was) c.decode.ensures

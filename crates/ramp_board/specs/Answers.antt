-- An answer that holds something, as plain numbers: its number and its place, as `refusal_number` and `refusal_place` of `checks` have them of one that holds nothing.
use Rattle.std.specs.Prelude.{ℕ, Result, Ok, Err}
use Rattle.checks.specs.declared.Refusal.{Refusal}
use Rattle.checks.specs.Plain.{number}

-- 0 for taken
abbrev pub result_number : {A : Type 0} → Result A Refusal → ℕ
result_number (Ok x) = 0
result_number (Err r) = number r.reason

abbrev pub result_place : {A : Type 0} → Result A Refusal → ℕ
result_place (Ok x) = 0
result_place (Err r) = r.place

-- An operation's checks are a list of answers, in the order in which they are made. The first that refuses, with its number and place, is the operation's answer.
use Rattle.std.specs.Prelude.{ℕ, Bool, cond, List, [], ◌∷◌, Option, Some, None, Result, Ok, Err, ⊤}
use Rattle.checks.specs.declared.Reason.{Reason}
use Rattle.checks.specs.declared.Refusal.{Refusal}

-- taken, or refused
abbrev pub Answer : Type 0
Answer = Result ⊤ Refusal

-- a refusal at place 0, as every one is but 13 and 14
abbrev pub refusal : Reason → Refusal
refusal reason = record { reason = reason; place = 0 }

-- a check: refused for a reason if the test holds
abbrev pub when : Bool → Reason → Answer
when t reason = cond t (Err (refusal reason)) (Ok tt)

-- a check: refused for a reason at the place that was found
abbrev pub found : Option ℕ → Reason → Answer
found (Some p) reason = Err (record { reason = reason; place = p })
found None reason = Ok tt

-- of two checks, the first that refuses
abbrev pub first : Answer → Answer → Answer
first (Ok tt) next = next
first (Err r) next = Err r

-- of a list of checks, the first that refuses; taken if none does
unfoldable pub verdict : List Answer → Answer
verdict [] = Ok tt
verdict (check ∷ checks) = first check (verdict checks)

-- what a taken operation leaves, or what a refused one leaves
abbrev pub by_answer {ℓ} : {A : Type ℓ} → Answer → A → A → A
by_answer (Ok tt) new old = new
by_answer (Err r) new old = old

-- what a taken operation gives, or the refusal
abbrev pub or_refused : {A : Type 0} → Answer → A → Result A Refusal
or_refused (Ok tt) x = Ok x
or_refused (Err r) x = Err r

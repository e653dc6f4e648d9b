-- Where flags can be.
--     past_end       no flag past the end
--     flag_below     a flag's index
use Prim.Native.Nat.{ℕ, ◌≤◌, ◌<◌}
use mathlib.Core.Bool.{true, false}
use mathlib.Core.List.{List}
use mathlib.Core.Path.{◌≡◌, refl, sym, ◌∙◌}
use native.Mathlib.Omega.{arith}
use borrow.Author.Tests.{ltb-true, ltb-false}
use lib.Dec.{ltb}
use lib.ListN.{length, get_or-eq_default}
use Rattle.laws.proofs.Tests.{clash, cases}
use Rattle.meaning.specs.Meaning.{is_flag}
use Rattle.places.specs.Places.{flag_at}

pub past_end : (words : List ℕ) (i : ℕ) → length words ≤ i → flag_at words i ≡ false
unfolding is_flag
past_end words i h = rw (get_or-eq_default words 0 h) refl

pub flag_below : (words : List ℕ) (i : ℕ) → flag_at words i ≡ true → i < length words
flag_below words i t =
    cases (ltb i (length words))
    (λ e. ltb-true i (length words) e)
    (λ e. clash (sym t ∙ past_end words i (omega (arith, ltb-false i (length words) e))))

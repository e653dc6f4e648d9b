-- The place that a search finds, or how many elements there are.
--     position_or     the same number
use Rattle.std.proofs.Common.{◌≡◌, ℕ, Bool, not, List, length, nat_lt, refl, ltb-false, arith}
use Rattle.std.proofs.lemmas.List.Sums.{prefix_len-le-length}
use Rattle.std.specs.Option.{unwrap_or}
use Rattle.std.specs.List.{position, position_or_len}
use Rattle.laws.proofs.Tests.{cases}

pub position_or : (p : ℕ → Bool) (xs : List ℕ) → unwrap_or (position p xs) (length xs) ≡ position_or_len p xs
position_or p xs =
    cases (nat_lt (position_or_len p xs) (length xs))
    (λ e. rw e refl)
    (λ e. rw e (omega (arith, ltb-false (position_or_len p xs) (length xs) e, prefix_len-le-length (λ x. not (p x)) xs)))

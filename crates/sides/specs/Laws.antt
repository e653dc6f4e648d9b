-- The ends of the range of a side. `proofs/Laws.antt` shows it.
use Rattle.std.specs.Prelude.{true, false, ◌≡◌}
use Rattle.sides.specs.Sides.{sides_taken}

pub record SidesLaws : Type 0 where
  -- sides of 1 and of 1,024 are taken
  pub known_taken : (sides_taken 1 1024 false ≡ true) × (sides_taken 1024 1 false ≡ true) × (sides_taken 1024 2 true ≡ true)
  -- sides of 0 and of 1,025 are not, and no odd side of a binned board
  pub known_refused :
      (sides_taken 0 1 false ≡ false)
      × (sides_taken 1 0 false ≡ false)
      × (sides_taken 1025 1 false ≡ false)
      × (sides_taken 1 1025 false ≡ false)
      × (sides_taken 3 2 true ≡ false)
      × (sides_taken 2 3 true ≡ false)

-- What must be true of entries, beside the contracts. `proofs/Laws.antt` shows it.
use Rattle.std.specs.Prelude.{true, false, ◌≡◌, pos, neg_ℤ}
use Rattle.entries.specs.Possible.{possible_after}

pub record EntryLaws : Type 0 where
  -- at k = 9 the largest sum is 2,211,833
  pub largest_sum : (possible_after 9 (pos 2211833) ≡ true) × (possible_after 9 (pos 2211834) ≡ false)
  -- and the smallest −2,211,577
  pub smallest_sum : (possible_after 9 (neg_ℤ (pos 2211577)) ≡ true) × (possible_after 9 (neg_ℤ (pos 2211578)) ≡ false)
  -- the marks of samples 1 to k are possible, 1,073,741,825 and on; one of sample 0 or of sample k + 1 isn't
  pub known_marks : (possible_after 1 (pos 1073741825) ≡ true)
      × (possible_after 9 (pos 1073741833) ≡ true)
      × (possible_after 9 (pos 1073741824) ≡ false)
      × (possible_after 9 (pos 1073741834) ≡ false)
      × (possible_after 1 (pos 1073741826) ≡ false)

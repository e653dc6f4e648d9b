-- A square's four entries, raised.
--     smallest           the smallest of them
--     added              their total, where none is marked
use mathlib.Core.Bool.{true, cond}
use mathlib.Core.List.{[], ◌∷◌}
use Rattle.std.specs.Prelude.{None}
use mathlib.Core.Path.{◌≡◌, ◌∙◌}
use lib.IntN.{ℤ, pos, ◌+ℤ◌, ◌-ℤ◌}
use mir.Syntax.{w32}
use Rattle.std.specs.Int.{int_wrap, int_min}
use Rattle.entries.specs.Mark.{marked, sample_of}
use Rattle.entries.specs.SupportRange.{entry_in_range}
use Rattle.encoding.specs.Word.{smaller, smallest_mark}
use Rattle.words.proofs.Entries.{none_both}
use Rattle.words.proofs.Raising.{Raised, entry_raised, lower, sum_raised, whole}
use Rattle.words.proofs.Words.{by_pairs}

module _ (a b c d p q s t : ℤ)
    (h : (entry_in_range a ≡ true) × (entry_in_range b ≡ true)) (k : (entry_in_range c ≡ true) × (entry_in_range d ≡ true))
    (ip : p ≡ cond (marked a) (a -ℤ pos 3221225472) (a +ℤ pos 1073741824)) (iq : q ≡ cond (marked b) (b -ℤ pos 3221225472) (b +ℤ pos 1073741824))
    (is : s ≡ cond (marked c) (c -ℤ pos 3221225472) (c +ℤ pos 1073741824)) (it : t ≡ cond (marked d) (d -ℤ pos 3221225472) (d +ℤ pos 1073741824)) where
  pub smallest : (x y z : ℤ) → x ≡ int_min p q → y ≡ int_min s t → z ≡ int_min x y → Raised (smallest_mark (a ∷ b ∷ c ∷ d ∷ [])) z
  smallest x y z ix iy iz =
      rw (← by_pairs a b c d)
      (lower (smaller (sample_of a) (sample_of b)) (smaller (sample_of c) (sample_of d)) x y z iz
      (lower (sample_of a) (sample_of b) p q x ix (entry_raised a p h.0 ip) (entry_raised b q h.1 iq))
      (lower (sample_of c) (sample_of d) s t y iy (entry_raised c s k.0 is) (entry_raised d t k.1 it)))

  pub added : smallest_mark (a ∷ b ∷ c ∷ d ∷ []) ≡ None → int_wrap w32 (int_wrap w32 (p +ℤ q) +ℤ int_wrap w32 (s +ℤ t)) ≡ a +ℤ b +ℤ (c +ℤ d)
  added o =
      let n = none_both _ _ (by_pairs a b c d ∙ o) in
      let m = none_both _ _ n.0 in
      let l = none_both _ _ n.1 in
      whole a b c d p q s t (sum_raised a p h.0 ip m.0) (sum_raised b q h.1 iq m.1) (sum_raised c s k.0 is l.0) (sum_raised d t k.1 it l.1)

-- Entries that are surely possible.
--     Bound, bound_more    its bits are among those of all, for each entry before i; and for one more
--     together             the bits of four more
--     row_at, rows_end     an element of each of four lists of one length; and how many there are
--     bound_near           at the end: where the bits of all are near, each entry is
--     every_possible       and what is near is possible, where the nearness is within the bounds of a sum
--     quarters_possible    four parts that are near, and the rest that is possible
use Prim.Native.Nat.{ℕ, suc, ◌+◌, ◌-◌, ◌*◌, ◌<◌, ◌≤◌}
use mathlib.Core.Bool.{Bool, true, false, ◌&&◌}
use mathlib.Core.List.{List}
use mathlib.Core.Logic.{inl, inr, ⊎_elim}
use mathlib.Core.Path.{◌≡◌, refl, sym, ap, ◌∙◌}
use native.Mathlib.Nat.{eq-or-lt_of_le}
use native.Mathlib.Omega.{arith}
use borrow.Author.Tests.{ltb-true, ltb-false}
use lib.Bits.{bit_or}
use lib.Dec.{ltb}
use lib.IntN.{ℤ, pos, negsuc, neg_ℤ, ◌+ℤ◌, ◌-ℤ◌}
use lib.ListN.{length, get_or, take, drop}
use lib.Signed.{le_z, lt_z}
use mir.Syntax.{w32}
use mir.Val.{SFits, sel, to_z, of_z}
use Rattle.std.proofs.lemmas.List.{get_or_default}
use Rattle.std.proofs.lemmas.Slice.Zip.{length-zip, get_or-zip}
use Rattle.std.specs.List.{zip}
use Rattle.laws.specs.Lists.{every}
use Rattle.laws.proofs.Bits.{or_above}
use Rattle.laws.proofs.Every.{every_at, every_all}
use Rattle.laws.proofs.Quarters.{Four, quarters}
use Rattle.laws.proofs.Tests.{clash, cases, and_true, true_and}
use Rattle.laws.proofs.Ints.{up, dn, sum, neg_up, neg_dn, is_le, is_lt, lt_true, fitted, signed}
use Rattle.entries.specs.Mark.{mark, marked}
use Rattle.entries.specs.Possible.{max_product, possible_after}
use Rattle.impossible.specs.SupportNear.{moved, is_near, nearness}
use Rattle.entries.proofs.Possible.{is_fair}

-- the bits of four more
pub together : (b x y u v : ℕ) → let all = bit_or b (bit_or (bit_or x y) (bit_or u v)) in (b ≤ all) × (x ≤ all) × (y ≤ all) × (u ≤ all) × (v ≤ all)
together b x y u v =
    rest (or_above b (bit_or (bit_or x y) (bit_or u v))) (or_above (bit_or x y) (bit_or u v)) (or_above x y) (or_above u v)
  where
    rest : {p q r s : ℕ} → (b ≤ s) × (r ≤ s) → (p ≤ r) × (q ≤ r) → (x ≤ p) × (y ≤ p) → (u ≤ q) × (v ≤ q) → (b ≤ s) × (x ≤ s) × (y ≤ s) × (u ≤ s) × (v ≤ s)
    rest h k l m = omega arith

abbrev Row : Type 0
Row = (ℤ × ℤ) × (ℤ × ℤ)

module _ (a b c d : List ℤ) (i : ℕ) where
  abbrev rows : List Row
  rows = zip (zip a b) (zip c d)

  rows_length : length b ≡ length a → length c ≡ length a → length d ≡ length a → length rows ≡ length a
  rows_length h k l = length-zip (zip a b) (zip c d) ∙ rw (length-zip a b, length-zip c d, h, k, l) (omega arith)

  pub row_at : (row : Row) → length b ≡ length a → length c ≡ length a → length d ≡ length a → i < length rows → row ≡ get_or rows i row
      → (i < length a) × (row.0.0 ≡ get_or a i (pos 0)) × (row.0.1 ≡ get_or b i (pos 0)) × (row.1.0 ≡ get_or c i (pos 0)) × (row.1.1 ≡ get_or d i (pos 0))
  row_at row h k l low e =
      let n = rows_length h k l in
      let p : i < length (zip a b) = rw (length-zip a b) (omega arith) in
      let q : i < length (zip c d) = rw (length-zip c d) (omega arith) in
      let whole : row ≡ get_or rows i ((pos 0, pos 0), (pos 0, pos 0)) = e ∙ get_or_default rows i row ((pos 0, pos 0), (pos 0, pos 0)) low in
      let parts = whole ∙ get_or-zip (zip a b) (zip c d) i ((pos 0, pos 0), (pos 0, pos 0)) p q in
      let first = ap (λ (r : Row). r.0) parts ∙ get_or-zip a b i (pos 0, pos 0) (omega arith) (omega arith) in
      let second = ap (λ (r : Row). r.1) parts ∙ get_or-zip c d i (pos 0, pos 0) (omega arith) (omega arith) in
      (omega arith, ap (λ (r : ℤ × ℤ). r.0) first, ap (λ (r : ℤ × ℤ). r.1) first, ap (λ (r : ℤ × ℤ). r.0) second, ap (λ (r : ℤ × ℤ). r.1) second)

  pub rows_end : length b ≡ length a → length c ≡ length a → length d ≡ length a → i ≡ length rows → length a ≤ i
  rows_end h k l e = omega (arith, rows_length h k l)

module _ (gap near : ℤ) where
  -- the parts of a moved entry
  lower : (e : ℤ) → up (e -ℤ gap) + (dn e + up gap) ≡ dn (e -ℤ gap) + (up e + dn gap)
  lower e = omega (arith, sum e (neg_ℤ gap), neg_up gap, neg_dn gap)

  abbrev pub Bound : List ℤ → ℕ → ℕ → Type 0
  Bound l i bits = (j : ℕ) → j < i → let z = moved gap near (get_or l j (pos 0)) in SFits w32 z × (of_z w32 z ≤ bits)

  -- the entry at i was moved to z, and the bits of all are those before and more
  pub bound_more : (l : List ℤ) (i bits more : ℕ) (z : ℤ) → Bound l i bits → bits ≤ more → SFits w32 z → z ≡ moved gap near (get_or l i (pos 0)) → of_z w32 z ≤ more
      → Bound l (i + 1) more
  bound_more l i bits more z b h f q k j m =
      let at : j ≤ i = omega arith in
      ⊎_elim
      (λ e. rw e (rw (← q) (f, k)))
      (λ e. let g = b j e in (g.0, omega arith))
      (eq-or-lt_of_le at)

  -- bits below `below` are those of a number that is
  near_by : (z : ℤ) (bits : ℕ) → SFits w32 z → of_z w32 z ≤ bits → bits < 2147483648 → bits + dn (near +ℤ near) < up (near +ℤ near)
      → le_z (pos 0) z && lt_z z (near +ℤ near) ≡ true
  near_by (pos n) bits f h l b = true_and (is_le (pos 0) (pos n) (omega arith)) (is_lt (pos n) (near +ℤ near) (omega arith))
  near_by (negsuc n) bits f h l b = absurd (omega (arith, fitted w32 (negsuc n) f))

  -- what the last test says of the bits
  bits_near : (bits : ℕ) → le_z (pos 0) (to_z w32 bits) ≡ true → lt_z (to_z w32 bits) (near +ℤ near) ≡ true
      → (bits < 2147483648) × (bits + dn (near +ℤ near) < up (near +ℤ near))
  bits_near bits p q = by (ltb bits 2147483648) refl p q
    where
      by : (t : Bool) → ltb bits 2147483648 ≡ t → le_z (pos 0) (sel t (pos bits) (negsuc (4294967296 - suc bits))) ≡ true → lt_z (sel t (pos bits) (negsuc (4294967296 - suc bits))) (near +ℤ near) ≡ true
          → (bits < 2147483648) × (bits + dn (near +ℤ near) < up (near +ℤ near))
      by true e p q = (ltb-true bits 2147483648 e, omega (signed, lt_true (pos bits) (near +ℤ near) q))
      by false e p q = clash (sym p)

  pub bound_near : (l : List ℤ) (i bits : ℕ) → length l ≤ i → Bound l i bits → le_z (pos 0) (to_z w32 bits) && lt_z (to_z w32 bits) (near +ℤ near) ≡ true
      → every (is_near gap near) l ≡ true
  unfolding is_near
  bound_near l i bits h b t =
      let k = and_true (le_z (pos 0) (to_z w32 bits)) (lt_z (to_z w32 bits) (near +ℤ near)) t in
      let n = bits_near bits k.0 k.1 in
      every_all (is_near gap near) l (pos 0)
      (λ j q. let g = b j (omega arith) in near_by (moved gap near (get_or l j (pos 0))) bits g.0 g.1 n.0 n.1)

gap_parts : (k h : ℕ) → let gap = mark (k + 1) -ℤ pos h in up gap + h ≡ dn gap + (1073741825 + k)
gap_parts k h = omega (arith, sum (mark (k + 1)) (neg_ℤ (pos h)), neg_up (pos h), neg_dn (pos h))

-- with the mark of sample k moved down to the highest near sum
module _ (k h : ℕ) (few : k ≤ 9) (l : h + 128 ≤ k * max_product) where
  abbrev gap : ℤ
  gap = mark (k + 1) -ℤ pos h

  near_possible : (e : ℤ) → is_near gap (pos h) e ≡ true → possible_after k e ≡ true
  unfolding is_near
  near_possible e t =
      let n = and_true (le_z (pos 0) (moved gap (pos h) e)) (lt_z (moved gap (pos h) e) (pos h +ℤ pos h)) t in
      cases (marked e)
      (λ m. let q : lt_z (e -ℤ gap +ℤ pos h) (pos h +ℤ pos h) ≡ true = rw m at n.1 in is_fair k e (inl (omega (signed, lower gap (pos h) e, sum (e -ℤ gap) (pos h), gap_parts k h))))
      (λ m. let p : le_z (pos 0) (e +ℤ pos h) ≡ true = rw m at n.0 in let q : lt_z (e +ℤ pos h) (pos h +ℤ pos h) ≡ true = rw m at n.1 in is_fair k e (inr (omega (signed, sum e (pos h)))))

  every_possible : (l : List ℤ) → every (is_near gap (pos h)) l ≡ true → every (possible_after k) l ≡ true
  every_possible l t = every_all (possible_after k) l (pos 0) (λ j q. near_possible (get_or l j (pos 0)) (every_at (is_near gap (pos h)) l t (pos 0) j q))

-- the nearness of k samples is within the bounds
nearness_possible : (k : ℕ) → 1 ≤ k → nearness k + 128 ≤ k * max_product
nearness_possible k h = cases (ltb k 5) (λ t. rw t (omega arith)) (λ t. rw t (omega (arith, ltb-false k 5 t)))

-- what was found of four parts that are near, and of what is left over
pub quarters_possible : (k n : ℕ) (l : List ℤ) → 1 ≤ k → k ≤ 9
    → Four (is_near (mark (k + 1) -ℤ pos (nearness k)) (pos (nearness k))) (take n l) (take n (drop n l)) (take n (drop (n + n) l)) (take n (drop (n + n + n) l)) ≡ true
    → every (possible_after k) (drop (n + n + n + n) l) ≡ true → every (possible_after k) l ≡ true
quarters_possible k n l some few t r =
    let f = is_near (mark (k + 1) -ℤ pos (nearness k)) (pos (nearness k)) in
    let near = every_possible k (nearness k) few (nearness_possible k some) in
    let h = and_true (every f (take n l) && every f (take n (drop n l))) (every f (take n (drop (n + n) l)) && every f (take n (drop (n + n + n) l))) t in
    let p = and_true (every f (take n l)) (every f (take n (drop n l))) h.0 in
    let q = and_true (every f (take n (drop (n + n) l))) (every f (take n (drop (n + n + n) l))) h.1 in
    quarters (possible_after k) n l ∙ true_and (true_and (true_and (near _ p.0) (near _ p.1)) (true_and (near _ q.0) (near _ q.1))) r

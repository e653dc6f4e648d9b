-- Flags of a row, by their distance from a column.
--     left_nearest, right_nearest     the first flag so far away, to the left or to the right, is the nearest
--     further                         no flag so far away on either side: one step further
--     past_row                        no flag within the row's length: none at all
--     part_clear, between_clear       parts with no flag
use Prim.Native.Nat.{ℕ, ◌+◌, ◌-◌, ◌≤◌, ◌<◌, min}
use mathlib.Core.Bool.{true, false, not, ◌||◌}
use mathlib.Core.List.{List}
use mathlib.Core.Logic.{inl, inr}
use mathlib.Core.Path.{◌≡◌, refl, sym, ◌∙◌}
use native.Mathlib.Omega.{arith}
use borrow.Author.Tests.{ltb-true, ltb-false, leb-true, leb-false, not-true}
use lib.Dec.{ltb, leb}
use lib.ListN.{length, get_or, take, drop}
use Rattle.laws.proofs.Parts.{part_length, part_at}
use Rattle.laws.proofs.Tests.{clash, cases, or_right}
use Rattle.std.specs.Prelude.{Some, None, fold}
use Rattle.std.proofs.lemmas.List.Folds.{fold_stuck}
use Rattle.meaning.specs.Meaning.{is_flag}
use Rattle.places.specs.Places.{flag_at, apart}
use Rattle.places.specs.Finding.{nearest_at}
use Rattle.places.specs.Laws.{NotAfter}
use Rattle.places.proofs.Flagged.{flag_below}
use Rattle.places.proofs.Nearness.{nearest_is, nearest_none}
use Rattle.flag_rows.specs.SupportClear.{ClearTo}

module _ (row : List ℕ) (column : ℕ) where
  -- a flag further away, or as far
  ordered : (away c i : ℕ) → away ≤ apart column c → (apart column c ≡ away → i ≤ c) → NotAfter away i (apart column c) c
  ordered away c i h k =
      cases (ltb away (apart column c))
      (λ e. inl (ltb-true _ _ e))
      (λ e. let q : apart column c ≡ away = omega (arith, ltb-false away (apart column c) e) in inr (sym q, k q))

  module _ (inside : column < length row) (away : ℕ) (clear : ClearTo row column away) where
    pub left_nearest : (left : ℕ) → left ≡ column - away → flag_at row left ≡ true → nearest_at (length row) (flag_at row) (apart column) ≡ Some left
    left_nearest left e t =
        let l : away ≤ column = omega (arith, clear left t) in
        let d : away ≡ apart column left = omega arith in
        nearest_is (flag_at row) (apart column) (length row) left
        (record {
          below = omega arith;
          holds = t;
          first = λ j h u. rw (← d) (ordered away j left (clear j u) (λ q. omega arith));
        })

    module _ (left : ℕ) (e : left ≡ column - away) (none : flag_at row left ≡ false) where
      -- a flag so far away is on the right
      on_right : (c : ℕ) → flag_at row c ≡ true → apart column c ≡ away → c ≡ column + away
      on_right c u q =
          cases (leb c column)
          (λ k. let l : c ≡ left = omega (arith, leb-true c column k) in clash (sym u ∙ rw l none))
          (λ e. omega (arith, leb-false c column e))

      pub right_nearest : flag_at row (column + away) ≡ true → nearest_at (length row) (flag_at row) (apart column) ≡ Some (column + away)
      right_nearest t =
          let d : away ≡ apart column (column + away) = omega arith in
          nearest_is (flag_at row) (apart column) (length row) (column + away)
          (record {
            below = flag_below row (column + away) t;
            holds = t;
            first = λ j k u. rw (← d) (ordered away j (column + away) (clear j u) (λ q. omega (arith, on_right j u q)));
          })

      pub further : flag_at row (column + away) ≡ false → ClearTo row column (away + 1)
      further t c u =
          cases (ltb away (apart column c))
          (λ e. omega (arith, ltb-true away (apart column c) e))
          (λ e. let q : apart column c ≡ away = omega (arith, ltb-false away (apart column c) e, clear c u) in clash (sym u ∙ rw (on_right c u q) t))

    pub past_row : length row ≤ away → nearest_at (length row) (flag_at row) (apart column) ≡ None
    past_row h = nearest_none (flag_at row) (apart column) (length row) (λ j l. cases (flag_at row j) (λ t. absurd (omega (arith, clear j t))) (λ t. t))

  pub part_clear : (a b c : ℕ) → b ≤ length row → not (fold (λ any w. any || is_flag w) false (take (b - a) (drop a row))) ≡ true → a ≤ c → c < b → flag_at row c ≡ false
  part_clear a b c h n l k =
      let part = take (b - a) (drop a row) in
      let e : a + (c - a) ≡ c = omega arith in
      let inside : c - a < length part = rw (part_length row a (b - a) (omega arith)) (omega arith) in
      let same : get_or part (c - a) 0 ≡ get_or row c 0 = rw (part_at row a (b - a) (c - a) 0 (omega arith), e) in
      cases (flag_at row c)
      (λ t. clash
      (fold_stuck (λ any w. any || is_flag w) true (λ x. refl) false part (c - a) 0 inside
      (rw (same, t) (or_right (fold (λ any w. any || is_flag w) false (take (c - a) part))))
      ∙ not-true _ n))
      (λ t. t)

  pub between_clear : (near far start end from to : ℕ) → column < length row
      → start ≡ column + 1 - far → end ≡ column + 1 - near → from ≡ min (length row) (column + near) → to ≡ min (length row) (column + far)
      → not (fold (λ any w. any || is_flag w) false (take (end - start) (drop start row))) ≡ true
      → not (fold (λ any w. any || is_flag w) false (take (to - from) (drop from row))) ≡ true
      → ClearTo row column near → ClearTo row column far
  between_clear near far start end from to inside a b c d left right clear j u =
      let n = clear j u in
      let l = flag_below row j u in
      cases (ltb (apart column j) far)
      (λ e. let f = ltb-true (apart column j) far e in
      cases (leb j column)
      (λ q. let k = leb-true j column q in clash (sym u ∙ part_clear start end j (omega arith) left (omega arith) (omega arith)))
      (λ q. let k = leb-false j column q in clash (sym u ∙ part_clear from to j (omega arith) right (omega arith) (omega arith))))
      (λ e. ltb-false (apart column j) far e)

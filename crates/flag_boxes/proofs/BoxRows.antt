-- The flags of a box, row by row.
--     row_room        a row of the box is within the words
--     before_box      none before its first row
--     one_row         one row more
--     after_box       none after its last row
--     many_count      the flags of some words, counted word by word
--     row_more, row_few       a turn of the loop, and that the count stays small
--     rows_done               its last turn
use Prim.Native.Nat.{ℕ, zero, suc, ◌+◌, ◌-◌, ◌*◌, ◌/◌, ◌≤◌, ◌<◌}
use mathlib.Core.Bool.{Bool, false, cond, ◌&&◌}
use mathlib.Core.List.{List}
use mathlib.Core.Path.{◌≡◌, refl, sym, ap, subst, ◌∙◌}
use native.Mathlib.Nat.{div-lt_iff_lt-mul, mul-le-mul_right, suc-mul, add-mul, one-mul}
use native.Mathlib.Numerals.{add-one}
use native.Mathlib.Omega.{arith}
use borrow.Author.Tests.{ltb-true, ltb-false, le-leb, lt-leb}
use lib.Dec.{ltb, leb}
use lib.ListN.{length, take, drop}
use lib.Seq.{take-length}
use Rattle.std.specs.Prelude.{count_by}
use Rattle.std.proofs.lemmas.List.Sums.{sum_by_more}
use Rattle.laws.proofs.Numbers.{quotient, rest}
use Rattle.laws.proofs.Parts.{part_length, part_at}
use Rattle.laws.proofs.Tests.{cases, and_right, and_false}
use Rattle.meaning.specs.Meaning.{is_flag}
use Rattle.places.specs.declared.Place.{Place}
use Rattle.places.specs.Places.{place_of, flag_at}
use Rattle.places.specs.Counting.{how_many, in_box, flag_within}
use Rattle.places.proofs.Counts.{many_few, many_none, many_same, many_append, many_within}
use Rattle.flag_boxes.specs.SupportRequires.{Boxed}

-- the flags among the first n words
count_first : (words : List ℕ) (n : ℕ) → n ≤ length words → how_many n (flag_at words) ≡ count_by is_flag (take n words)
unfolding how_many
count_first words zero h = refl
count_first words (suc n) h =
    let m = sum_by_more (λ (w : ℕ). cond (is_flag w) 1 0) words n 0 (omega arith) in
    rw (count_first words n (omega arith)) (sym (rw add-one at m))

many_count : (words : List ℕ) → how_many (length words) (flag_at words) ≡ count_by is_flag words
many_count words = rw take-length at (count_first words (length words) (omega arith))

module _ (words : List ℕ) (width : ℕ) (first last : Place) (b : Boxed words width first last) where
  abbrev within : ℕ → Bool
  within = flag_within words width first last

  some : 0 < width
  some = omega (arith, b.across)

  pub row_room : (row : ℕ) → row ≤ last.row → row * width + width ≤ length words
  row_room row h = omega (arith, mul-le-mul_right width h, b.down)

  outside : (i : ℕ) → in_box first last (place_of width i) ≡ false → within i ≡ false
  outside i e = rw e (and_false (flag_at words i))

  pub before_box : how_many (first.row * width) within ≡ 0
  before_box =
      many_none within (first.row * width)
      (λ i h. let l = (div-lt_iff_lt-mul {k = width} {x = i} {y = first.row} some).1 h in outside i (rw (lt-leb first.row (i / width) l)))

  -- a word past the last row
  past : (i : ℕ) → last.row * width + width ≤ i → last.row < i / width
  past i h =
      cases (ltb last.row (i / width))
      (λ e. ltb-true last.row (i / width) e)
      (λ e. let l = ltb-false last.row (i / width) e in
      absurd (omega (arith, (div-lt_iff_lt-mul {k = width} {x = i} {y = 1 + last.row} some).0 (omega arith), suc-mul last.row width)))

  after_box : how_many (length words) within ≡ how_many (last.row * width + width) within
  after_box =
      let n = last.row * width + width in
      let e : n + (length words - n) ≡ length words = omega (arith, b.down) in
      subst (λ (k : ℕ). how_many k within ≡ how_many n within) e
      (many_append within n (length words - n)
      ∙ rw (many_none (λ i. within (n + i)) (length words - n)
      (λ i h. outside (n + i) (rw (lt-leb ((n + i) / width) last.row (past (n + i) (omega arith)), and_false (leb first.row ((n + i) / width)))))) (omega arith))

  module _ (row : ℕ) (low : first.row ≤ row) (high : row ≤ last.row) where
    abbrev across : ℕ → Bool
    across c = flag_at words (row * width + c) && (leb first.column c && leb c last.column)

    in_row : (c : ℕ) → c < width → within (row * width + c) ≡ across c
    in_row c h = rw (quotient width row c h, rest width row c h, le-leb first.row row low, le-leb row last.row high)

    one_row : how_many (row * width + width) within
        ≡ how_many (row * width) within + how_many (last.column + 1 - first.column) (flag_at (take (last.column + 1 - first.column) (drop (row * width + first.column) words)))
    one_row =
        let n = last.column + 1 - first.column in
        let d = width - (last.column + 1) in
        let a = first.column in
        let e : a + n + d ≡ width = omega (arith, b.columns, b.across) in
        many_append within (row * width) width
        ∙ ap (λ (k : ℕ). how_many (row * width) within + k)
        (many_same (λ c. within (row * width + c)) across width in_row
        ∙ subst (λ (k : ℕ). how_many k across ≡ how_many n (λ i. across (a + i))) e
        (many_within across a n d
        (λ i h. rw (lt-leb a i h) (and_false (flag_at words (row * width + i))))
        (λ i h l. rw (lt-leb i last.column (omega (arith, b.columns)), and_false (leb a i)) (and_false (flag_at words (row * width + i)))))
        ∙ many_same (λ i. across (a + i)) (flag_at (take n (drop (row * width + a) words))) n
        (λ i h. rw (le-leb a (a + i) (omega arith), le-leb (a + i) last.column (omega (arith, b.columns)), part_at words (row * width + a) n i 0 h, and_right)
        (ap (flag_at words) (omega arith))))

  -- the flags of the part of the words that the box takes of a row
  abbrev pub Here : ℕ → ℕ → Type 0
  Here row k = k ≡ count_by is_flag (take (row * width + last.column + 1 - (row * width + first.column)) (drop (row * width + first.column) words))

  pub row_more : (row n k : ℕ) → first.row ≤ row → row ≤ last.row → n ≡ how_many (row * width) within → Here row k → n + k ≡ how_many ((row + 1) * width) within
  row_more row n k low high before here =
      let m = last.column + 1 - first.column in
      let part = take m (drop (row * width + first.column) words) in
      let wide : row * width + last.column + 1 - (row * width + first.column) ≡ m = omega (arith, b.columns) in
      let len : length part ≡ m = part_length words (row * width + first.column) m (omega (arith, b.columns, b.across, row_room row high)) in
      let counted = rw len at (many_count part) in
      rw (add-mul row 1 width, one-mul width, one_row row low high, before, here, wide, counted)

  pub row_few : (row n k : ℕ) → first.row ≤ row → row ≤ last.row → n ≡ how_many (row * width) within → Here row k → n + k < 18446744073709551616
  row_few row n k low high before here =
      omega (arith, row_more row n k low high before here, many_few within ((row + 1) * width), row_room row high, add-mul row 1 width, one-mul width, b.few)

  pub rows_done : (row n k : ℕ) → last.row ≤ row → first.row ≤ row → row ≤ last.row → n ≡ how_many (row * width) within → Here row k → n + k ≡ how_many (length words) within
  rows_done row n k end low high before here =
      let q : row ≡ last.row = omega arith in
      row_more row n k low high before here ∙ rw (q, add-mul last.row 1 width, one-mul width) (sym after_box)

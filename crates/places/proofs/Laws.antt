-- The laws of the two operations.
use Prim.Native.Nat.{ℕ, ◌+◌, ◌-◌, ◌/◌, ◌%◌, ◌<◌}
use mathlib.Core.Bool.{true, false, cond, ◌&&◌}
use mathlib.Core.List.{List}
use mathlib.Core.Logic.{◌↔◌, ◌⊎◌, inl, inr}
use mathlib.Core.Path.{◌≡◌, refl, sym, ap, subst, ◌∙◌}
use native.Mathlib.Nat.{div-add-mod', mul-pos, add-zero}
use native.Mathlib.Omega.{arith}
use borrow.Author.Tests.{ltb-true, ltb-false, lt-ltb, le-leb, leb-true}
use lib.Dec.{ltb, leb}
use lib.ListN.{length}
use Rattle.laws.specs.Lists.{each}
use Rattle.laws.proofs.Numbers.{quotient, rest}
use Rattle.laws.proofs.Tests.{clash, cases, and_true, true_and, and_right, and_false}
use Rattle.std.specs.Prelude.{Option, Some, None, Result, Ok}
use Rattle.checks.specs.declared.Refusal.{Refusal}
use Rattle.checks.specs.Checks.{verdict}
use Rattle.sides.specs.Sides.{sides_taken}
use Rattle.meaning.specs.Meaning.{is_flag}
use Rattle.places.specs.declared.Place.{Place}
use Rattle.places.specs.Places.{place_at, place_of, index_of, is_inside, flag_at, apart, squared}
use Rattle.places.specs.Checks.{nearest_checks, count_checks}
use Rattle.places.specs.Finding.{nearest_at, distance_from, placed, nearest_of}
use Rattle.places.specs.Counting.{how_many, in_box, flag_within, count_of}
use Rattle.places.specs.Laws.{NotAfter, NearestFlag, FlagLaws}
use Rattle.places.proofs.Checked.{Framed, Inside, inside_parts, nearest_taken, count_taken, within, row_room}
use Rattle.places.proofs.Counts.{many_same, many_within}
use Rattle.places.proofs.Flagged.{flag_below}
use Rattle.places.proofs.Nearness.{Best, Says, nearest_says, nearest_is, nearest_none}

module _ (words : List ℕ) (width height : ℕ) where
  -- a place within the frame, and its index
  module _ (f : Framed words width height) (p : Place) (i : Inside words width height p) where
    place_back : place_of width (index_of width p) ≡ p
    place_back = rw (quotient width p.row p.column i.column, rest width p.row p.column i.column)

    index_below : index_of width p < length words
    index_below = omega (arith, row_room words width height f.whole p.row i.row, i.column)

  module _ (place : Place) (taken : verdict (nearest_checks words width height place) ≡ Ok tt) where
    abbrev frame : Framed words width height
    frame = (nearest_taken words width height place taken).0

    abbrev distance : ℕ → ℕ
    distance = distance_from width place

    answer : nearest_of words width height place ≡ Ok (placed width (nearest_at (length words) (flag_at words) distance))
    unfolding nearest_of
    answer = rw taken

    -- what was found, out of the answer
    told : {a b : Option Place} → ◌≡◌ {A = Result (Option Place) Refusal} (Ok a) (Ok b) → a ≡ b
    told e = cc

    -- the place of a word is within the frame
    inside_of : (i : ℕ) → i < length words → is_inside width height (place_of width i) ≡ true
    inside_of i h =
        let w = within words width height frame.whole (omega (arith, frame.sides.width.low)) i h in
        true_and (lt-ltb (i / width) height w.0) (lt-ltb (i % width) width w.1)

    best_is : (i : ℕ) → NearestFlag words width place i → Best (flag_at words) distance (length words) i
    best_is i n = record { below = flag_below words i n.flag; holds = n.flag; first = λ j l t. n.first j t }

    is_nearest : (i : ℕ) → Best (flag_at words) distance (length words) i → NearestFlag words width place i
    is_nearest i b = record { flag = b.holds; first = λ j t. b.first j (flag_below words j t) t }

    to_place : (p : Place) (x : Option ℕ) → Says (flag_at words) distance (length words) x → placed width x ≡ Some p
        → (is_inside width height p ≡ true) × NearestFlag words width place (index_of width p)
    to_place p (Some i) s e =
        let q : place_of width i ≡ p = same e in
        let k : index_of width p ≡ i = rw (← q) (div-add-mod' i width) in
        (rw (← q) (inside_of i s.below), rw k (is_nearest i s))
      where
        same : {a b : Place} → Some a ≡ Some b → a ≡ b
        same z = cc
    to_place p None s e = let z : ◌≡◌ {A = ℕ} 0 1 = cc in absurd (omega arith)

    from_place : (p : Place) → is_inside width height p ≡ true → NearestFlag words width place (index_of width p) → nearest_of words width height place ≡ Ok (Some p)
    from_place p t n =
        answer
        ∙ rw (nearest_is (flag_at words) distance (length words) (index_of width p) (best_is (index_of width p) n))
        (ap (λ (q : Place). Ok (Some q)) (place_back frame p (inside_parts words width height p t)))

    nearest : (p : Place) → (nearest_of words width height place ≡ Ok (Some p)) ↔ ((is_inside width height p ≡ true) × NearestFlag words width place (index_of width p))
    nearest p =
        (λ e. to_place p (nearest_at (length words) (flag_at words) distance) (nearest_says (flag_at words) distance (length words)) (told (sym answer ∙ e)), λ n. from_place p n.0 n.1)

    to_none : (x : Option ℕ) → Says (flag_at words) distance (length words) x → placed width x ≡ None → (i : ℕ) → flag_at words i ≡ false
    to_none (Some k) s e i = let z : ◌≡◌ {A = ℕ} 0 1 = cc in absurd (omega arith)
    to_none None s e i = cases (flag_at words i) (λ t. clash (sym t ∙ s i (flag_below words i t))) (λ t. t)

    no_flag : (nearest_of words width height place ≡ Ok None) ↔ ((i : ℕ) → flag_at words i ≡ false)
    no_flag = (
      λ e. to_none (nearest_at (length words) (flag_at words) distance) (nearest_says (flag_at words) distance (length words)) (told (sym answer ∙ e)),
      λ h. answer ∙ rw (nearest_none (flag_at words) distance (length words) (λ j l. h j)),
    )

    own_nearest : flag_at words (index_of width place) ≡ true → nearest_of words width height place ≡ Ok (Some place)
    own_nearest t =
        let i = (nearest_taken words width height place taken).1 in
        from_place place (true_and (lt-ltb place.row height i.row) (lt-ltb place.column width i.column))
        (record { flag = t; first = λ j u. own_first j (own i) })
      where
        own : Inside words width height place → distance (index_of width place) ≡ 0
        own i = rw (quotient width place.row place.column i.column, rest width place.row place.column i.column) (zero_apart place.row place.column)
          where
            zero_apart : (a b : ℕ) → squared (apart a a) + squared (apart b b) ≡ 0
            zero_apart a b = let p : apart a a ≡ 0 = omega arith in let q : apart b b ≡ 0 = omega arith in rw (p, q)

        zero_root : (a : ℕ) → squared a ≡ 0 → a ≡ 0
        zero_root a e = cases (ltb 0 a) (λ l. absurd (omega (arith, mul-pos (ltb-true 0 a l) (ltb-true 0 a l)))) (λ l. omega (arith, ltb-false 0 a l))

        own_first : (j : ℕ) → distance (index_of width place) ≡ 0 → NotAfter (distance (index_of width place)) (index_of width place) (distance j) j
        own_first j e =
            rw e
            (cases (ltb 0 (distance j))
            (λ l. inl (ltb-true 0 (distance j) l))
            (λ l. let z = ltb-false 0 (distance j) l in
            let rows = zero_root (apart place.row (j / width)) (omega arith) in
            let columns = zero_root (apart place.column (j % width)) (omega arith) in
            let r : place.row ≡ j / width = omega arith in
            let c : place.column ≡ j % width = omega arith in
            inr (omega arith, rw (r, c, div-add-mod' j width) (omega arith))))

  module _ (place : Place) (taken : verdict (count_checks words width height place place) ≡ Ok tt) where
    -- a word in a box of one place is the word there
    only : Framed words width height → Inside words width height place → (j : ℕ) → (j < index_of width place) ⊎ (index_of width place < j) → flag_within words width place place j ≡ false
    only f i j apart =
        cases (in_box place place (place_of width j))
        (λ t. let parts = and_true (leb place.row (j / width) && leb (j / width) place.row) (leb place.column (j % width) && leb (j % width) place.column) t in
        let rows = and_true (leb place.row (j / width)) (leb (j / width) place.row) parts.0 in
        let columns = and_true (leb place.column (j % width)) (leb (j % width) place.column) parts.1 in
        let r : place.row ≡ j / width = omega (arith, leb-true place.row (j / width) rows.0, leb-true (j / width) place.row rows.1) in
        let c : place.column ≡ j % width = omega (arith, leb-true place.column (j % width) columns.0, leb-true (j % width) place.column columns.1) in
        other (rw (r, c) (div-add-mod' j width)) apart)
        (λ t. rw t (and_false (flag_at words j)))
      where
        other : {A : Type 0} → index_of width place ≡ j → (j < index_of width place) ⊎ (index_of width place < j) → A
        other e (inl l) = absurd (omega arith)
        other e (inr l) = absurd (omega arith)

    here : Inside words width height place → in_box place place (place_of width (index_of width place)) ≡ true
    here i =
        rw (quotient width place.row place.column i.column, rest width place.row place.column i.column, le-leb place.row place.row (omega arith), le-leb place.column place.column (omega arith))

    one_place : count_of words width height place place ≡ Ok (cond (flag_at words (index_of width place)) 1 0)
    unfolding count_of how_many
    one_place =
        let t = count_taken words width height place place taken in
        let k = index_of width place in
        let e : k + 1 + (length words - (k + 1)) ≡ length words = omega (arith, index_below t.0 place t.1) in
        let test = flag_within words width place place in
        rw taken
        (ap Ok
        (subst (λ (n : ℕ). how_many n test ≡ cond (flag_at words k) 1 0) e
        (many_within test k 1 (length words - (k + 1)) (λ j l. only t.0 t.1 j (inl l)) (λ j l m. only t.0 t.1 j (inr (omega arith)))
        ∙ rw (add-zero k, here t.1, and_right) (omega arith))))

  module _ (taken : verdict (count_checks words width height (place_at 0 0) (place_at (height - 1) (width - 1))) ≡ Ok tt) where
    whole_frame : count_of words width height (place_at 0 0) (place_at (height - 1) (width - 1)) ≡ Ok (how_many (length words) (flag_at words))
    unfolding count_of
    whole_frame =
        let t = count_taken words width height (place_at 0 0) (place_at (height - 1) (width - 1)) taken in
        rw taken
        (ap Ok
        (many_same (flag_within words width (place_at 0 0) (place_at (height - 1) (width - 1))) (flag_at words) (length words)
        (λ j l. let w = within words width height t.0.whole (omega (arith, t.1.column)) j l in
        rw (le-leb 0 (j / width) (omega arith), le-leb 0 (j % width) (omega arith), le-leb (j / width) (height - 1) (omega arith), le-leb (j % width) (width - 1) (omega arith)) (and_right (flag_at words j)))))

pub laws : FlagLaws
unfolding nearest_of nearest_at count_of how_many verdict sides_taken is_flag each
laws = record {
  nearest = λ words width height place p t. nearest words width height place t p;
  no_flag = no_flag;
  own_nearest = own_nearest;
  one_place = one_place;
  whole_frame = whole_frame;
  known_distances = (refl, refl);
  known_ties = (refl, refl);
  known_counts = (refl, refl, refl);
  known_refusals = (refl, refl, refl, refl, refl, refl, refl, refl, refl, refl);
}

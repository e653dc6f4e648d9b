-- The words of a sound board hold it, and only these.
--     count_back, truth_back             a word that fits is the word of what it says
--     truth_has, weight_has              a flag and a weight in range have words
--     listed                            a list, word by word
--     settings_hold, settings_back      the words of settings hold them
--     settings_only, first_only         and only these
use Rattle.std.proofs.Common.{ℕ, zero, suc, ◌<◌, ◌≤◌, ◌≡◌, Bool, true, false, List, [], ◌∷◌, ◌++◌, ℤ, length, get_or, drop, refl, sym, ap, ◌∙◌, arith}
use lib.IntN.{pos, negsuc, neg_ℤ}
use lib.Signed.{le_z}
use lib.Dec.{ltb, eqb}
use lib.ListN.{length-drop}
use lib.Seq.{length-take-le}
use Rattle.std.proofs.lemmas.List.{ext_get_or, take-append-drop}
use borrow.Author.Tests.{lt-ltb, ltb-true}
use Rattle.laws.specs.Lists.{each, every}
use Rattle.laws.proofs.Each.{each_length, each_at}
use Rattle.laws.proofs.Ints.{is_le, is_lt, le_true}
use Rattle.laws.proofs.Tests.{cases, clash, and_true, true_and}
use Rattle.sides.specs.Sides.{sides_taken}
use Rattle.settings.specs.declared.Settings.{Settings}
use Rattle.settings.specs.Settings.{max_weight, weight_in_range}
use Rattle.settings.proofs.Parts.{InRange}
use Rattle.board.specs.declared.Board.{Board}
use Rattle.board.specs.Board.{sound}
use Rattle.board.specs.Open.{no_board}
use Rattle.board.proofs.Soundness.{sound_parts}
use Rattle.board_words.specs.Words.{board_length, settings_length, truth_word, words_of_settings, words_of, truth_fits, count_fits, weight_fits, word_at, settings_fit, first_words, waiting_words, in_force_words, first_fit, board_fits, truth_in, count_in, settings_in, board_in, holds_board, held}
use Rattle.board_words.specs.Laws.{WordsLaws}
use Rattle.board_words.proofs.Fitting.{short_has, short_counts, as_many}

-- ---- one word

count_back : (w : ℤ) → count_fits w ≡ true → pos (count_in w) ≡ w
count_back (pos n) e = refl
count_back (negsuc n) e = clash (sym e)

truth_back : (w : ℤ) → truth_fits w ≡ true → truth_word (truth_in w) ≡ w
truth_back (pos zero) e = refl
truth_back (pos (suc zero)) e = refl
truth_back (pos (suc (suc n))) e = absurd (omega (arith, ltb-true (suc (suc n)) 2 e))
truth_back (negsuc n) e = clash (sym e)

truth_has : (t : Bool) → (truth_fits (truth_word t) ≡ true) × (truth_in (truth_word t) ≡ t)
truth_has true = (refl, refl)
truth_has false = (refl, refl)

weight_has : (w : ℤ) → weight_in_range w ≡ true → weight_fits w ≡ true
weight_has w e =
    let p = and_true (le_z (neg_ℤ (pos max_weight)) w) (le_z w (pos max_weight)) e in
    true_and
    (is_le (neg_ℤ (pos 2147483648)) w (omega (arith, le_true (neg_ℤ (pos max_weight)) w p.0)))
    (is_lt w (pos 2147483648) (omega (arith, le_true w (pos max_weight) p.1)))

-- ---- lists

listed : (l : List ℤ) (n : ℕ) → length l ≡ n → l ≡ each (word_at l) n
listed l n e =
    ext_get_or (pos 0) l (each (word_at l) n) (e ∙ sym (each_length (word_at l) n)) (λ i h. sym (each_at (word_at l) n i (pos 0) (rw e at h)))

-- ---- the words of a board hold it

module _ (s : Settings) (r : InRange s) where
  has : (i : ℕ) → weight_fits (get_or s.weights i (pos 0)) ≡ true
  has i = weight_has (get_or s.weights i (pos 0)) (r.weights i)

  threshold_has : ltb s.threshold 65536 ≡ true
  threshold_has = lt-ltb _ _ (omega (arith, r.threshold))

  truncation_has : ltb s.truncation 65536 ≡ true
  truncation_has = lt-ltb _ _ (omega (arith, r.truncation_high))

  samples_has : ltb s.samples 65536 ≡ true
  samples_has = lt-ltb _ _ (omega (arith, r.samples_high))

  settings_hold : settings_fit (words_of_settings s) ≡ true
  unfolding settings_fit each every
  settings_hold = rw (has 0, has 1, has 2, has 3, has 4, has 5, has 6, has 7, has 8, threshold_has, truncation_has, samples_has)

  settings_back : settings_in (words_of_settings s) ≡ s
  unfolding each
  settings_back =
      ap (λ ws. record { weights = ws; threshold = s.threshold; truncation = s.truncation; samples = s.samples }) (sym (listed s.weights 9 r.nine))

reads_back : (b : Board) → sound b ≡ true → held (words_of b) ≡ b
unfolding held holds_board board_fits first_fit each
reads_back b e =
    let p = sound_parts b e in
    let waiting_hold : settings_fit (waiting_words (words_of b)) ≡ true = settings_hold b.waiting p.waiting in
    let in_force_hold : settings_fit (in_force_words (words_of b)) ≡ true = settings_hold b.in_force p.in_force in
    let waiting_is : settings_in (waiting_words (words_of b)) ≡ b.waiting = settings_back b.waiting p.waiting in
    let in_force_is : settings_in (in_force_words (words_of b)) ≡ b.in_force = settings_back b.in_force p.in_force in
    rw (waiting_hold, in_force_hold, waiting_is, in_force_is, (truth_has b.sides.binned).0, (truth_has b.running).0, (truth_has b.sides.binned).1, (truth_has b.running).1)

-- ---- only these

settings_only : (l : List ℤ) → length l ≡ settings_length → settings_fit l ≡ true → words_of_settings (settings_in l) ≡ l
unfolding each
settings_only l n f =
    let back = λ (i : ℕ) (low : 9 ≤ i) (high : i < settings_length). count_back (word_at l i) (short_counts (word_at l i) (short_has l n f i low high)) in
    rw (back 9 (omega arith) (omega arith), back 10 (omega arith) (omega arith), back 11 (omega arith) (omega arith))
    (sym (listed l settings_length n))

first_only : (l : List ℤ) → length l ≡ 5 → first_fit l ≡ true
    → pos (count_in (word_at l 0)) ∷ pos (count_in (word_at l 1)) ∷ truth_word (truth_in (word_at l 2)) ∷ truth_word (truth_in (word_at l 3)) ∷ pos (count_in (word_at l 4)) ∷ [] ≡ l
unfolding first_fit each
first_only l n f =
    let p = and_true _ (count_fits (word_at l 4)) f in
    let q = and_true _ (truth_fits (word_at l 3)) p.0 in
    let r = and_true _ (truth_fits (word_at l 2)) q.0 in
    let t = and_true (count_fits (word_at l 0)) (count_fits (word_at l 1)) r.0 in
    rw (count_back _ t.0, count_back _ t.1, truth_back _ r.1, truth_back _ q.1, count_back _ p.1)
    (sym (listed l 5 n))

-- a buffer that holds no board holds none that is sound
pub none_unsound : sound no_board ≡ false
unfolding sound sides_taken
none_unsound = refl

three_parts : {a b c x y z : List ℤ} → a ≡ x → b ≡ y → c ≡ z → a ++ (b ++ c) ≡ x ++ (y ++ z)
three_parts p q r = rw (p, q, r)

whole : (words : List ℤ) → holds_board words ≡ true → words ≡ words_of (board_in words)
unfolding holds_board board_fits
whole words h =
    let n = as_many words h in
    let f = (and_true (eqb (length words) board_length) (board_fits words) h).1 in
    let p = and_true _ (settings_fit (in_force_words words)) f in
    let q = and_true (first_fit (first_words words)) (settings_fit (waiting_words words)) p.0 in
    let rest : length (drop 5 words) ≡ 24 = rw length-drop (omega (arith, n)) in
    let first : length (first_words words) ≡ 5 = length-take-le 5 words (omega (arith, n)) in
    let waiting : length (waiting_words words) ≡ settings_length = length-take-le 12 (drop 5 words) (omega (arith, rest)) in
    let in_force : length (in_force_words words) ≡ settings_length = rw length-drop (omega (arith, rest)) in
    sym (take-append-drop 5 words)
    ∙ ap (λ l. first_words words ++ l) (sym (take-append-drop settings_length (drop 5 words)))
    ∙ sym (three_parts (first_only (first_words words) first q.0) (settings_only (waiting_words words) waiting q.1) (settings_only (in_force_words words) in_force p.1))

no_other : (words : List ℤ) → sound (held words) ≡ true → words ≡ words_of (held words)
unfolding held
no_other words e =
    cases (holds_board words)
    (λ t. rw t (whole words t))
    (λ t. clash (sym (rw t at e) ∙ none_unsound))

pub laws : WordsLaws
laws = record { reads_back = reads_back; no_other = no_other }

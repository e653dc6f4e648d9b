-- What it says of a word that it fits.
--     short_counts                 one of 16 bits isn't negative
--     WeightCast, weight_cast      what the cast of a weight's word asks for, and what it gives
--     ShortCast, short_cast        the same of a threshold's, r's or N's
--     weight_has_32, short_has     each word of settings that fit
--     as_many, settings_fit_in_board      of words that hold a board
use mathlib.Core.Path.{◌≡◌, refl, sym}
use mathlib.Core.Bool.{true, ◌&&◌}
use mathlib.Core.List.{List}
use Prim.Native.Nat.{ℕ, ◌+◌, ◌-◌, ◌<◌, ◌≤◌}
use native.Mathlib.Omega.{arith}
use lib.IntN.{ℤ, pos, negsuc, neg_ℤ, nat_abs}
use lib.ListN.{length, take, drop, length-drop}
use lib.Seq.{length-take-le, get_or-take, get_or-drop}
use lib.Signed.{le_z, lt_z, non_neg}
use lib.Dec.{T, eqb}
use mir.Syntax.{w16, w32, w64}
use mir.Val.{Fits, SFits, to_z, of_z}
use borrow.Author.Tests.{ltb-true, eqb-true}
use Rattle.laws.proofs.Ints.{le_true, lt_true, fits, back}
use Rattle.laws.specs.Lists.{every}
use Rattle.laws.proofs.Every.{every_at}
use Rattle.laws.proofs.Tests.{clash, and_true}
use Rattle.board_words.specs.Words.{board_length, settings_length, count_fits, short_fits, weight_fits, word_at, settings_fit, first_words, waiting_words, in_force_words, first_fit, board_fits, count_in, holds_board}

pub short_counts : (w : ℤ) → short_fits w ≡ true → count_fits w ≡ true
short_counts (pos n) e = refl
short_counts (negsuc n) e = clash (sym e)

pub record WeightCast (w : ℤ) : Type 0 where
  pub small : SFits w32 w
  pub whole : to_z w64 (of_z w64 w) ≡ w
  pub cast : to_z w32 (of_z w32 w) ≡ w

pub weight_cast : (w : ℤ) → weight_fits w ≡ true → WeightCast w
weight_cast w e =
    let p = and_true (le_z (neg_ℤ (pos 2147483648)) w) (lt_z w (pos 2147483648)) e in
    let s = fits w32 w (omega (arith, lt_true w (pos 2147483648) p.1), omega (arith, le_true (neg_ℤ (pos 2147483648)) w p.0)) in
    record { small = s; whole = back w64 w (omega (arith, s.sfits)); cast = back w32 w s.sfits }

pub record ShortCast (w : ℤ) : Type 0 where
  pub small : T (non_neg w) × Fits w16 (nat_abs w)
  pub whole : to_z w64 (of_z w64 w) ≡ w
  pub cast : nat_abs w ≡ count_in w

pub short_cast : (w : ℤ) → short_fits w ≡ true → ShortCast w
short_cast (pos n) e =
    let h = ltb-true n 65536 e in
    record { small = (tt, record { fits = h }); whole = back w64 (pos n) (omega (arith, h)); cast = refl }
short_cast (negsuc n) e = clash (sym e)

module _ (l : List ℤ) (n : length l ≡ settings_length) (f : settings_fit l ≡ true) where
  parts : (every weight_fits (take 9 l) ≡ true) × (every short_fits (drop 9 l) ≡ true)
  unfolding settings_fit
  parts = and_true _ _ f

  pub weight_has_32 : (i : ℕ) → i < 9 → weight_fits (word_at l i) ≡ true
  weight_has_32 i h =
      rw (get_or-take 9 l i (pos 0) h) at (every_at weight_fits (take 9 l) parts.0 (pos 0) i (rw (length-take-le 9 l (omega (arith, n))) h))

  pub short_has : (i : ℕ) → 9 ≤ i → i < settings_length → short_fits (word_at l i) ≡ true
  short_has i low high =
      let e : 9 + (i - 9) ≡ i = omega (arith, low) in
      rw (get_or-drop 9 l (i - 9) (pos 0), e) at (every_at short_fits (drop 9 l) parts.1 (pos 0) (i - 9) (rw length-drop (omega (arith, n, low, high))))

pub as_many : (words : List ℤ) → holds_board words ≡ true → length words ≡ board_length
unfolding holds_board
as_many words h = eqb-true _ _ (and_true (eqb (length words) board_length) (board_fits words) h).0

pub settings_fit_in_board : (words : List ℤ) → holds_board words ≡ true → (settings_fit (waiting_words words) ≡ true) × (settings_fit (in_force_words words) ≡ true)
unfolding holds_board board_fits
settings_fit_in_board words h =
    let f = (and_true (eqb (length words) board_length) (board_fits words) h).1 in
    let p = and_true (first_fit (first_words words) && settings_fit (waiting_words words)) (settings_fit (in_force_words words)) f in
    ((and_true (first_fit (first_words words)) (settings_fit (waiting_words words)) p.0).1, p.1)

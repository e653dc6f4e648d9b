-- Readings that are cut into Feeds.
--     one_by_one             the Feeds of a taken Feed's readings one at a time are taken, and leave the same
--     taken_in_any_cut       where the Feeds of one cut are taken, those of any other are, on a board that takes an empty Feed
--     any_cut                where the Feeds of one cut are taken, any other cut of the same readings leaves the same
use Prim.Native.Nat.{ℕ, ◌%◌, ◌<◌}
use mathlib.Core.List.{List, [], ◌∷◌, ◌++◌, append-nil}
use mathlib.Core.Path.{◌≡◌, refl, sym, ap, subst, ◌∙◌}
use native.Mathlib.Nat.{add-zero, mod-lt}
use native.Mathlib.Omega.{arith}
use lib.ListN.{length, length-set}
use lib.Seq.{get_or-set_same, get_or-set_other}
use Rattle.laws.specs.Lists.{joined}
use Rattle.std.specs.Prelude.{Ok, Err}
use Rattle.checks.specs.Checks.{Answer, verdict, by_answer}
use Rattle.engines.specs.Engine.{Engine}
use Rattle.engines.specs.Laws.{StandsFor}
use Rattle.sums.specs.Feed.{feed_one, feed_all}
use Rattle.board.specs.Board.{board_area}
use Rattle.board.proofs.Soundness.{sound_parts, sides_of}
use Rattle.operations.specs.Feed.{feed_checks_in, extended, feed_in, fed_sums_in}
use Rattle.operations.specs.Feeds.{BoardAndSums, TakesFeed, after_feed, TakesFeeds, after_feeds, singly, WritesOne, OneByOne}
use Rattle.operations.proofs.FeedChecked.{feed_taken, feed_passes}
use Rattle.operations.proofs.Parts.{Passes, left, left_is, left_append, first_passes, others_pass, in_one}

ones_append : (xs ys : List ℕ) → singly (xs ++ ys) ≡ singly xs ++ singly ys
ones_append [] ys = refl
ones_append (x ∷ xs) ys = ap (λ (l : List (List ℕ)). (x ∷ []) ∷ l) (ones_append xs ys)

module _ {E : Type 0} (engine : Engine E) (meant : StandsFor engine) where
  passes : (before : BoardAndSums E) (xs : List ℕ) → TakesFeed engine before xs → Passes engine before xs
  unfolding feed_in
  passes before xs e = feed_taken engine before.board xs before.sums e

  takes : (before : BoardAndSums E) (xs : List ℕ) → Passes engine before xs → TakesFeed engine before xs
  unfolding feed_in
  takes before xs t = feed_passes engine before.board xs before.sums t

  -- ---- one reading at a time

  -- a Feed of one reading
  writes_one : (before : BoardAndSums E) (x : ℕ) → Passes engine before (x ∷ []) → WritesOne engine before x
  unfolding feed_all feed_one
  writes_one before x t =
      let b = before.board in
      let is : fed_sums_in engine b (x ∷ []) before.sums ≡ (left engine before (x ∷ [])).sums = ap (λ (y : BoardAndSums E). y.sums) (left_is engine before (x ∷ []) t) in
      let e = t.ramp.length_is in
      let l : b.fed % board_area b < length before.sums = rw e (mod-lt b.fed (sides_of b (sound_parts b t.ramp.whole)).some) in
      record {
        has_entry = l;
        its_entry = rw (is, e) (get_or-set_same before.sums _ _ engine.absent l);
        others = λ q ne. rw (is, e) (get_or-set_other before.sums _ q _ engine.absent ne);
        as_many = rw is (length-set before.sums _ _);
      }

  ones : (readings : List ℕ) (before : BoardAndSums E) → Passes engine before readings → OneByOne engine before readings
  unfolding feed_all
  ones [] before t = record {
    taken = tt;
    writes = tt;
    leave = sym (left_is engine before [] t ∙ rw (add-zero before.board.fed));
  }
  ones (x ∷ xs) before t =
      let one = first_passes engine meant before (x ∷ []) xs t in
      let others = others_pass engine meant before (x ∷ []) xs t in
      let is = left_is engine before (x ∷ []) one in
      let rest = ones xs (after_feed engine before (x ∷ [])) (subst (λ (y : BoardAndSums E). Passes engine y xs) (sym is) others) in
      record {
        taken = (takes before (x ∷ []) one, rest.taken);
        writes = (writes_one before x one, rest.writes);
        leave = rest.leave ∙ ap (λ (y : BoardAndSums E). after_feed engine y xs) is ∙ (left_is engine (left engine before (x ∷ [])) xs others ∙ left_append engine before (x ∷ []) xs ∙ sym (left_is engine before (x ∷ xs) t));
      }

  pub one_by_one : (before : BoardAndSums E) (readings : List ℕ) → TakesFeed engine before readings → OneByOne engine before readings
  one_by_one before readings e = ones readings before (passes before readings e)

  -- ---- any cut

  feeds_append : (cut more : List (List ℕ)) (before : BoardAndSums E) → after_feeds engine before (cut ++ more) ≡ after_feeds engine (after_feeds engine before cut) more
  feeds_append [] more before = refl
  feeds_append (xs ∷ cut) more before = feeds_append cut more (after_feed engine before xs)

  cut_is : (cut : List (List ℕ)) (before : BoardAndSums E) → TakesFeeds engine before cut → after_feeds engine before cut ≡ after_feeds engine before (singly (joined cut))
  cut_is [] before t = refl
  cut_is (xs ∷ cut) before t =
      cut_is cut (after_feed engine before xs) t.1
      ∙ rw (← (one_by_one before xs t.0).leave, ones_append xs (joined cut)) (sym (feeds_append (singly xs) (singly (joined cut)) before))

  two_cuts : (before : BoardAndSums E) (cut other : List (List ℕ)) → joined cut ≡ joined other → TakesFeeds engine before cut → TakesFeeds engine before other
      → after_feeds engine before cut ≡ after_feeds engine before other
  two_cuts before cut other e t u = cut_is cut before t ∙ rw e (sym (cut_is other before u))

  -- a board that takes an empty Feed, and a cut whose Feeds are all taken: one Feed of all its readings is taken
  cut_passes : (cut : List (List ℕ)) (before : BoardAndSums E) → Passes engine before [] → TakesFeeds engine before cut → Passes engine before (joined cut)
  cut_passes [] before empty t = empty
  cut_passes (xs ∷ cut) before empty t =
      let one = passes before xs t.0 in
      let rest = others_pass engine meant before xs [] (rw (append-nil xs) one) in
      let same = left_is engine before xs one in
      in_one engine meant before xs (joined cut) one
      (subst (λ (y : BoardAndSums E). Passes engine y (joined cut)) same
      (cut_passes cut (after_feed engine before xs) (subst (λ (y : BoardAndSums E). Passes engine y []) (sym same) rest) t.1))

  -- and one Feed of all readings that is taken: so are the Feeds of every cut of them
  passes_cut : (cut : List (List ℕ)) (before : BoardAndSums E) → Passes engine before (joined cut) → TakesFeeds engine before cut
  passes_cut [] before t = tt
  passes_cut (xs ∷ cut) before t =
      let one = first_passes engine meant before xs (joined cut) t in (
        takes before xs one,
        passes_cut cut (after_feed engine before xs) (subst (λ (y : BoardAndSums E). Passes engine y (joined cut)) (sym (left_is engine before xs one)) (others_pass engine meant before xs (joined cut) t)),
      )

  pub taken_in_any_cut : (before : BoardAndSums E) (cut other : List (List ℕ)) → joined cut ≡ joined other → TakesFeed engine before [] → TakesFeeds engine before cut
      → TakesFeeds engine before other
  taken_in_any_cut before cut other e empty t = passes_cut other before (rw e at (cut_passes cut before (passes before [] empty) t))

  -- an empty Feed, taken or refused, leaves what was there
  empty_leaves : (before : BoardAndSums E) → after_feed engine before [] ≡ before
  unfolding feed_in fed_sums_in feed_all
  empty_leaves before = by (verdict (feed_checks_in engine before.board [] before.sums))
    where
      by : (a : Answer) → record { board = by_answer a (extended 0 before.board) before.board; sums = by_answer a before.sums before.sums } ≡ before
      by (Ok tt) = rw (add-zero before.board.fed)
      by (Err r) = refl

  -- and so do Feeds that are all empty
  empties_leave : (cut : List (List ℕ)) (before : BoardAndSums E) → joined cut ≡ [] → after_feeds engine before cut ≡ before
  empties_leave [] before e = refl
  empties_leave ([] ∷ cut) before e = rw (empty_leaves before) (empties_leave cut before e)
  empties_leave ((x ∷ xs) ∷ cut) before e = absurd (omega (arith, ap length e))

  -- a taken Feed among those of the first cut: then an empty one is taken, and so the Feeds of the other cut are
  pub any_cut : (before : BoardAndSums E) (cut other : List (List ℕ)) → joined cut ≡ joined other → TakesFeeds engine before cut → after_feeds engine before cut ≡ after_feeds engine before other
  any_cut before [] other e t = sym (empties_leave other before (sym e))
  any_cut before (xs ∷ cut) other e t =
      let empty = takes before [] (first_passes engine meant before [] xs (passes before xs t.0)) in
      two_cuts before (xs ∷ cut) other e t (taken_in_any_cut before (xs ∷ cut) other e empty t)

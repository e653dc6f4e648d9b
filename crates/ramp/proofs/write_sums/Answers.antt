use mathlib.Core.Path.{◌≡◌, refl, ap, ◌∙◌}
use Prim.Native.Nat.{ℕ, ◌+◌, ◌-◌, ◌*◌, ◌/◌, ◌%◌, ◌≤◌, ◌<◌}
use native.Mathlib.Omega.{arith}
use native.Mathlib.Nat.{add-sub_cancel_left, sub_self}
use native.Mathlib.Numerals.{add-one}
use borrow.Author.Rules.{rules}
use Rattle.std.proofs.lemmas.Bool.Decides.{nat_tests}
use lib.ListN.{length, drop}
use Rattle.std.proofs.lemmas.List.{drop-drop}
use Rattle.laws.proofs.Every.{every_take, every_drop}
use Rattle.readings.specs.Readings.{reading_in_range}
use Rattle.sums.specs.Feed.{feed_all}
use Rattle.written.proofs.Places.{place, few}
use Rattle.ramp.proofs.Turn.{turn_in_range, turn_next}
use Rattle.ramp.proofs.write_sums.Goals as goal

pub loop-rest-init : goal.loop-rest-init
unfolding feed_all
loop-rest-init g c = simp sub_self (omega arith, refl, refl, refl, refl)

pub feed_sample-requires-clause-readings_value : goal.feed_sample-requires-clause-readings_value
feed_sample-requires-clause-readings_value g c =
    let l = c.loop-rest in
    let i = l.at - c.args.fed in
    rw (c.split_at.ensures.front, l.invariant.2) (every_take reading_in_range c.min-k.result (drop i c.args.readings.now) (every_drop reading_in_range i c.args.readings.now c.requires.readings))

-- where the turn stands: whole samples, and p pixels of the next
here : (at m : ℕ) → 0 < m → at < 9 * m → (at / m * m + at % m ≡ at) × (at % m < m) × (at / m ≤ 8)
here at m some room = let e = place at m some in (e.0, e.1, few at m some room)

pub feed_sample-requires-clause-sums_value : goal.feed_sample-requires-clause-sums_value
feed_sample-requires-clause-sums_value g c =
    let a = c.args in
    let l = c.loop-rest in
    let h = c.requires in
    let k = c.min-k.result in
    let e = here l.at (length a.sums.now) h.some (grind (arith, nat_tests)) in
    rw l.invariant.4 (simp add-sub_cancel_left (turn_in_range g.E.Entry.engine g.met.E.Entry.stands_for a.settings.now a.fed a.readings.now a.sums.now h l.at k (omega arith) (omega arith) (omega arith) e.2))

pub loop-rest-preserved : goal.loop-rest-preserved
loop-rest-preserved g c =
    let a = c.args in
    let l = c.loop-rest in
    let h = c.requires in
    let k = c.min-k.result in
    let p = here l.at (length a.sums.now) h.some (grind (arith, nat_tests)) in
    let e = simp (add-sub_cancel_left, add-one, l.invariant.4, c.split_at.ensures.front, l.invariant.2) at c.feed_sample.ensures in
    let n = turn_next g.E.Entry.engine g.met.E.Entry.stands_for a.settings.now a.fed a.readings.now a.sums.now h l.at k (omega arith) (omega arith) (omega arith) in
    let d : l.at - a.fed + k ≡ l.at + k - a.fed = omega arith in (
      omega arith,
      omega (arith, c.split_at.ensures.back_len),
      c.split_at.ensures.back ∙ ap (drop k) l.invariant.2 ∙ drop-drop k (l.at - a.fed) a.readings.now ∙ ap (λ (x : ℕ). drop x a.readings.now) d,
      search rules,
      simp (add-sub_cancel_left, e, l.invariant.4, ← d) n,
    )

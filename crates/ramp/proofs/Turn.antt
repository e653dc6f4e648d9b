-- One turn of Feed's loop, which has come to `at`: it feeds the next k readings, which stay within one sample.
use Prim.Native.Nat.{ℕ, suc, ◌+◌, ◌-◌, ◌/◌, ◌%◌, ◌≤◌, ◌<◌}
use mathlib.Core.Bool.{true}
use mathlib.Core.List.{List, ◌++◌}
use mathlib.Core.Path.{◌≡◌, refl, ◌∙◌}
use native.Mathlib.Omega.{arith}
use lib.ListN.{length, take, drop}
use lib.Seq.{take-add, length-take-le}
use Rattle.laws.specs.Lists.{every, over}
use Rattle.laws.proofs.Every.{every_all}
use Rattle.laws.proofs.Parts.{part_length, part_at}
use Rattle.settings.specs.declared.Settings.{Settings}
use Rattle.settings.proofs.Parts.{in_range_parts}
use Rattle.engines.specs.Engine.{Engine, possible_in, step_in}
use Rattle.engines.specs.Laws.{StandsFor}
use Rattle.engines.specs.SupportRange.{entry_in_range_in}
use Rattle.engines.proofs.Laws.{keeps, possible_in_range_in}
use Rattle.sums.specs.Feed.{feed_all}
use Rattle.ramp.specs.SupportRequires.{Feedable}
use Rattle.written.proofs.Places.{place}
use Rattle.sums.proofs.Feeding.{feed_length, feed_append, feed_part}
use Rattle.written.proofs.Intervals.{Ready, written_ready}
use Rattle.sums.proofs.Ready.{ready_all}

module _ {E : Type 0} (engine : Engine E) (meant : StandsFor engine) (s : Settings) (f : ℕ) (xs : List ℕ) (ss : List E) (h : Feedable engine s f xs ss) (at k : ℕ) (hf : f ≤ at) (hk : at + k ≤ f + length xs) (hp : at % length ss + k ≤ length ss) where
  abbrev m : ℕ
  m = length ss

  abbrev i : ℕ
  i = at - f

  abbrev n : ℕ
  n = at / m

  abbrev p : ℕ
  p = at % m

  -- the sums after the first i readings
  abbrev sums : List E
  sums = feed_all engine.absent (step_in engine s) m f (take i xs) ss

  here : f + i ≡ at
  here = omega arith

  taken : length (take i xs) ≡ i
  taken = length-take-le i xs (omega arith)

  whole : length sums ≡ m
  whole = feed_length engine.absent (step_in engine s) m (take i xs) f ss

  ready : Ready engine.absent (possible_in engine s) m at (length xs - i) sums
  ready =
      let c : length (take i xs) + (length xs - i) ≡ length xs = rw taken (omega arith) in
      rw (taken, here) at (ready_all engine.absent (step_in engine s) (possible_in engine s) m h.some (keeps engine meant s (in_range_parts s h.settings)) (take i xs) f (length xs - i) ss (rw taken (omega (arith, h.room))) refl (rw c (written_ready engine.absent (possible_in engine s) m f (length xs) ss h.some h.entries)))

  pub turn_in_range : n ≤ 8 → 1 < n + 1 → every (entry_in_range_in engine) (take k (drop p sums)) ≡ true
  unfolding Ready
  turn_in_range few l =
      let a = place at m h.some in
      every_all (entry_in_range_in engine) (take k (drop p sums)) engine.absent
      (λ q t.
      let u : q < k = rw (part_length sums p k (rw whole hp)) at t in
      rw (part_at sums p k q engine.absent u) (possible_in_range_in engine s n _ (omega arith) (ready (p + q) n (omega arith) (omega arith) (omega arith) (omega arith) (omega arith))))

  pub turn_next : take p sums ++ (over (λ x e. step_in engine s (suc n) e x) (take k (drop i xs)) (take k (drop p sums)) ++ drop k (drop p sums))
      ≡ feed_all engine.absent (step_in engine s) m f (take (i + k) xs) ss
  turn_next =
      let e : length (take k (drop i xs)) ≡ k = part_length xs i k (omega arith) in
      feed_part engine.absent (step_in engine s) m n p k (take k (drop i xs)) sums whole (rw e (omega arith)) hp
      ∙ rw ((place at m h.some).0, take-add i k xs, feed_append engine.absent (step_in engine s) m (take i xs) (take k (drop i xs)) f ss, taken, here)

-- What sums that agree with the readings hold, for check 14 and beyond. There are nine samples at most.
--     never_impossible      check 14 of Feed finds nothing
--     all_possible          after n whole samples, every entry is possible for n
--     all_pass              a test of the entry of every possible whole number, and of those that are not written yet, is one of them all
use Prim.Native.Nat.{ℕ, zero, suc, ◌*◌, ◌≤◌, ◌<◌}
use mathlib.Core.Bool.{Bool, true}
use mathlib.Core.List.{List}
use mathlib.Core.Path.{◌≡◌, refl}
use native.Mathlib.Omega.{arith}
use lib.IntN.{ℤ}
use lib.ListN.{length, get_or}
use Rattle.laws.specs.Lists.{every}
use Rattle.laws.proofs.Every.{every_all}
use Rattle.settings.specs.declared.Settings.{Settings}
use Rattle.settings.proofs.Parts.{InRange}
use Rattle.std.specs.Prelude.{None}
use Rattle.checks.specs.Search.{first_place}
use Rattle.entries.specs.Possible.{possible}
use Rattle.engines.specs.Engine.{Engine, possible_in}
use Rattle.engines.specs.Laws.{StandsFor}
use Rattle.written.specs.Written.{samples_written, impossible_at}
use Rattle.written.proofs.Places.{same_sample, next}
use Rattle.written.proofs.Intervals.{Ready, ready_found}
use Rattle.sums.proofs.Agrees.{Agrees, written, written_possible}

module _ {E : Type 0} (engine : Engine E) (meant : StandsFor engine) (s : Settings) (r : InRange s) (m : ℕ) (some : 0 < m) (xs : List ℕ)
    (few : length xs ≤ 9 * m) (sums : List E) (agrees : Agrees engine s m xs sums) where
  entry : (p : ℕ) → p < m → (k : ℕ) → samples_written m (length xs) p ≡ k → 1 ≤ k → possible_in engine s k (get_or sums p engine.absent) ≡ true
  entry = written_possible engine s r m some meant xs sums agrees few

  pub never_impossible : (count : ℕ) → first_place m (impossible_at engine.absent (possible_in engine s) m (length xs) count sums) ≡ None
  unfolding Ready
  never_impossible count =
      ready_found engine.absent (possible_in engine s) m (length xs) count sums some
      (λ p k h lo hi brought low.
      let w = next (length xs) m some p h in
      entry p h k (same_sample m p (samples_written m (length xs) p) k (omega arith) (omega arith)) low)

  pub all_possible : (n : ℕ) → 1 ≤ n → length xs ≡ n * m → every (possible_in engine s n) sums ≡ true
  all_possible n low e =
      every_all (possible_in engine s n) sums engine.absent
      (λ p h. let l : p < m = rw agrees.whole at h in
      let w = next (length xs) m some p l in
      entry p l n (same_sample m p (samples_written m (length xs) p) n (omega arith) (omega arith)) low)

  pub all_pass : (test : E → Bool) → ((k : ℕ) (z : ℤ) → k ≤ 9 → possible s k z ≡ true → test (engine.entry_of z) ≡ true)
      → ((p : ℕ) → p < m → length xs ≤ p → test (get_or sums p engine.absent) ≡ true) → every test sums ≡ true
  all_pass test of brought =
      every_all test sums engine.absent (λ p h. let l : p < m = rw agrees.whole at h in at p l (samples_written m (length xs) p) refl)
    where
      at : (p : ℕ) → p < m → (k : ℕ) → samples_written m (length xs) p ≡ k → test (get_or sums p engine.absent) ≡ true
      at p l zero e = brought p l (omega (arith, rw e at (next (length xs) m some p l)))
      at p l (suc k) e =
          let w = written engine s r m some meant xs sums agrees few p l (suc k) e (omega arith) in rw w.1 (of (suc k) _ w.0 w.2)

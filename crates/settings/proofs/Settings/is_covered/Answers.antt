use Rattle.std.proofs.Common.{ℕ, ◌+◌, ◌*◌, ◌<◌, ◌≤◌, ◌^◌, ◌≡◌, ◌∙◌, sym, ap, arith}
use Rattle.std.proofs.Math.Nat.{mul-le-mul, le_refl}
use Rattle.std.proofs.Math.Pow.{pow_mono, shl_exact}
use Rattle.std.proofs.lemmas.Bool.{lt-ltb, le-leb}
use Rattle.word_codes.specs.Codes.{ordinary_end}
use Rattle.settings.specs.Covered.{positives, reach, ceiling, is_covered}
use Rattle.settings.proofs.Settings.is_covered.Goals as goal

reach_small : {p n t : ℕ} → p ≤ n * 2 ^ 31 → n < 65536 → t < 65536 → 128 + p * t < 2 ^ 63
reach_small {p} {n} {t} h i j =
    let most : p ≤ 65535 * 2 ^ 31 = omega arith in
    let high : t ≤ 65535 = omega arith in
    omega (arith, mul-le-mul most high)

ceiling_high : {r : ℕ} → 49 ≤ r → 2 ^ 63 ≤ ceiling r
ceiling_high {r} h = omega (arith, mul-le-mul (le_refl ordinary_end) (pow_mono h))

pub returns-then-r-ge49 : goal.returns-then-r-ge49
unfolding is_covered
returns-then-r-ge49 c =
    let s = c.args.self in
    let total = c.positive_total-total in
    let exact : positives s s.samples ≡ total.result = sym (total.ensures.exact ∙ ap (positives s) c.into.ensures) in
    let small : reach s < 2 ^ 63 = rw exact (reach_small total.ensures.bound (omega (arith, c.into.ensures)) (omega arith)) in
    rw (le-leb 49 s.truncation c.if-r-ge49.true, lt-ltb (reach s) (ceiling s.truncation) (omega (arith, small, ceiling_high c.if-r-ge49.true)))

pub returns-else-r-ge49 : goal.returns-else-r-ge49
unfolding is_covered
returns-else-r-ge49 c =
    let small : ordinary_end < 2 ^ 15 = omega arith in
    rw (c.positive_total-total.ensures.exact, c.into.ensures, c.from.ensures, c.from-else-r-ge49.ensures, shl_exact 15 c.args.self.truncation 64 small (omega arith))

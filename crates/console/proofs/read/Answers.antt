use Rattle.std.proofs.Common.{◌≡◌, ℕ, ◌+◌, ◌-◌, ◌≤◌, List, ◌++◌, length, take, drop, sym, ap, ◌∙◌, subst, rules, le_refl, drop_at, length-take-le}
use Rattle.std.proofs.Math.Seq.{take-add}
use Rattle.std.proofs.lemmas.List.{take-append-le}
use Rattle.std.proofs.lemmas.Slice.{take-put_mid_below}
use Rattle.std.proofs.KnownBytes.{Consumes-trans}
use Rattle.std.specs.Io.KnownBytes.{Consumes}
use borrow.Rule.Slice.PartMut.{put_mid, post_of}
use Rattle.console.proofs.read.Goals as goal

-- the front after a read into the rest: what stood there, and what was read
front_more : (a k n : ℕ) (xs ys : List ℕ) → a ≤ length xs → n ≤ length ys → take a xs ++ take n ys ≡ take (a + n) (put_mid a k xs ys)
front_more a k n xs ys within fits =
    let rest = drop_at (take a xs) (ys ++ post_of a k xs) a (length-take-le a xs within) in
    sym (
    take-add a n (put_mid a k xs ys)
    ∙ ap (λ l. l ++ take n (drop a (put_mid a k xs ys))) (take-put_mid_below a k xs ys a (le_refl a) within)
    ∙ ap (λ l. take a xs ++ l) (ap (take n) rest ∙ take-append-le n ys _ fits)
    )

pub loop-count-preserved : goal.loop-count-preserved
loop-count-preserved g c =
    let read = c.in-Ok.ensures in
    let more = front_more c.loop-count.count (length c.loop-count.buffer - c.loop-count.count) c.in-Ok.more c.loop-count.buffer c.read.new.buf (search rules) read.bound.0 in
    (search rules, search rules, search rules, subst (Consumes _ _) more (Consumes-trans _ _ _ _ _ c.loop-count.invariant.3 read.bytes.0))

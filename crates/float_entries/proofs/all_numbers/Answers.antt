use Rattle.float_entries.proofs.Lanes.{is_number}
use Rattle.float_entries.proofs.Chunks.{every_chunk}
use mathlib.Core.Bool.{true, ◌&&◌}
use mathlib.Core.Path.{◌≡◌, ◌∙◌}
use Prim.Native.Nat.{◌/◌, ◌*◌}
use lib.ListN.{length, drop}
use Rattle.std.proofs.Common.{rules}
use Rattle.std.specs.Simd.{first_chunks}
use Rattle.std.proofs.lemmas.Iterator.{YieldsList-from_slice}
use Rattle.laws.specs.Lists.{every}
use Rattle.laws.proofs.Folds.{fold_from_yields_List, every_fold}
use Rattle.float_entries.proofs.all_numbers.Goals as goal

pub returns : goal.returns
returns c =
    let l = c.args.sums.now in
    let n = length l / 8 in
    let parts : c.fold-in_parts.result ≡ every (every is_number) (first_chunks 8 n l) =
    fold_from_yields_List (λ good e. good && every is_number e) c.fold-in_parts.ensures.ran (YieldsList-from_slice (first_chunks 8 n l) (c.iter.ensures.rest ∙ c.as_chunks.ensures.front)) (λ good e more f' k. search rules)
    ∙ every_fold (every is_number) true (first_chunks 8 n l) in
    let rest : c.fold-in_rest.result ≡ every is_number (drop (n * 8) l) =
    fold_from_yields_List (λ good e. good && is_number e) c.fold-in_rest.ensures.ran (YieldsList-from_slice (drop (n * 8) l) (c.iter-2.ensures.rest ∙ c.as_chunks.ensures.back)) (λ good e more f' k. search rules)
    ∙ every_fold is_number true (drop (n * 8) l) in
    rw (parts, rest) (every_chunk is_number 8 n l)

-- `flag_search::search` meets its contract.
use Rattle.flag_search.proofs.Keyed.{key_found, key_none}
use Rattle.flag_search.proofs.search.Goals as goal

pub returns : goal.returns
returns c =
    let f = c.args.frame in
    rw (key_found f.words.now f.width c.args.place f.height c.requires c.in_ok-index.field-0 c.in_ok-index.ensures)

pub returns-in_err-index : goal.returns-in_err-index
returns-in_err-index c =
    let f = c.args.frame in
    rw (c.from_residual.ensures, key_none f.words.now f.width c.args.place f.height c.requires c.in_err-index.ensures)

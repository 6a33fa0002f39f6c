use Rattle.std.proofs.Common.{◌+◌, ◌*◌, rules, arith}
use Rattle.std.proofs.lemmas.Iterator.{YieldsList-from_slice}
use Rattle.std.proofs.lemmas.Iterator.Adapters.{fits_from_length, at_most_from_yields_List}
use borrow.Author.Tests.{tests}
use Rattle.book.proofs.Loops.{sum_below}
use Rattle.book.proofs.parts.sum_lots.Goals as goal

pub returns-clause-few : goal.returns-clause-few
returns-clause-few c =
    let few = sum_below c.sum.result (65535 * 256 + 1) (c.sum.ensures.runs tt) (fits_from_length _ _ 256 (65535 * 256 + 1) (at_most_from_yields_List (YieldsList-from_slice {s = c.map.result.iter} c.args.entries.now cc) c.requires) c.map.ensures.closure (omega arith) (λ x r q k. search (rules, tests))) in
    omega (arith, few)

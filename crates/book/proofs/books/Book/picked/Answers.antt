use Rattle.std.proofs.Common.{map, filter, sym, ap, ◌∙◌}
use Rattle.market.specs.Cancels.{by_number}
use Rattle.book.specs.Picks.{picks}
use Rattle.book.specs.Reads.{order_of}
use Rattle.book.proofs.Places.{book_pending}
use Rattle.book.proofs.books.Book.picked.Goals as goal

pub returns : goal.returns
returns c =
    let entries = c.deref.ensures.0 in
    c.collect.ensures ∙ ap (λ z. by_number (filter (picks c.args.picked.now) z)) (ap (map order_of) entries ∙ sym (book_pending c.args.self.now))

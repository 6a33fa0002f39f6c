use Rattle.std.proofs.Common.{sym, ap, ◌∙◌}
use Rattle.std.specs.List.{position}
use Rattle.book.specs.Reads.{entries_of, rows_in, stands_at}
use Rattle.book.proofs.Places.{first_from, none_from, rows_filled_at}
use Rattle.book.proofs.Rows.{rows_none_filled}
use Rattle.book.proofs.books.Book.fill_first.Goals as goal

pub returns-in-Some : goal.returns-in-Some
returns-in-Some c =
    let entries = entries_of c.args.self.now in
    let found = sym (c.in-Some.ensures ∙ ap (position (stands_at c.args.side c.args.instrument)) c.deref.ensures.0) in
    ap rows_in c.fill_at.ensures ∙ rows_filled_at c.args.side c.args.instrument entries c.in-Some.place (first_from _ entries c.in-Some.place found) c.args.lots

pub returns-in_default : goal.returns-in_default
returns-in_default c =
    let entries = entries_of c.args.self.now in
    let none = sym (c.in_default.ensures ∙ ap (position (stands_at c.args.side c.args.instrument)) c.deref.ensures.0) in
    rows_none_filled entries c.args.side c.args.instrument c.args.lots (none_from _ entries none)

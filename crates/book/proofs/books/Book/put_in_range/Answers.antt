use Rattle.std.proofs.Common.{◌<◌, ap, ◌∙◌, arith, lit<}
use Rattle.book.specs.Entries.{precedes}
use Rattle.book.specs.Reads.{entries_of, rows_in}
use Rattle.book.specs.Standing.{stands}
use Rattle.book.proofs.Places.{length_inserted, book_stands, count_is}
use Rattle.book.proofs.Rows.{rows_inserted}
use Rattle.book.proofs.Standing.{stands_from, stands_inserted}
use Rattle.book.proofs.books.Book.put_in_range.Goals as goal

pub put_in_order-requires : goal.put_in_order-requires
put_in_order-requires c = let book = c.args.self.now in (lit< tt, omega (arith, count_is book, c.requires.1))

pub invariant_of-self : goal.invariant_of-self
invariant_of-self c =
    let book = c.args.self.now in
    let entries = entries_of book in
    record {
      room = omega (arith, ap Rattle.std.proofs.Common.length c.put_in_order.ensures, length_inserted precedes c.args.entry entries, count_is book, c.requires.1);
      standing = ap stands c.put_in_order.ensures ∙ stands_from _ (stands_inserted c.args.entry entries c.requires.0 (book_stands book));
    }

pub returns : goal.returns
returns c = ap rows_in c.put_in_order.ensures ∙ rows_inserted c.args.entry (entries_of c.args.self.now) (book_stands c.args.self.now)

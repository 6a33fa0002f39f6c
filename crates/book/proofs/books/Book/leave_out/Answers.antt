use Rattle.std.proofs.Common.{not, length, ap, ◌∙◌, arith}
use Rattle.std.proofs.lemmas.List.Sums.{length-filter, count_by-le-length}
use Rattle.book.specs.declared.entry.Entry.{Entry}
use Rattle.book.specs.Picks.{picks}
use Rattle.book.specs.Reads.{order_of, entries_of, rows_in}
use Rattle.book.specs.Standing.{stands}
use Rattle.book.proofs.Places.{book_stands}
use Rattle.book.proofs.Rows.{rows_kept}
use Rattle.book.proofs.Standing.{stands_from, stands_kept}
use Rattle.book.proofs.books.Book.leave_out.Goals as goal

pub invariant_of-self-clause-standing : goal.invariant_of-self-clause-standing
invariant_of-self-clause-standing c =
    let book = c.args.self.now in
    ap stands c.keep.ensures ∙ stands_from _ (stands_kept (λ entry. not (picks c.args.picked.now (order_of entry))) (entries_of book) (book_stands book))

pub returns : goal.returns
returns c = ap rows_in c.keep.ensures ∙ rows_kept (picks c.args.picked.now) (entries_of c.args.self.now)

pub invariant_of-self-clause-room : goal.invariant_of-self-clause-room
invariant_of-self-clause-room c =
    let room = c.args.self.now.room in
    let kept = λ (entry : Entry). not (picks c.args.picked.now (order_of entry)) in
    let entries = entries_of c.args.self.now in
    omega (arith, ap length c.keep.ensures, length-filter kept entries, count_by-le-length kept entries)

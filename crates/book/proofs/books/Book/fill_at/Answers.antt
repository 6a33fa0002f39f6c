use Rattle.std.proofs.Common.{◌-◌, get_or, set, length, ap, ◌∙◌, length-set}
use Rattle.arrayvec.proofs.ArrayVecLemmas.{items-with_items}
use Rattle.book.specs.Reads.{blank_entry, entries_of, entry_with_lots}
use Rattle.book.specs.Standing.{stands}
use Rattle.book.proofs.Places.{book_stands}
use Rattle.book.proofs.Standing.{stands_from, stands_set_lots, stands_without}
use Rattle.book.proofs.books.Book.fill_at.Goals as goal

pub invariant_of-self-clause-standing : goal.invariant_of-self-clause-standing
invariant_of-self-clause-standing c =
    let book = c.args.self.now in
    let entries = entries_of book in
    let lots = (get_or entries c.args.place blank_entry).order.lots - c.args.lots in
    ap stands
    (items-with_items book.entries _ (length-set _ _ _ ∙ ap length c.deref_mut.ensures.value)
    ∙ ap (λ ys. set ys c.args.place (entry_with_lots (get_or ys c.args.place blank_entry) ((get_or ys c.args.place blank_entry).order.lots - c.args.lots))) c.deref_mut.ensures.value)
    ∙ stands_from _ (stands_set_lots entries c.args.place lots blank_entry (book_stands book))

pub invariant_of-self-else-lots-deref-clause-standing : goal.invariant_of-self-else-lots-deref-clause-standing
invariant_of-self-else-lots-deref-clause-standing c =
    let book = c.args.self.now in
    let entries = entries_of book in
    ap stands c.take_out.ensures
    ∙ stands_from _ (stands_without c.args.place entries (book_stands book))

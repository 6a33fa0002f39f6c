use Rattle.std.proofs.Common.{◌≡◌, ℕ, ◌+◌, ◌<◌, true, List, [], ◌∷◌, length, get_or, take, sym, ap, ◌∙◌, subst, arith, length-append, map}
use lib.ListN.{length-map}
use Rattle.terms.specs.declared.Side.{Side}
use Rattle.market.specs.Lists.{Wrote}
use Rattle.market.specs.Markets.{listed}
use Rattle.book.specs.declared.entry.Entry.{Entry}
use Rattle.book.specs.Reads.{order_of, stands_at, rows_in, blank_entry}
use Rattle.book.proofs.Loops.{list_more, not_listed, listed_row, rows_length}
use Rattle.book.proofs.listing.list_side.Goals as goal
use Rattle.book.proofs.listing.list_side.Goals.{then-is_at, else-is_at}

-- The order at a place is one of the row, so the row up to there is shorter.
room_for_one : (side : Side) (i : ℕ) (xs : List Entry) (k : ℕ) → k < length xs → stands_at side i (get_or xs k blank_entry) ≡ true → length (rows_in (take k xs) side i) < length (rows_in xs side i)
room_for_one side i xs k l there =
    let more = ap length (listed_row side i xs k blank_entry l there) in
    let sum = length-append (rows_in (take k xs) side i) (order_of (get_or xs k blank_entry) ∷ []) in
    omega (arith, rows_length side i xs (k + 1))

pub bounds-list-place : goal.bounds-list-place
bounds-list-place c = omega (arith, c.loop-entry.invariant.count, c.loop-entry.auto.list, room_for_one c.args.side c.args.instrument c.args.entries.now c.loop-entry.entry-index c.loop-entry-test.true (sym c.is_at.ensures ∙ c.if-is_at.true), length-map (rows_in (take c.loop-entry.entry-index c.args.entries.now) c.args.side c.args.instrument) (listed c.args.side))

pub loop-entry-preserved : goal.loop-entry-preserved
loop-entry-preserved c =
    let xs = c.args.entries.now in
    let k = c.loop-entry.entry-index in
    elim c.if-is_at.branch [
      | then-is_at w ↦ rw (w.list-is, w.place-is) (list_more c.args.side c.args.instrument xs k blank_entry (omega arith) c.args.list.now c.loop-entry.list c.args.from c.loop-entry.place w.listed.result (omega (arith, c.loop-entry.invariant.count, c.loop-entry.auto.list, room_for_one c.args.side c.args.instrument xs k c.loop-entry-test.true (sym c.is_at.ensures ∙ w.if-is_at.true), length-map (rows_in (take k xs) c.args.side c.args.instrument) (listed c.args.side))) (sym c.is_at.ensures ∙ w.if-is_at.true) w.listed.ensures c.loop-entry.invariant)
      | else-is_at w ↦ rw (w.list-is, w.place-is) (subst (λ row. Wrote c.args.list.now c.loop-entry.list c.args.from c.loop-entry.place (map (listed c.args.side) row)) (sym (not_listed c.args.side c.args.instrument xs k blank_entry (omega arith) (sym c.is_at.ensures ∙ w.if-is_at.false))) c.loop-entry.invariant)
    ]

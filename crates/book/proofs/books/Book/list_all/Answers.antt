use Rattle.std.proofs.Common.{◌≡◌, ◌++◌, map, length, drop, ap, ◌∙◌, arith, subst}
use lib.ListN.{length-map}
use Rattle.terms.specs.declared.Side.TheVariants.{Bid, Offer}
use Rattle.market.specs.Markets.{listed}
use Rattle.market.specs.Lists.{Wrote}
use Rattle.market.proofs.Lists.{wrote_both, wrote_length}
use Rattle.book.specs.Reads.{rows_in, rows_of, listing_in}
use Rattle.book.proofs.Loops.{both_rows}
use Rattle.book.proofs.books.Book.list_all.Goals as goal

pub list_side-bids-requires : goal.list_side-bids-requires
list_side-bids-requires c = let room = c.args.self.now.room in let h = c.as_slice-entries.ensures in omega (arith, both_rows c.as_slice-entries.result.now c.args.instrument)

pub list_side-end-requires : goal.list_side-end-requires
list_side-end-requires c =
    let entries = c.as_slice-entries.result.now in
    let told = length-map (rows_in entries Bid c.args.instrument) (listed Bid) in
    omega (arith, both_rows entries c.args.instrument, c.list_side-bids.ensures.count, wrote_length _ _ _ _ _ c.list_side-bids.ensures)

pub returns-clause-after : goal.returns-clause-after
returns-clause-after c =
    let book = c.args.self.now in
    let is = c.as_slice-entries.ensures.value in
    let bids_told = subst (λ es. Wrote c.args.list.now c.list_side-bids.new.list 0 c.list_side-bids.result (map (listed Bid) (rows_in es Bid c.args.instrument))) is c.list_side-bids.ensures in
    let offers_told = subst (λ es. Wrote c.list_side-bids.new.list c.list_side-end.new.list c.list_side-bids.result c.list_side-end.result (map (listed Offer) (rows_in es Offer c.args.instrument))) is c.list_side-end.ensures in
    let bids = length-map (rows_of book Bid c.args.instrument) (listed Bid) in
    let offers = length-map (rows_of book Offer c.args.instrument) (listed Offer) in
    let first = bids_told.count in
    let second = offers_told.count in
    let both = wrote_both _ _ _ _ _ _ _ _ bids_told offers_told in
    let end : c.list_side-end.result ≡ length (listing_in (rows_of book) c.args.instrument) = both.count ∙ omega arith in
    both.places ∙ ap (λ n. listing_in (rows_of book) c.args.instrument ++ drop n c.args.list.now) end

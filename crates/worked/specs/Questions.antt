-- Questions, and what is left as it was.
use Rattle.std.specs.Prelude.{◌≡◌, List, [], ◌∷◌, pos, Some, None, Ok, Err}
use Rattle.terms.specs.declared.Side.TheVariants.{Bid, Offer}
use Rattle.terms.specs.declared.Term.TheVariants.{Day}
use Rattle.market.specs.declared.calls.Answer.TheVariants.{Quotes, Listing}
use Rattle.market.specs.declared.calls.Call.{Call}
use Rattle.market.specs.declared.calls.Call.TheVariants.{AskStanding, AskQuotes, AskListing}
use Rattle.market.specs.declared.members.Mode.TheVariants.{Normal}
use Rattle.market.specs.declared.refusals.Refusal.TheVariants.{NoSuchMember, NoSuchInstrument, LotsOutOfRange}
use Rattle.market.specs.Markets.{Market, listing, listed, with_given}
use Rattle.worked.specs.Venues.{member_in, instrument, venue, with_row, with_lots, ◌by◌, pending, order, outcome, answer_on, run, left_by, told, standing}

-- Members and instruments 0 and 1. In instrument 0 are two bids at one rate and an offer; member 0 has bought 2 lots of it.
abbrev pub three_pending : Market
three_pending =
    with_given
    (with_row
    (with_row
    (with_lots (venue (member_in Normal 10 5000 ∷ member_in Normal 10 5000 ∷ []) (instrument ∷ instrument ∷ [])) 0 Bid 0 2)
    Bid 0 (pending (1 by 1) 61000 3 ∷ pending (2 by 0) 61000 4 ∷ []))
    Offer 0 (pending (3 by 0) 62000 5 ∷ []))
    3

-- There is no member 2, and no instrument 2.
abbrev pub questions : List Call
questions = AskStanding 0 ∷ AskQuotes 0 ∷ AskListing 0 ∷ AskStanding 2 ∷ AskQuotes 2 ∷ AskListing 2 ∷ []

abbrev pub order_past_its_limit : Call
order_past_its_limit = order 0 Offer Day 61000 11

pub record Questions : Type 0 where
  pub standing_answered : answer_on three_pending (AskStanding 0) ≡ standing 400 5000 Normal
  pub first_orders_quoted :
      answer_on three_pending (AskQuotes 0)
      ≡ Ok (Quotes (Some (record { rate = pos 61000; lots = 3 })) (Some (record { rate = pos 62000; lots = 5 })))
  pub nothing_quoted : answer_on three_pending (AskQuotes 1) ≡ Ok (Quotes None None)
  pub listing_counted : answer_on three_pending (AskListing 0) ≡ Ok (Listing (record { bids = 2; offers = 1 }))
  pub nothing_counted : answer_on three_pending (AskListing 1) ≡ Ok (Listing (record { bids = 0; offers = 0 }))
  pub bids_listed_before_offers :
      listing three_pending 0
      ≡ listed Bid (pending (1 by 1) 61000 3)
      ∷ listed Bid (pending (2 by 0) 61000 4)
      ∷ listed Offer (pending (3 by 0) 62000 5)
      ∷ []
  -- refused
  pub no_standing : answer_on three_pending (AskStanding 2) ≡ Err NoSuchMember
  pub no_quotes : answer_on three_pending (AskQuotes 2) ≡ Err NoSuchInstrument
  pub no_listing : answer_on three_pending (AskListing 2) ≡ Err NoSuchInstrument
  -- What questions and refused calls leave is the venue as it was, and they tell nothing.
  pub questions_tell_nothing : told (run three_pending questions) ≡ []
  pub questions_change_nothing : left_by three_pending questions ≡ three_pending
  pub order_refused : answer_on three_pending order_past_its_limit ≡ Err LotsOutOfRange
  pub refused_order_tells_nothing : (outcome three_pending order_past_its_limit).events ≡ []
  pub refused_order_changes_nothing : (outcome three_pending order_past_its_limit).market ≡ three_pending

-- The grounds of the other calls in their sequence, and the phases that each call belongs to.
use Rattle.std.specs.Prelude.{◌≡◌, ℕ, List, [], ◌∷◌, map, pos, Some, None, Ok, Err, Result}
use Rattle.terms.specs.declared.Side.TheVariants.{Bid}
use Rattle.terms.specs.declared.Term.TheVariants.{Day}
use Rattle.market.specs.declared.calls.Answer.{Answer}
use Rattle.market.specs.declared.calls.Answer.TheVariants.{Done, Quotes, Listing}
use Rattle.market.specs.declared.calls.Call.{Call}
use Rattle.market.specs.declared.calls.Call.TheVariants.{Admit, Define, Open, Deposit, Withdraw, Cancel, CancelAll, Close, AskStanding, AskQuotes, AskListing}
use Rattle.market.specs.declared.calls.Phase.{Phase}
use Rattle.market.specs.declared.calls.Phase.TheVariants.{SetUp, Open as OpenPhase, Closed}
use Rattle.market.specs.declared.members.Mode.TheVariants.{Reduction, Normal}
use Rattle.market.specs.declared.refusals.Refusal.{Refusal}
use Rattle.market.specs.declared.refusals.Refusal.TheVariants.{ListTooShort, WrongPhase, NoSuchMember, NoSuchInstrument, AlreadyThere, ValueOutOfRange, AmountOutOfRange, DepositNeeded, NoSuchOrder}
use Rattle.market.specs.TableRows.{blank_member, blank_instrument}
use Rattle.market.specs.Markets.{Market, with_phase, with_given}
use Rattle.worked.specs.Venues.{limits_of, member_in, instrument, venue, same_at_every_number, with_row, ◌by◌, pending, order, outcome, answer_on, placed, cancelled, standing}
use Rattle.worked.specs.Attempts.{Attempt, answer_to, met_by, if_met}

-- Every number, also past the last, has a member with this deposit and an instrument. Order 1 of member 31 is pending.
abbrev pub all_there : Phase → Market
all_there phase =
    with_row (same_at_every_number phase (member_in Normal 10 1000) instrument) Bid 15 (pending (1 by 31) 50000 1 ∷ [])

-- ---- attempts that meet the grounds from the n-th on

module _ (n : ℕ) where
  abbrev pub admitting : Attempt
  admitting =
      record {
        places = 0;
        market = same_at_every_number (if_met n 1 OpenPhase SetUp) (if_met n 3 (member_in Normal 10 0) blank_member) blank_instrument;
        call = Admit (if_met n 2 32 31) (if_met n 4 4 3) (limits_of 10);
      }

  abbrev pub defining : Attempt
  defining =
      record {
        places = 0;
        market = same_at_every_number (if_met n 1 OpenPhase SetUp) blank_member (if_met n 3 instrument blank_instrument);
        call = Define (if_met n 2 16 15) 0 (if_met n 4 3 2) 100;
      }

  abbrev pub depositing : Attempt
  depositing =
      record {
        places = 0;
        market = all_there (if_met n 1 Closed OpenPhase);
        call = Deposit (if_met n 2 32 31) (if_met n 3 0 1);
      }

  abbrev pub withdrawing : Attempt
  withdrawing =
      record {
        places = 0;
        market = same_at_every_number (if_met n 1 Closed OpenPhase) (member_in (if_met n 4 Reduction Normal) 10 1000) instrument;
        call = Withdraw (if_met n 2 32 31) (if_met n 3 0 1);
      }

  abbrev pub cancelling : Attempt
  cancelling =
      record {
        places = if_met n 1 256 257;
        market = all_there (if_met n 2 SetUp OpenPhase);
        call = Cancel (if_met n 3 32 31) (if_met n 4 2 1);
      }

  abbrev pub cancelling_all : Attempt
  cancelling_all =
      record {
        places = if_met n 1 256 257;
        market = all_there (if_met n 2 SetUp OpenPhase);
        call = CancelAll (if_met n 3 32 31);
      }

  abbrev pub closing : Attempt
  closing = record { places = if_met n 1 256 257; market = all_there (if_met n 2 SetUp OpenPhase); call = Close }

  abbrev pub listing : Attempt
  listing = record { places = if_met n 1 256 257; market = all_there OpenPhase; call = AskListing (if_met n 2 16 15) }

abbrev pub answers_from_each : (ℕ → Attempt) → List ℕ → List (Result Answer Refusal)
answers_from_each attempt = map (λ n. answer_to (attempt n))

-- Of each call: that all its grounds can be met at once; and the answers while they are met from the first on, from the second on, and so
-- forth, up to where none is met.
pub record OtherGrounds : Type 0 where
  pub all_met_by_admit : met_by (admitting 1) ≡ WrongPhase ∷ NoSuchMember ∷ AlreadyThere ∷ ValueOutOfRange ∷ []
  pub admit_answers :
      answers_from_each admitting (1 ∷ 2 ∷ 3 ∷ 4 ∷ 5 ∷ [])
      ≡ Err WrongPhase ∷ Err NoSuchMember ∷ Err AlreadyThere ∷ Err ValueOutOfRange ∷ Ok Done ∷ []
  pub all_met_by_define : met_by (defining 1) ≡ WrongPhase ∷ NoSuchInstrument ∷ AlreadyThere ∷ ValueOutOfRange ∷ []
  pub define_answers :
      answers_from_each defining (1 ∷ 2 ∷ 3 ∷ 4 ∷ 5 ∷ [])
      ≡ Err WrongPhase ∷ Err NoSuchInstrument ∷ Err AlreadyThere ∷ Err ValueOutOfRange ∷ Ok Done ∷ []
  pub all_met_by_deposit : met_by (depositing 1) ≡ WrongPhase ∷ NoSuchMember ∷ AmountOutOfRange ∷ []
  pub deposit_answers :
      answers_from_each depositing (1 ∷ 2 ∷ 3 ∷ 4 ∷ [])
      ≡ Err WrongPhase ∷ Err NoSuchMember ∷ Err AmountOutOfRange ∷ Ok Done ∷ []
  pub all_met_by_withdraw : met_by (withdrawing 1) ≡ WrongPhase ∷ NoSuchMember ∷ AmountOutOfRange ∷ DepositNeeded ∷ []
  pub withdraw_answers :
      answers_from_each withdrawing (1 ∷ 2 ∷ 3 ∷ 4 ∷ 5 ∷ [])
      ≡ Err WrongPhase ∷ Err NoSuchMember ∷ Err AmountOutOfRange ∷ Err DepositNeeded ∷ Ok Done ∷ []
  pub all_met_by_cancel : met_by (cancelling 1) ≡ ListTooShort ∷ WrongPhase ∷ NoSuchMember ∷ NoSuchOrder ∷ []
  pub cancel_answers :
      answers_from_each cancelling (1 ∷ 2 ∷ 3 ∷ 4 ∷ 5 ∷ [])
      ≡ Err ListTooShort ∷ Err WrongPhase ∷ Err NoSuchMember ∷ Err NoSuchOrder ∷ cancelled 1 ∷ []
  pub all_met_by_cancel_all : met_by (cancelling_all 1) ≡ ListTooShort ∷ WrongPhase ∷ NoSuchMember ∷ []
  pub cancel_all_answers :
      answers_from_each cancelling_all (1 ∷ 2 ∷ 3 ∷ 4 ∷ [])
      ≡ Err ListTooShort ∷ Err WrongPhase ∷ Err NoSuchMember ∷ cancelled 1 ∷ []
  pub all_met_by_close : met_by (closing 1) ≡ ListTooShort ∷ WrongPhase ∷ []
  pub close_answers : answers_from_each closing (1 ∷ 2 ∷ 3 ∷ []) ≡ Err ListTooShort ∷ Err WrongPhase ∷ cancelled 1 ∷ []
  pub all_met_by_listing : met_by (listing 1) ≡ ListTooShort ∷ NoSuchInstrument ∷ []
  pub listing_answers :
      answers_from_each listing (1 ∷ 2 ∷ 3 ∷ [])
      ≡ Err ListTooShort ∷ Err NoSuchInstrument ∷ Ok (Listing (record { bids = 1; offers = 0 })) ∷ []

-- ---- the phases

-- Order 1 is pending.
abbrev pub in_phase : Phase → Market
in_phase phase =
    with_given
    (with_phase (with_row (venue (member_in Normal 10 1000 ∷ []) (instrument ∷ [])) Bid 0 (pending (1 by 0) 50000 1 ∷ [])) phase)
    1

abbrev pub set_up_calls : List Call
set_up_calls = Admit 1 1 (limits_of 10) ∷ Define 1 0 1 100 ∷ Open ∷ []

abbrev pub deposit_calls : List Call
deposit_calls = Deposit 0 1 ∷ Withdraw 0 1 ∷ []

abbrev pub order_calls : List Call
order_calls = order 0 Bid Day 50000 1 ∷ Cancel 0 1 ∷ CancelAll 0 ∷ Close ∷ []

abbrev pub questions : List Call
questions = AskStanding 0 ∷ AskQuotes 0 ∷ AskListing 0 ∷ []

-- Of calls made on the same venue, not one after another.
abbrev pub answers_in : Phase → List Call → List (Result Answer Refusal)
answers_in phase = map (λ call. answer_on (in_phase phase) call)

abbrev pub answers_to_questions : List (Result Answer Refusal)
answers_to_questions =
    standing 0 1000 Normal
    ∷ Ok (Quotes (Some (record { rate = pos 50000; lots = 1 })) None)
    ∷ Ok (Listing (record { bids = 1; offers = 0 }))
    ∷ []

pub record Phases : Type 0 where
  pub set_up_calls_in_set_up : answers_in SetUp set_up_calls ≡ Ok Done ∷ Ok Done ∷ Ok Done ∷ []
  pub set_up_calls_in_open : answers_in OpenPhase set_up_calls ≡ Err WrongPhase ∷ Err WrongPhase ∷ Err WrongPhase ∷ []
  pub set_up_calls_in_closed : answers_in Closed set_up_calls ≡ Err WrongPhase ∷ Err WrongPhase ∷ Err WrongPhase ∷ []
  pub deposit_calls_in_set_up : answers_in SetUp deposit_calls ≡ Ok Done ∷ Ok Done ∷ []
  pub deposit_calls_in_open : answers_in OpenPhase deposit_calls ≡ Ok Done ∷ Ok Done ∷ []
  pub deposit_calls_in_closed : answers_in Closed deposit_calls ≡ Err WrongPhase ∷ Err WrongPhase ∷ []
  pub order_calls_in_set_up :
      answers_in SetUp order_calls ≡ Err WrongPhase ∷ Err WrongPhase ∷ Err WrongPhase ∷ Err WrongPhase ∷ []
  pub order_calls_in_open : answers_in OpenPhase order_calls ≡ placed 2 0 ∷ cancelled 1 ∷ cancelled 1 ∷ cancelled 1 ∷ []
  pub order_calls_in_closed :
      answers_in Closed order_calls ≡ Err WrongPhase ∷ Err WrongPhase ∷ Err WrongPhase ∷ Err WrongPhase ∷ []
  pub questions_in_set_up : answers_in SetUp questions ≡ answers_to_questions
  pub questions_in_open : answers_in OpenPhase questions ≡ answers_to_questions
  pub questions_in_closed : answers_in Closed questions ≡ answers_to_questions
  pub phase_after_open : (outcome (in_phase SetUp) Open).market.phase ≡ OpenPhase
  pub phase_after_close : (outcome (in_phase OpenPhase) Close).market.phase ≡ Closed

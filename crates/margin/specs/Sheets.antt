-- What a margin keeper holds, what its calls make of it, and when they are refused.
use Rattle.std.specs.Prelude.{ℕ, ◌+◌, ◌*◌, ◌/◌, Bool, cond, not, ◌&&◌, Some, None, Ok, Err, Option, Result, ◌==◌, nat_le, nat_lt}
use Rattle.terms.specs.declared.Side.{Side}
use Rattle.terms.specs.declared.Side.TheVariants.{Bid, Offer}
use Rattle.terms.specs.Sides.{same_side}
use Rattle.terms.specs.Tables.{put}
use Rattle.margin.specs.declared.refusal.KeeperRefusal.{KeeperRefusal}

-- The lots of one member, by side and instrument: bought on the bid side, sold on the offer side.
abbrev pub Totals : Type 0
Totals = Side → ℕ → ℕ

abbrev pub no_lots : Totals
no_lots _ _ = 0

-- The same totals, but q lots more on one side of one instrument.
abbrev pub raised : Totals → Side → ℕ → ℕ → Totals
raised totals side instrument q s =
    cond (same_side side s) (put (totals s) instrument (totals s instrument + q)) (totals s)

-- What a keeper means: a factor for each instrument, 0 where there is none, and totals for each member.
pub record Sheet : Type 0 where
  pub factor : ℕ → ℕ
  pub held : ℕ → Totals

-- What a keeper charges on factors and on one member's totals, in half-rupees.
abbrev pub Charge : Type 0
Charge = (ℕ → ℕ) → Totals → ℕ

abbrev pub fresh_sheet : Sheet
fresh_sheet = record { factor = λ _. 0; held = λ _. no_lots }

-- Set factor: the instrument is there and has no factor yet, and the factor is in range.
abbrev pub can_set_factor : Sheet → ℕ → ℕ → Bool
can_set_factor sheet instrument factor =
    nat_lt instrument 16 && (sheet.factor instrument == 0 && (nat_le 1 factor && nat_le factor 100000))

abbrev pub with_factor : Sheet → ℕ → ℕ → Sheet
with_factor sheet instrument factor = record { factor = put sheet.factor instrument factor; held = sheet.held }

abbrev pub after_set_factor : Sheet → ℕ → ℕ → Sheet
after_set_factor sheet instrument factor =
    cond (can_set_factor sheet instrument factor) (with_factor sheet instrument factor) sheet

-- Record: the member is there, the instrument has a factor (one above 15 has none), the lots are not 0, and the total stays within the reach.
abbrev pub can_record : ℕ → Sheet → ℕ → ℕ → Side → ℕ → Bool
can_record reach sheet member instrument side lots =
    nat_lt member 32 && (not (sheet.factor instrument == 0) && (nat_le 1 lots && nat_le (sheet.held member side instrument + lots) reach))

abbrev pub recorded : Sheet → ℕ → ℕ → Side → ℕ → Sheet
recorded sheet member instrument side lots =
    record { factor = sheet.factor; held = put sheet.held member (raised (sheet.held member) side instrument lots) }

abbrev pub after_record : ℕ → Sheet → ℕ → ℕ → Side → ℕ → Sheet
after_record reach sheet member instrument side lots =
    cond (can_record reach sheet member instrument side lots) (recorded sheet member instrument side lots) sheet

-- A trade: the lots are bought by one member and sold by another, on both sides or on neither.
abbrev pub can_record_trade : ℕ → Sheet → ℕ → ℕ → ℕ → ℕ → Bool
can_record_trade reach sheet buyer seller instrument lots =
    can_record reach sheet buyer instrument Bid lots && can_record reach sheet seller instrument Offer lots

abbrev pub traded : Sheet → ℕ → ℕ → ℕ → ℕ → Sheet
traded sheet buyer seller instrument lots = recorded (recorded sheet buyer instrument Bid lots) seller instrument Offer lots

abbrev pub after_trade : ℕ → Sheet → ℕ → ℕ → ℕ → ℕ → Sheet
after_trade reach sheet buyer seller instrument lots =
    cond (can_record_trade reach sheet buyer seller instrument lots) (traded sheet buyer seller instrument lots) sheet

-- Need: the charge on the member's totals, 0 above the last member.
abbrev pub need_of : Charge → Sheet → ℕ → ℕ
need_of charge sheet member = cond (nat_lt member 32) (charge sheet.factor (sheet.held member)) 0

-- Need with: the need as if the lots were recorded, refused as record is.
abbrev pub need_with : Charge → ℕ → Sheet → ℕ → ℕ → Side → ℕ → Result ℕ KeeperRefusal
need_with charge reach sheet member instrument side lots =
    cond (can_record reach sheet member instrument side lots)
    (Ok (need_of charge (recorded sheet member instrument side lots) member))
    (Err (record {}))

-- The share of a deposit that a need takes up, in whole hundredths, rounded down; none of a deposit of 0.
abbrev pub use_of_deposit : ℕ → ℕ → Option ℕ
use_of_deposit need deposit = cond (deposit == 0) None (Some (100 * need / deposit))

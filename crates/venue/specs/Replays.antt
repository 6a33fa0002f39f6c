-- A log of calls, made one after another on a venue that begins over a keeper.
use Rattle.std.specs.Prelude.{◌≡◌, ℕ, List, [], ◌∷◌, ◌++◌, map, length, drop}
use Rattle.margin.specs.Sheets.{Charge, Sheet, fresh_sheet}
use Rattle.market.specs.declared.calls.Call.{Call}
use Rattle.market.specs.declared.events.Event.{Event}
use Rattle.market.specs.Markets.{Market, begun, fresh_market}
use Rattle.runs.specs.Deeds.{Made, deed_of, deeds, market_after, market_at_end}
use Rattle.runs.specs.Promises.{Sound}

-- Each call of a log is made with the same list.
abbrev pub made_with : ℕ → List Call → List Made
made_with places log = map (λ (call : Call). record { call = call; places = places }) log

-- The list after the calls: each writes its events from the first place on, and leaves later places as they were.
abbrev pub list_at_end : Charge → ℕ → Market → List Made → List Event → List Event
list_at_end charge reach M [] list = list
list_at_end charge reach M (first ∷ others) list =
    list_at_end charge reach (market_after charge reach M first) others ((deed_of charge reach M first).events ++ drop (length (deed_of charge reach M first).events) list)

-- Of a log on a venue begun over a keeper with this sheet: the venue and the list after it are the rules'; and if the keeper was fresh,
-- what is promised of every run holds of this one.
pub record Replayed (charge : Charge) (reach : ℕ) (sheet : Sheet) (log : List Call) (after : Market) (list list_after : List Event) : Type 0 where
  pub became : after ≡ market_at_end charge reach (begun sheet) (made_with (length list) log)
  pub told : list_after ≡ list_at_end charge reach (begun sheet) (made_with (length list) log) list
  pub sound : sheet ≡ fresh_sheet → Sound charge (deeds charge reach fresh_market (made_with (length list) log)) after

-- What an answer says of the events that its call told.
use Rattle.std.specs.Prelude.{ℕ}
use Rattle.market.specs.declared.calls.Answer.{Answer}
use Rattle.market.specs.declared.calls.Answer.TheVariants.{Done, Placed, Cancelled, Standing, Quotes, Listing}

abbrev pub events_told : Answer → ℕ
events_told Done = 0
events_told (Placed placed) = placed.events
events_told (Cancelled count) = count
events_told (Standing standing) = 0
events_told (Quotes bid offer) = 0
events_told (Listing counts) = 0

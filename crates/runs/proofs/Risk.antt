-- Events that reduce risk, one after another: cancels always do.
use Rattle.std.proofs.Common.{ℕ, ltb, List, [], ◌∷◌, ◌++◌, map}
use Rattle.std.proofs.lemmas.Bool.{cond_both}
use Rattle.terms.specs.declared.Order.{Order}
use Rattle.margin.specs.Sheets.{Charge}
use Rattle.market.specs.declared.events.Event.{Event}
use Rattle.market.specs.declared.events.Reason.{Reason}
use Rattle.market.specs.declared.orders.NewOrder.{NewOrder}
use Rattle.market.specs.Cancels.{cancelled}
use Rattle.market.specs.Meeting.{rest_cancelled, order_of}
use Rattle.runs.specs.Ledgers.{Ledger, event_entry, event_entries}
use Rattle.runs.specs.Promises.{EventsReduceRisk}

module _ (charge : Charge) (placing : ℕ) where
  pub risk_append : (es fs : List Event) (L : Ledger) → EventsReduceRisk charge placing L es → EventsReduceRisk charge placing (event_entries charge placing es L) fs → EventsReduceRisk charge placing L (es ++ fs)
  risk_append [] fs L h k = k
  risk_append (e ∷ es) fs L h k = (h.0, risk_append es fs (event_entry charge placing e L) h.1 k)

  pub risk_cancelled : (reason : Reason) (orders : List Order) (L : Ledger) → EventsReduceRisk charge placing L (map (cancelled reason) orders)
  risk_cancelled reason [] L = tt
  risk_cancelled reason (o ∷ os) L = (tt, risk_cancelled reason os (event_entry charge placing (cancelled reason o) L))

  pub risk_rest_cancelled : (number : ℕ) (new : NewOrder) (reason : Reason) (rest : ℕ) (L : Ledger) → EventsReduceRisk charge placing L (rest_cancelled number new reason rest)
  risk_rest_cancelled number new reason rest L =
      cond_both (ltb 0 rest) (cancelled reason (order_of number new rest) ∷ []) [] (EventsReduceRisk charge placing L) (λ _. (tt, tt)) (λ _. tt)

-- Calls of a log, one after another.
use Rattle.std.proofs.Common.{◌≡◌, ℕ, ◌+◌, ◌<◌, List, ◌++◌, length, get_or, drop, sym, refl, ap, ◌∙◌}
use Rattle.std.proofs.lemmas.List.{drop_more}
use Rattle.margin.specs.Sheets.{Charge}
use Rattle.market.specs.declared.calls.Call.{Call}
use Rattle.market.specs.declared.events.Event.{Event}
use Rattle.market.specs.Markets.{Market}
use Rattle.market.specs.Calls.{Outcome, outcome, step}
use Rattle.runs.specs.Deeds.{market_at_end}
use Rattle.venue.specs.Replays.{made_with, list_at_end}

step_is_outcome : (charge : Charge) (reach places : ℕ) (M : Market) (call : Call) → outcome charge reach places M call ≡ step charge reach places M call
unfolding step
step_is_outcome charge reach places M call = refl

-- One call more of a log was made.
pub log_more : (charge : Charge) (reach places : ℕ) (M N : Market) (log : List Call) (i : ℕ) (d : Call) → i < length log → N ≡ (outcome charge reach places M (get_or log i d)).market → market_at_end charge reach M (made_with places (drop i log)) ≡ market_at_end charge reach N (made_with places (drop (i + 1) log))
log_more charge reach places M N log i d l is =
    ap (λ z. market_at_end charge reach M (made_with places z)) (drop_more log i d l)
    ∙ ap (λ (O : Market). market_at_end charge reach O (made_with places (drop (i + 1) log))) (sym (is ∙ ap (λ (o : Outcome). o.market) (step_is_outcome charge reach places M (get_or log i d))))

-- The same of the list.
pub list_more : (charge : Charge) (reach places : ℕ) (M N : Market) (log : List Call) (i : ℕ) (d : Call) (list written : List Event) → i < length log → N ≡ (outcome charge reach places M (get_or log i d)).market → written ≡ (outcome charge reach places M (get_or log i d)).events ++ drop (length (outcome charge reach places M (get_or log i d)).events) list → list_at_end charge reach M (made_with places (drop i log)) list ≡ list_at_end charge reach N (made_with places (drop (i + 1) log)) written
list_more charge reach places M N log i d list written l is wrote =
    let others = made_with places (drop (i + 1) log) in
    let after : Outcome → List Event = λ o. list_at_end charge reach o.market others (o.events ++ drop (length o.events) list) in
    ap (λ z. list_at_end charge reach M (made_with places z) list) (drop_more log i d l)
    ∙ (sym (ap after (step_is_outcome charge reach places M (get_or log i d)))
    ∙ (ap (λ (O : Market). list_at_end charge reach O others ((outcome charge reach places M (get_or log i d)).events ++ drop (length (outcome charge reach places M (get_or log i d)).events) list)) (sym is)
    ∙ ap (list_at_end charge reach N others) (sym wrote)))

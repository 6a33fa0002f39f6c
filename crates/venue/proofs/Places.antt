-- A place put together, and the relation that every call promises.
use Rattle.std.proofs.Common.{◌≡◌, ℕ, suc, ◌+◌, ◌<◌, ◌≤◌, Bool, true, false, cond, ltb, List, ◌++◌, length, drop, is_ok, Ok, Result, sym, refl, ap, ◌∙◌, subst, arith}
use Rattle.std.proofs.lemmas.List.{append-nil}
use Rattle.std.proofs.lemmas.Bool.{ltb-false, leb-false}
use Rattle.terms.specs.declared.Term.{Term}
use Rattle.terms.specs.declared.Term.TheVariants.{Day, Immediate}
use Rattle.margin.specs.Sheets.{Charge}
use Rattle.market.specs.declared.calls.Answer.{Answer}
use Rattle.market.specs.declared.calls.Answer.TheVariants.{Placed as PlacedAs}
use Rattle.market.specs.declared.calls.Call.{Call}
use Rattle.market.specs.declared.calls.Call.TheVariants.{Place}
use Rattle.market.specs.declared.events.Event.{Event}
use Rattle.market.specs.declared.orders.NewOrder.{NewOrder}
use Rattle.market.specs.declared.refusals.Refusal.{Refusal}
use Rattle.market.specs.Lists.{Wrote}
use Rattle.market.specs.Markets.{Market, Told, with_given, pending_orders}
use Rattle.market.specs.Meeting.{Meeting, met, settled, settled_by, placed}
use Rattle.market.specs.Grounds.{checked, grounds, place_grounds}
use Rattle.market.specs.Calls.{Outcome, unless_refused, effect, answer_of, accepted}
use Rattle.market.proofs.Lists.{wrote_both}
use Rattle.runs.proofs.Placings.{most_of}
use Rattle.runs.proofs.Steps.{unmet, acceptable}
use Rattle.venue.specs.Obeys.{Obeys}
use Rattle.venue.specs.Turns.{pending_count, rest_settled, Met, Did}

-- ---- an accepted call

-- What an accepted call told is written from the first place on.
pub obeys_accepted : (charge : Charge) (reach : ℕ) (call : Call) (M N : Market) (answer : Answer) (old new : List Event) (to : ℕ) → Ok tt ≡ checked (grounds charge reach (length old) M call) → N ≡ (effect charge reach M call).market → answer ≡ answer_of charge reach M call to → Wrote old new 0 to (effect charge reach M call).events → Obeys charge reach call M N (Ok answer) old new
obeys_accepted charge reach call M N answer old new to ok market is wrote =
    let outcome = ap (λ (r : Result (Unit {0}) Refusal). unless_refused M r (accepted charge reach M call)) ok in
    let count : to ≡ length (effect charge reach M call).events = omega (arith, wrote.count) in
    record {
      answered = ap (λ (a : Answer). Ok a) (is ∙ ap (answer_of charge reach M call) count) ∙ ap (λ (o : Outcome). o.answer) outcome;
      became = market ∙ ap (λ (o : Outcome). o.market) outcome;
      told = wrote.places ∙ ap (λ n. (effect charge reach M call).events ++ drop n old) count ∙ ap (λ (o : Outcome). o.events ++ drop (length o.events) old) outcome;
    }

-- ---- a place

-- What the grounds leave, with the room that a list and the book have.
pub record Placeable (places : ℕ) (M : Market) (new : NewOrder) : Type 0 where
  pub in_table : new.member < 32
  pub in_range : new.instrument < 16
  pub some : 0 < new.lots
  pub long : 257 ≤ places
  pub numbers_left : M.given < 65535
  pub free_place : new.term ≡ Day → pending_count M < 256

pub placeable : (charge : Charge) (reach places : ℕ) (M : Market) (new : NewOrder) → pending_count M ≤ 256 → Ok tt ≡ checked (place_grounds charge reach places M new) → Placeable places M new
placeable charge reach places M new few ok =
    let passed = sym (ap is_ok ok) in
    let u = unmet (place_grounds charge reach places M new) passed in
    let a = acceptable charge reach places M new few passed in
    record {
      in_table = a.in_table;
      in_range = a.in_range;
      some = a.some;
      long = ltb-false places 257 u.0;
      numbers_left = leb-false 65535 M.given u.1.1.1.1.1.1.1.1.1.1.1.1.1.0;
      free_place = λ day. omega (arith, subst (λ t. length (pending_orders M.rows) + 1 ≤ most_of t) day a.free_place);
    }

-- The rest is settled after the meeting.
settled_is : (number : ℕ) (new : NewOrder) (s : Meeting) → ◌≡◌ {A = Told} (record { market = (rest_settled number new s.market s.rest).market; events = s.events ++ (rest_settled number new s.market s.rest).events }) (settled number new s)
settled_is number new s = go (ltb 0 s.rest) new.term
  where
    go : (b : Bool) (t : Term) → ◌≡◌ {A = Told} (record { market = (cond b (Rattle.venue.specs.Turns.rest_settled_by t number new s.market s.rest) (Rattle.market.specs.Markets.quietly s.market)).market; events = s.events ++ (cond b (Rattle.venue.specs.Turns.rest_settled_by t number new s.market s.rest) (Rattle.market.specs.Markets.quietly s.market)).events }) (cond b (settled_by t number new s) (record { market = s.market; events = s.events }))
    go true Day = ap (λ (es : List Event). record { market = Rattle.market.specs.Meeting.stored number new s.market s.rest; events = es }) (append-nil s.events)
    go true Immediate = refl
    go false t = ap (λ (es : List Event). record { market = s.market; events = es }) (append-nil s.events)

pub place_obeys : (charge : Charge) (reach : ℕ) (new : NewOrder) (M N O : Market) (number left : ℕ) (ev0 ev1 ev2 : List Event) (t1 t2 : ℕ) → number ≡ suc M.given → Ok tt ≡ checked (place_grounds charge reach (length ev0) M new) → Met (met charge reach number new (with_given M number)) N left ev0 ev1 0 t1 → Did (rest_settled number new N left) O ev1 ev2 t1 t2 → Obeys charge reach (Place new) M O (Ok (PlacedAs (record { number = number; events = t2 }))) ev0 ev2
place_obeys charge reach new M N O number left ev0 ev1 ev2 t1 t2 is ok turned did =
    let s = met charge reach number new (with_given M number) in
    let whole = ap (λ n. settled n new (met charge reach n new (with_given M n))) is in
    let rest : rest_settled number new N left ≡ rest_settled number new s.market s.rest = λ k. rest_settled number new (turned.market_is k) (turned.rest_is k) in
    let told = settled_is number new s ∙ whole in
    obeys_accepted charge reach (Place new) M O (PlacedAs (record { number = number; events = t2 })) ev0 ev2 t2 ok
    (did.market_is ∙ ap (λ (t : Told). t.market) rest ∙ ap (λ (t : Told). t.market) told)
    (ap (λ n. PlacedAs (record { number = n; events = t2 })) is)
    (subst (Wrote ev0 ev2 0 t2) (ap (λ (t : Told). s.events ++ t.events) rest ∙ ap (λ (t : Told). t.events) told) (wrote_both ev0 ev1 ev2 0 t1 t2 s.events (rest_settled number new N left).events turned.wrote did.wrote))

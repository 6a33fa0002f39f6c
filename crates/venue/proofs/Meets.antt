-- One turn that ends in a fill.
use Rattle.std.proofs.Common.{◌≡◌, ℕ, min, Bool, false, eqb, List, Some, sym, ap, ◌∙◌, subst}
use Rattle.std.proofs.lemmas.Bool.{cond-false}
use Rattle.terms.specs.declared.Order.{Order}
use Rattle.margin.specs.Sheets.{Charge}
use Rattle.market.specs.declared.events.Event.{Event}
use Rattle.market.specs.declared.orders.NewOrder.{NewOrder}
use Rattle.market.specs.Markets.{Market}
use Rattle.market.specs.Meeting.{Meeting, apart, is_hindered, meeting_first}
use Rattle.book.specs.Reads.{first_of}
use Rattle.venue.specs.Turns.{meeting_at, fill_first, Turned}
use Rattle.venue.proofs.Fills.{Starts, starts_from}

-- The first opposite order is near, of another member, and nothing hinders the placing one.
pub turned_filled : (charge : Charge) (reach number : ℕ) (new : NewOrder) (M : Market) (rest : ℕ) (row : List Order) (pending : Order) → Some pending ≡ first_of row → apart new.side new.rate pending.rate ≡ false → eqb new.member pending.member ≡ false → (N : Market) (left : ℕ) (meets : Bool) (old after : List Event) (told to : ℕ) → is_hindered charge reach M new (min rest pending.lots) ≡ false → Turned (fill_first charge reach number new (meeting_at M rest) row) N left meets old after told to → Turned (meeting_first charge reach number new (meeting_at M rest) row) N left meets old after told to
turned_filled charge reach number new M rest row pending first near different N left meets old after told to free t =
    let start : Starts pending row = starts_from pending row first in
    let met = meeting_first charge reach number new (meeting_at M rest) in
    subst (λ (z : Meeting). Turned z N left meets old after told to)
    (ap (fill_first charge reach number new (meeting_at M rest)) start.row_is
    ∙ sym (ap met start.row_is ∙ cond-false (apart new.side new.rate pending.rate) _ _ near ∙ cond-false (eqb new.member pending.member) _ _ different ∙ cond-false (is_hindered charge reach M new (min rest pending.lots)) _ _ free))
    t

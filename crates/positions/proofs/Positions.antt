-- The amount on one member's position in one instrument, as the sheet has it.
use Rattle.std.proofs.Common.{◌≡◌, ℕ, ◌<◌, List, length, get_or, sym, ◌∙◌}
use Rattle.terms.specs.declared.Side.{Side}
use Rattle.terms.specs.declared.Side.TheVariants.{Bid, Offer}
use Rattle.margin.specs.Sheets.{raised}
use Rattle.margin.proofs.Raises.{raised_alike}
use Rattle.positions.specs.declared.lots.InstrumentLots.{InstrumentLots}
use Rattle.positions.specs.declared.lots.Position.{Position}
use Rattle.positions.specs.Charges.{Amount, amount_at}
use Rattle.positions.specs.Reads.{lots_in, sheet_of, IsPosition}
use Rattle.positions.proofs.Sheets.{table_of, factor_at, held_at}

module _ (amount : Amount) {reach : ℕ} (xs : List (InstrumentLots reach)) (i : ℕ) (x : InstrumentLots reach) (l : i < 16) (h : i < length xs) (m : ℕ) where
  pub amount_now : (p : Position) → IsPosition (get_or xs i x).factor (lots_in (get_or xs i x)) m p → amount p.factor p.lots.bought p.lots.sold ≡ amount_at amount (sheet_of (table_of xs)).factor ((sheet_of (table_of xs)).held m) i
  amount_now p is =
      let factor = factor_at xs i x l h in
      let bought : p.lots.bought ≡ (sheet_of (table_of xs)).held m Bid i = is.totals Bid ∙ sym (held_at xs i x l h m Bid) in
      let sold : p.lots.sold ≡ (sheet_of (table_of xs)).held m Offer i = is.totals Offer ∙ sym (held_at xs i x l h m Offer) in
      cc

  pub amount_with : (s : Side) (q : ℕ) (p : Position) → IsPosition (get_or xs i x).factor (raised (lots_in (get_or xs i x)) s m q) m p → amount p.factor p.lots.bought p.lots.sold ≡ amount_at amount (sheet_of (table_of xs)).factor (raised ((sheet_of (table_of xs)).held m) s i q) i
  amount_with s q p is =
      let factor = factor_at xs i x l h in
      let same = raised_alike (lots_in (get_or xs i x)) ((sheet_of (table_of xs)).held m) s m i q (λ u. sym (held_at xs i x l h m u)) in
      let bought : p.lots.bought ≡ raised ((sheet_of (table_of xs)).held m) s i q Bid i = is.totals Bid ∙ same Bid in
      let sold : p.lots.sold ≡ raised ((sheet_of (table_of xs)).held m) s i q Offer i = is.totals Offer ∙ same Offer in
      cc

-- A fill, put together from its parts.
use Rattle.std.proofs.Common.{◌≡◌, ℕ, ◌+◌, ◌-◌, ◌<◌, ◌≤◌, min, Bool, cond, not, ◌&&◌, ltb, List, [], ◌∷◌, ◌++◌, length, Some, sym, ap, ◌∙◌, subst, arith}
use Rattle.std.proofs.lemmas.Bool.{cond_both, ltb-true}
use Rattle.terms.specs.declared.Order.{Order}
use Rattle.margin.specs.Sheets.{Charge}
use Rattle.market.specs.declared.events.Event.{Event}
use Rattle.market.specs.declared.events.Event.TheVariants.{Traded}
use Rattle.market.specs.declared.events.Reason.{Reason}
use Rattle.market.specs.declared.events.Reason.TheVariants.{TurnedToReduction}
use Rattle.market.specs.declared.orders.NewOrder.{NewOrder}
use Rattle.market.specs.Lists.{Wrote}
use Rattle.market.specs.Markets.{Market, with_rows, with_sheet, put_row, sum_over}
use Rattle.market.specs.Cancels.{cancelled}
use Rattle.market.specs.Modes.{has_fallen, judge}
use Rattle.market.specs.Meeting.{opposite, row_filled, order_of, trade_of, rest_cancelled, after_fill, fill}
use Rattle.market.proofs.Lists.{wrote_both}
use Rattle.market.proofs.Weights.{one, book_sum_put, pending_length}
use Rattle.runs.proofs.Counts.{filled_count}
use Rattle.book.specs.Reads.{first_of, first_filled}
use Rattle.venue.specs.Turns.{pending_count, meeting_at, after_first_fill, fill_first, Turned, Did}

-- A row by its first order.
pub record Starts (first : Order) (row : List Order) : Type 0 where
  pub others : List Order
  pub row_is : row ≡ first ∷ others

pub starts_from : (first : Order) (row : List Order) → Some first ≡ first_of row → Starts first row
starts_from first [] e = absurd (let z : ◌≡◌ {A = ℕ} 0 1 = cc in omega arith)
starts_from first (x ∷ xs) e = record { others = xs; row_is = (let same : x ≡ first = cc in ap (λ o. o ∷ xs) same) }

-- One order less is pending, or nothing is left of the placed one.
pub trade_few : (reach : ℕ) (M : Market) (new : NewOrder) (pending : Order) (rest q : ℕ) → new.instrument < 16 → 0 < rest → q ≡ min rest pending.lots → Some pending ≡ first_of (M.rows (opposite new.side) new.instrument) → 1 + pending_count (after_first_fill reach M new pending q) + min 1 (rest - q) ≤ pending_count M + 1
trade_few reach M new pending rest q in_range some is first =
    let s = starts_from pending (M.rows (opposite new.side) new.instrument) first in
    let row = M.rows (opposite new.side) new.instrument in
    let filled = first_filled q row in
    let rows = put_row M.rows (opposite new.side) new.instrument filled in
    let book = book_sum_put one M.rows (opposite new.side) new.instrument filled in_range in
    let old = ap (sum_over one) s.row_is in
    let new_row = ap (λ z. sum_over one (first_filled q z)) s.row_is in
    let lots = ap (λ k. sum_over one (row_filled pending k s.others)) is in
    let count = filled_count pending s.others rest some in
    omega (arith, pending_length M.rows, pending_length rows)

pub rest_few : (number : ℕ) (new : NewOrder) (reason : Reason) (rest : ℕ) → length (rest_cancelled number new reason rest) ≤ min 1 rest
rest_few number new reason rest = cond_both (ltb 0 rest) (cancelled reason (order_of number new rest) ∷ []) [] (λ (es : List Event). length es ≤ min 1 rest) (λ e. omega (arith, ltb-true 0 rest e)) (λ _. omega arith)

module _ (charge : Charge) (reach : ℕ) (number : ℕ) (new : NewOrder) (M0 M1 M2 M3 : Market) (rest q : ℕ) (pending : Order) (fallen : Bool) (ev0 ev1 ev2 ev3 ev4 : List Event) (t0 t1 t2 t3 t4 : ℕ)
    (lots : q ≡ min rest pending.lots) (first : Some pending ≡ first_of (M0.rows (opposite new.side) new.instrument))
    (traded : M1 ≡ after_first_fill reach M0 new pending q) (told : Wrote ev0 ev1 t0 t1 (Traded (trade_of number new pending q) ∷ []))
    (placing : Did (judge charge M1 new.member) M2 ev1 ev2 t1 t2) (fell : fallen ≡ has_fallen charge M1 new.member)
    (own_rest : Wrote ev2 ev3 t2 t3 (cond fallen (rest_cancelled number new TurnedToReduction (rest - q)) []))
    (other : Did (judge charge M2 pending.member) M3 ev3 ev4 t3 t4) where
  start : Starts pending (M0.rows (opposite new.side) new.instrument)
  start = starts_from pending (M0.rows (opposite new.side) new.instrument) first

  -- The market after the trade, by the rule's own words.
  dealt : M1 ≡ after_fill charge reach M0 new pending start.others (min rest pending.lots)
  dealt = traded ∙ ap (λ z. with_sheet (with_rows M0 (put_row M0.rows (opposite new.side) new.instrument (first_filled q z))) (after_first_fill reach M0 new pending q).sheet) start.row_is ∙ ap (λ k. after_fill charge reach M0 new pending start.others k) lots

  second : M2 ≡ (judge charge (after_fill charge reach M0 new pending start.others (min rest pending.lots)) new.member).market
  second = placing.market_is ∙ ap (λ (N : Market). (judge charge N new.member).market) dealt

  fell_by_rule : fallen ≡ has_fallen charge (after_fill charge reach M0 new pending start.others (min rest pending.lots)) new.member
  fell_by_rule = fell ∙ ap (λ (N : Market). has_fallen charge N new.member) dealt

  all_told : Wrote ev0 ev4 t0 t4 ((Traded (trade_of number new pending q) ∷ []) ++ ((judge charge M1 new.member).events ++ (cond fallen (rest_cancelled number new TurnedToReduction (rest - q)) [] ++ (judge charge M2 pending.member).events)))
  all_told = wrote_both ev0 ev1 ev4 t0 t1 t4 _ _ told (wrote_both ev1 ev2 ev4 t1 t2 t4 _ _ placing.wrote (wrote_both ev2 ev3 ev4 t2 t3 t4 _ _ own_rest other.wrote))

  filled : Turned (fill charge reach number new (meeting_at M0 rest) pending start.others) M3 (cond fallen 0 (rest - q)) (not fallen && ltb 0 (rest - q)) ev0 ev4 t0 t4
  filled =
      record {
        market_is = other.market_is ∙ ap (λ (N : Market). (judge charge N pending.member).market) second;
        rest_is = λ k. cond (fell_by_rule k) 0 (rest - lots k);
        meets_is = λ k. not (fell_by_rule k) && ltb 0 (rest - lots k);
        wrote = subst (Wrote ev0 ev4 t0 t4) (λ k. Traded (trade_of number new pending (lots k)) ∷ ((judge charge (dealt k) new.member).events ++ (cond (fell_by_rule k) (rest_cancelled number new TurnedToReduction (rest - lots k)) [] ++ (judge charge (second k) pending.member).events))) all_told;
      }

  pub filled_first : Turned (fill_first charge reach number new (meeting_at M0 rest) (M0.rows (opposite new.side) new.instrument)) M3 (cond fallen 0 (rest - q)) (not fallen && ltb 0 (rest - q)) ev0 ev4 t0 t4
  filled_first = subst (λ row. Turned (fill_first charge reach number new (meeting_at M0 rest) row) M3 (cond fallen 0 (rest - q)) (not fallen && ltb 0 (rest - q)) ev0 ev4 t0 t4) (sym start.row_is) filled

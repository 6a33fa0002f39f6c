use Rattle.std.proofs.Common.{ℕ, cond, sym, refl, ap, ◌∙◌, arith}
use Rattle.std.proofs.lemmas.Bool.{cond-true, cond-false}
use Rattle.terms.specs.Tables.{sum_below}
use Rattle.terms.proofs.Tables.{sum_more}
use Rattle.market.specs.Limits.{is_over_five_years}
use Rattle.market.specs.Markets.{pending_in}
use Rattle.market.specs.TableRows.{instrument_row}
use Rattle.venue.specs.Reads.{market_of}
use Rattle.venue.proofs.Tables.{row_below}
use Rattle.venue.proofs.state.Venue.pending_long.Goals as goal
use Rattle.venue.proofs.state.Venue.pending_long.Goals.{then-is_long_row, else-is_long_row}

pub loop-i-init : goal.loop-i-init
unfolding sum_below
loop-i-init g c = (refl, omega arith)

pub loop-i-preserved : goal.loop-i-preserved
loop-i-preserved g c =
    let M = market_of g.K.Keeper.sheet c.args.self.now in
    let table : ℕ → ℕ = λ i. cond (is_over_five_years (M.instruments i).group) (pending_in M.rows c.args.member i) 0 in
    let more = sum_more c.loop-i.i table in
    let group = ap (λ row. is_over_five_years (instrument_row row).group) (row_below 16 c.args.self.now.instruments.rows c.loop-i.i (omega arith)) in
    elim c.if-is_long_row.branch [
      | then-is_long_row w ↦ let here = cond-true (is_over_five_years (M.instruments c.loop-i.i).group) (pending_in M.rows c.args.member c.loop-i.i) 0 (group ∙ sym c.is_long_row.ensures ∙ w.if-is_long_row.true) in (omega (arith, w.sum-is, w.pending-sum.ensures.value, c.loop-i.invariant.0), omega (arith, w.sum-is, w.pending-sum.ensures.few, c.loop-i.invariant.1))
      | else-is_long_row w ↦ let here = cond-false (is_over_five_years (M.instruments c.loop-i.i).group) (pending_in M.rows c.args.member c.loop-i.i) 0 (group ∙ sym c.is_long_row.ensures ∙ w.if-is_long_row.false) in (omega (arith, w.sum-is, c.loop-i.invariant.0), omega (arith, w.sum-is, c.loop-i.invariant.1))
    ]

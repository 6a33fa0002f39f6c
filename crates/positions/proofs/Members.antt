-- The lots of all members in one instrument, as one member's are written.
use Rattle.std.proofs.Common.{◌≡◌, ℕ, ◌+◌, ◌<◌, ◌≤◌, cond, List, length, get_or, set, replicate, sym, ap, ◌∙◌, subst, arith}
use mathlib.Core.Path.{fun_ext}
use Rattle.terms.specs.declared.Side.{Side}
use Rattle.terms.specs.declared.Side.TheVariants.{Bid, Offer}
use Rattle.std.proofs.lemmas.Bool.{cond_both}
use Rattle.terms.specs.Sides.{same_side}
use Rattle.terms.specs.Tables.{put}
use Rattle.terms.proofs.Tables.{put_cases, column_at, column_set, column_replicate}
use Rattle.margin.specs.Sheets.{Totals, no_lots, raised}
use Rattle.margin.specs.Laws.{Within}
use Rattle.margin.proofs.Raises.{raised_here, raised_there}
use Rattle.positions.specs.declared.totals.MemberLots.{MemberLots}
use Rattle.positions.specs.Totals.{total_on, totals_of}

pub blank_totals : (lots : MemberLots) → lots.bought ≡ 0 → lots.sold ≡ 0 → totals_of (replicate 32 lots) ≡ no_lots
blank_totals lots bought sold = fun_ext (λ s. column_replicate 32 32 lots (λ x. total_on x s) (none s))
  where
    none : (s : Side) → total_on lots s ≡ 0
    none Bid = bought
    none Offer = sold

-- One member's two totals written.
pub totals_put : (members : List MemberLots) (m : ℕ) (lots : MemberLots) → m < 32 → m < length members → totals_of (set members m lots) ≡ (λ u. put (totals_of members u) m (total_on lots u))
totals_put members m lots l h = fun_ext (λ u. column_set 32 members (λ x. total_on x u) m lots l h)

-- A bound of every total and of the two that are written is one of every total after it.
pub put_within : (t : Totals) (m bound : ℕ) (lots : MemberLots) → Within bound t → ((u : Side) → total_on lots u ≤ bound) → Within bound (λ u. put (t u) m (total_on lots u))
put_within t m bound lots within new u j = put_cases (t u) m (total_on lots u) j (λ z. z ≤ bound) (λ _. new u) (λ _. within u j)

-- Written as raised, the totals are the raised ones.
pub put_raised : (t : Totals) (s : Side) (m q : ℕ) (lots : MemberLots) → ((u : Side) → total_on lots u ≡ raised t s m q u m) → (λ u. put (t u) m (total_on lots u)) ≡ raised t s m q
put_raised t s m q lots is = fun_ext (λ u. ap (put (t u) m) (is u) ∙ fun_ext (λ j. put_cases (t u) m (raised t s m q u m) j (λ z. z ≡ raised t s m q u j) (λ e. ap (raised t s m q u) e) (λ ne. sym (raised_there t s m q u j ne))))

-- One of a member's two totals written.
module _ (members : List MemberLots) (s : Side) (m total : ℕ) (d lots : MemberLots) (l : m < 32) (h : m < length members) (is : (u : Side) → total_on lots u ≡ cond (same_side s u) total (total_on (get_or members m d) u)) where
  written : (u : Side) → total_on lots u ≡ cond (same_side s u) total (totals_of members u m)
  written u = is u ∙ ap (cond (same_side s u) total) (sym (column_at 32 members (λ x. total_on x u) m d l h))

  pub total_within : (bound : ℕ) → Within bound (totals_of members) → total ≤ bound → Within bound (totals_of (set members m lots))
  total_within bound within few =
      subst (Within bound) (sym (totals_put members m lots l h))
      (put_within (totals_of members) m bound lots within (λ u. subst (λ z. z ≤ bound) (sym (written u)) (cond_both (same_side s u) total (totals_of members u m) (λ z. z ≤ bound) (λ _. few) (λ _. within u m))))

  pub total_raised : (q : ℕ) → total ≡ raised (totals_of members) s m q s m → totals_of (set members m lots) ≡ raised (totals_of members) s m q
  total_raised q more = totals_put members m lots l h ∙ put_raised (totals_of members) s m q lots (λ u. written u ∙ own s u more ∙ sym (raised_here (totals_of members) s m q u))
    where
      own : (a u : Side) → total ≡ raised (totals_of members) a m q a m → cond (same_side a u) total (totals_of members u m) ≡ totals_of members u m + cond (same_side a u) q 0
      own Bid Bid e = e ∙ raised_here (totals_of members) Bid m q Bid
      own Bid Offer e = omega arith
      own Offer Bid e = omega arith
      own Offer Offer e = e ∙ raised_here (totals_of members) Offer m q Offer

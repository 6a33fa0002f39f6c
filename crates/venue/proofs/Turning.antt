-- Turns one after another.
use Rattle.std.proofs.Common.{◌≡◌, ℕ, zero, suc, min, Bool, true, false, cond, eqb, List, [], ◌∷◌, ◌++◌, take, drop, sym, refl, ap, ◌∙◌, subst, arith}
use Rattle.std.proofs.lemmas.List.{append-nil, append_assoc, take_at, length-take-le, length-append}
use Rattle.std.proofs.lemmas.Bool.{cond-false}
use Rattle.terms.specs.declared.Order.{Order}
use Rattle.margin.specs.Sheets.{Charge}
use Rattle.market.specs.declared.events.Event.{Event}
use Rattle.market.specs.declared.orders.NewOrder.{NewOrder}
use Rattle.market.specs.Lists.{Wrote}
use Rattle.market.specs.Markets.{Market}
use Rattle.market.specs.Meeting.{Meeting, apart, opposite, is_hindered, ends, ends_cancelled, fill, meeting_first, turn, repeated}
use Rattle.market.proofs.Lists.{wrote_both}
use Rattle.venue.specs.Turns.{meeting_at, Turned}

-- The same meeting with events told before it.
abbrev pub after_events : List Event → Meeting → Meeting
after_events es s = record { market = s.market; rest = s.rest; meets = s.meets; events = es ++ s.events }

abbrev pub going : Market → ℕ → List Event → Meeting
going M rest es = record { market = M; rest = rest; meets = true; events = es }

-- What was told before does not matter to a turn.
turn_appends : (charge : Charge) (reach number : ℕ) (new : NewOrder) (M : Market) (rest : ℕ) (es : List Event) (row : List Order) → meeting_first charge reach number new (going M rest es) row ≡ after_events es (meeting_first charge reach number new (meeting_at M rest) row)
turn_appends charge reach number new M rest es [] = ap (λ z. record { market = M; rest = rest; meets = false; events = z }) (sym (append-nil es))
turn_appends charge reach number new M rest es (o ∷ os) = go (apart new.side new.rate o.rate) (eqb new.member o.member) (is_hindered charge reach M new (min rest o.lots))
  where
    go : (a b c : Bool) → cond a (ends (going M rest es)) (cond b (ends_cancelled number new Rattle.market.specs.declared.events.Reason.TheVariants.OwnOrder (going M rest es)) (cond c (ends_cancelled number new Rattle.market.specs.declared.events.Reason.TheVariants.NeedNotLowered (going M rest es)) (fill charge reach number new (going M rest es) o os))) ≡ after_events es (cond a (ends (meeting_at M rest)) (cond b (ends_cancelled number new Rattle.market.specs.declared.events.Reason.TheVariants.OwnOrder (meeting_at M rest)) (cond c (ends_cancelled number new Rattle.market.specs.declared.events.Reason.TheVariants.NeedNotLowered (meeting_at M rest)) (fill charge reach number new (meeting_at M rest) o os))))
    go true b c = ap (λ z. record { market = M; rest = rest; meets = false; events = z }) (sym (append-nil es))
    go false true c = refl
    go false false true = refl
    go false false false = refl

-- What stands at the front of the list are all events so far.
pub front_more : (old mid new : List Event) (from to : ℕ) (items : List Event) → Wrote old mid 0 from (take from mid) → Wrote mid new from to items → take to new ≡ take from mid ++ items
front_more old mid new from to items v w =
    ap (take to) (w.places ∙ sym (append_assoc (take from mid) items (drop to mid)))
    ∙ take_at (take from mid ++ items) (drop to mid) to (let a = length-append (take from mid) items in let b = length-take-le from mid (omega (arith, w.fits, w.count)) in omega (arith, w.count))

module _ (charge : Charge) (reach number : ℕ) (new : NewOrder) where
  -- An order that no longer meets stays as it is.
  over : (k : ℕ) (s : Meeting) → s.meets ≡ false → repeated k (turn charge reach number new) s ≡ s
  unfolding repeated
  over zero s e = refl
  over (suc k) s e = ap (repeated k (turn charge reach number new)) (cond-false s.meets _ s e) ∙ over k s e

  one_more : (k : ℕ) (s : Meeting) → repeated (suc k) (turn charge reach number new) s ≡ repeated k (turn charge reach number new) (turn charge reach number new s)
  unfolding repeated
  one_more k s = refl

  -- A turn that was done, seen from the start.
  module _ (whole : Meeting) (k : ℕ) (M N : Market) (rest left : ℕ) (meets : Bool) (old mid after : List Event) (from to : ℕ)
      (before : whole ≡ repeated (suc k) (turn charge reach number new) (going M rest (take from mid))) (wrote : Wrote old mid 0 from (take from mid))
      (turned : Turned (turn charge reach number new (meeting_at M rest)) N left meets mid after from to) where
    state : turn charge reach number new (going M rest (take from mid)) ≡ record { market = N; rest = left; meets = meets; events = take to after }
    state =
        turn_appends charge reach number new M rest (take from mid) (M.rows (opposite new.side) new.instrument)
        ∙ (let all = sym (front_more old mid after from to (turn charge reach number new (meeting_at M rest)).events wrote turned.wrote) in let m = sym turned.market_is in let r = sym turned.rest_is in let g = sym turned.meets_is in λ i. record { market = m i; rest = r i; meets = g i; events = all i })

    pub turned_on : whole ≡ repeated k (turn charge reach number new) (record { market = N; rest = left; meets = meets; events = take to after })
    turned_on = before ∙ one_more k (going M rest (take from mid)) ∙ ap (repeated k (turn charge reach number new)) state

    pub all_wrote : Wrote old after 0 to (take to after)
    all_wrote = subst (Wrote old after 0 to) (sym (front_more old mid after from to (turn charge reach number new (meeting_at M rest)).events wrote turned.wrote)) (wrote_both old mid after 0 from to (take from mid) (turn charge reach number new (meeting_at M rest)).events wrote turned.wrote)

    pub turned_over : meets ≡ false → Turned whole N left meets old after 0 to
    turned_over e = subst (λ (t : Meeting). Turned t N left meets old after 0 to) (sym (turned_on ∙ over k (record { market = N; rest = left; meets = meets; events = take to after }) e)) (record { market_is = refl; rest_is = refl; meets_is = refl; wrote = all_wrote })

  pub none_left : (whole : Meeting) (M : Market) (rest : ℕ) (old mid : List Event) (from : ℕ) → whole ≡ repeated 0 (turn charge reach number new) (going M rest (take from mid)) → Wrote old mid 0 from (take from mid) → Turned whole M rest true old mid 0 from
  unfolding repeated
  none_left whole M rest old mid from before wrote = subst (λ (t : Meeting). Turned t M rest true old mid 0 from) (sym before) (record { market_is = refl; rest_is = refl; meets_is = refl; wrote = wrote })

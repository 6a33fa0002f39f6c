-- Events that are told, and the room that they need.
use Rattle.std.proofs.Common.{◌≡◌, ℕ, ◌+◌, ◌≤◌, Bool, true, false, cond, ◌&&◌, leb, List, [], ◌∷◌, ◌++◌, map, length, take, drop, Some, None, filter, Option, sym, refl, ap, ◌∙◌, arith}
use mathlib.Core.Path.{fun_ext}
use lib.ListN.{length-map}
use Rattle.std.proofs.lemmas.Bool.{cond-true, le-leb}
use Rattle.terms.specs.declared.Order.{Order}
use Rattle.market.specs.declared.events.Event.{Event}
use Rattle.market.specs.declared.events.Reason.{Reason}
use Rattle.market.specs.Lists.{Wrote}
use Rattle.market.specs.Markets.{Rows, Market, Told, with_rows, pending_orders}
use Rattle.market.specs.Cancels.{cancelled, by_number, rows_without, picked_orders, cancelling}
use Rattle.market.proofs.Weights.{pending_without}

some_is : (a b : ℕ) → ◌≡◌ {A = Option ℕ} (Some a) (Some b) → a ≡ b
some_is a b e = cc

-- The orders that were picked are told, since there is room for all pending ones.
module _ (picked : Order → Bool) (rows : Rows) (orders : List Order) (reason : Reason) (old new : List Event) (told : ℕ) (are : orders ≡ picked_orders picked rows) (room : told + length (pending_orders rows) ≤ length old)
    (places : new ≡ cond (leb (told + length orders) (length old)) (take told old ++ (map (cancelled reason) orders ++ drop (told + length orders) old)) old) where
  enough : leb (told + length orders) (length old) ≡ true
  enough = le-leb (told + length orders) (length old) (let n = ap length are in omega (arith, pending_without picked rows))

  module _ (answer : Option ℕ) (is : answer ≡ cond (leb (told + length orders) (length old)) (Some (told + length orders)) None) where
    answer_is : answer ≡ Some (told + length orders)
    answer_is = is ∙ cond-true (leb (told + length orders) (length old)) (Some (told + length orders)) None enough

    pub never_none : {A : Type 0} → answer ≡ None → A
    never_none e = absurd (let z : ◌≡◌ {A = ℕ} 0 1 = cc (answer_is) in omega arith)

    pub all_told : (after : ℕ) → answer ≡ Some after → Wrote old new told after (map (cancelled reason) (picked_orders picked rows))
    all_told after e =
        let here = some_is after (told + length orders) (sym e ∙ answer_is) in
        let same = ap length are in
        let long = length-map (picked_orders picked rows) (cancelled reason) in
        record {
          count = omega arith;
          fits = omega (arith, pending_without picked rows);
          places = places ∙ cond-true (leb (told + length orders) (length old)) _ old enough ∙ (λ k. take told old ++ (map (cancelled reason) (are k) ++ drop (sym here k) old));
        }

    pub told_few : (after : ℕ) → answer ≡ Some after → after + length (pending_orders (rows_without picked rows)) ≡ told + length (pending_orders rows)
    told_few after e = let here = some_is after (told + length orders) (sym e ∙ answer_is) in let same = ap length are in omega (arith, pending_without picked rows)

-- ---- a test that picks nothing

all_kept : (xs : List Order) → filter (λ _. true) xs ≡ xs
all_kept [] = refl
all_kept (x ∷ xs) = ap (λ ys. x ∷ ys) (all_kept xs)

none_kept : (xs : List Order) → filter (λ _. false) xs ≡ []
none_kept [] = refl
none_kept (x ∷ xs) = none_kept xs

-- Where nobody fell, nothing is cancelled.
pub nothing_cancelled : (fallen : Bool) (own : Order → Bool) (reason : Reason) (M : Market) → fallen ≡ false → ◌≡◌ {A = Told} (cancelling (λ o. fallen && own o) reason M) (record { market = M; events = [] })
unfolding by_number
nothing_cancelled fell own reason M e =
    (λ k. cancelling (λ o. e k && own o) reason M)
    ∙ (let rows = fun_ext (λ s. fun_ext (λ i. all_kept (M.rows s i))) in let picked = none_kept (pending_orders M.rows) in λ k. record { market = with_rows M (rows k); events = map (cancelled reason) (by_number (picked k)) })

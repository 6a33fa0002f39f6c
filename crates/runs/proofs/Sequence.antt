-- Rows in sequence, and rows that do not cross: kept by inserts, cancels and fills.
use Rattle.std.proofs.Common.{◌≡◌, ℕ, ◌-◌, ◌<◌, Bool, true, false, ltb, List, [], ◌∷◌, ℤ, ◌<ℤ◌, filter, refl, inl, inr, arith}
use borrow.Author.Differences.{ints}
use lib.Signed.{lt_z}
use Rattle.std.specs.List.{AllByRecursion}
use Rattle.std.proofs.ByRecursion.{all_kept_by, All-weaker}
use Rattle.std.proofs.lemmas.Bool.{cond_both}
use Rattle.std.proofs.lemmas.Bool.Decides.{nat_tests}
use Rattle.terms.specs.declared.Order.{Order}
use Rattle.terms.specs.declared.Side.{Side}
use Rattle.terms.specs.declared.Side.TheVariants.{Bid, Offer}
use Rattle.row.specs.Rates.{Precedes, precedes}
use Rattle.row.specs.Rows.{inserted}
use Rattle.market.specs.Meeting.{apart, opposite, row_filled}
use Rattle.runs.specs.Promises.{InSequence, Uncrossed}

-- ---- precedence

precedes_carries : (side : Side) (a b c : Order) → precedes side a b ≡ true → precedes side b c ≡ true → precedes side a c ≡ true
precedes_carries Bid a b c h k = grind (arith, ints, nat_tests)
precedes_carries Offer a b c h k = grind (arith, ints, nat_tests)

-- A later order that does not precede another is preceded by it.
precedes_else : (side : Side) (a b : Order) → precedes side a b ≡ false → b.number < a.number → precedes side b a ≡ true
precedes_else Bid a b h k = grind (arith, ints, nat_tests)
precedes_else Offer a b h k = grind (arith, ints, nat_tests)

-- Behind an order that a placed one does not meet stands none that it meets.
apart_behind : (side : Side) (rate : ℤ) (a b : Order) → precedes (opposite side) a b ≡ true → apart side rate a.rate ≡ true → apart side rate b.rate ≡ true
apart_behind Bid rate a b h k = grind (arith, ints, nat_tests)
apart_behind Offer rate a b h k = grind (arith, ints, nat_tests)

precedes_says : (side : Side) (a b : Order) → precedes side a b ≡ true → Precedes side a b
precedes_says Bid a b h = go (lt_z b.rate a.rate) (lt_z a.rate b.rate) refl refl
  where
    go : (x y : Bool) → lt_z b.rate a.rate ≡ x → lt_z a.rate b.rate ≡ y → Precedes Bid a b
    go true y d e = inl (omega (arith, ints))
    go false true d e = absurd (grind (arith, ints, nat_tests))
    go false false d e = inr (omega (arith, ints), grind (arith, ints, nat_tests))
precedes_says Offer a b h = go (lt_z a.rate b.rate) (lt_z b.rate a.rate) refl refl
  where
    go : (x y : Bool) → lt_z a.rate b.rate ≡ x → lt_z b.rate a.rate ≡ y → Precedes Offer a b
    go true y d e = inl (omega (arith, ints))
    go false true d e = absurd (grind (arith, ints, nat_tests))
    go false false d e = inr (omega (arith, ints), grind (arith, ints, nat_tests))

-- ---- sequence, by the test

abbrev pub Sequenced : Side → List Order → Type 0
Sequenced side [] = Unit {0}
Sequenced side (order ∷ orders) = AllByRecursion (λ x. precedes side order x ≡ true) orders × Sequenced side orders

pub in_sequence : (side : Side) (xs : List Order) → Sequenced side xs → InSequence side xs
in_sequence side [] h = tt
in_sequence side (x ∷ xs) h = (All-weaker (λ y. precedes side x y ≡ true) (Precedes side x) (λ y e. precedes_says side x y e) xs h.0, in_sequence side xs h.1)

pub all_inserted : {A : Type 0} (P : A → Type 0) (before : A → A → Bool) (x : A) (xs : List A) → P x → AllByRecursion P xs → AllByRecursion P (inserted before x xs)
all_inserted P before x [] p h = (p, tt)
all_inserted P before x (y ∷ ys) p h = cond_both (before x y) (x ∷ (y ∷ ys)) (y ∷ inserted before x ys) (AllByRecursion P) (λ _. (p, h)) (λ _. (h.0, all_inserted P before x ys p h.1))

pub sequenced_inserted : (side : Side) (x : Order) (xs : List Order) → AllByRecursion (λ y. y.number < x.number) xs → Sequenced side xs → Sequenced side (inserted (precedes side) x xs)
sequenced_inserted side x [] later h = (tt, tt)
sequenced_inserted side x (y ∷ ys) later h =
    cond_both (precedes side x y) (x ∷ (y ∷ ys)) (y ∷ inserted (precedes side) x ys) (Sequenced side)
    (λ e. ((e, All-weaker (λ z. precedes side y z ≡ true) (λ z. precedes side x z ≡ true) (λ z k. precedes_carries side x y z e k) ys h.0), h))
    (λ e. (all_inserted (λ z. precedes side y z ≡ true) (precedes side) x ys (precedes_else side x y e later.0) h.0, sequenced_inserted side x ys later.1 h.1))

pub sequenced_kept : (side : Side) (p : Order → Bool) (xs : List Order) → Sequenced side xs → Sequenced side (filter p xs)
sequenced_kept side p [] h = tt
sequenced_kept side p (x ∷ xs) h = cond_both (p x) (x ∷ filter p xs) (filter p xs) (Sequenced side) (λ _. (all_kept_by p (λ z. precedes side x z ≡ true) xs h.0, sequenced_kept side p xs h.1)) (λ _. sequenced_kept side p xs h.1)

-- A fill leaves the first order with fewer lots, or takes it out.
pub all_filled : (P : Order → Type 0) (first : Order) (lots : ℕ) (others : List Order) → (lots < first.lots → P (record { rate = first.rate; number = first.number; member = first.member; lots = first.lots - lots })) → AllByRecursion P others → AllByRecursion P (row_filled first lots others)
all_filled P first lots others p h = cond_both (ltb lots first.lots) _ others (AllByRecursion P) (λ e. (p (Rattle.std.proofs.lemmas.Bool.ltb-true lots first.lots e), h)) (λ _. h)

pub sequenced_filled : (side : Side) (first : Order) (lots : ℕ) (others : List Order) → Sequenced side (first ∷ others) → Sequenced side (row_filled first lots others)
sequenced_filled side first lots others h = cond_both (ltb lots first.lots) _ others (Sequenced side) (λ _. h) (λ _. h.1)

pub apart_from_all : (side : Side) (rate : ℤ) (first : Order) (others : List Order) → Sequenced (opposite side) (first ∷ others) → apart side rate first.rate ≡ true → AllByRecursion (λ x. apart side rate x.rate ≡ true) (first ∷ others)
apart_from_all side rate first others h e = (e, All-weaker (λ x. precedes (opposite side) first x ≡ true) (λ x. apart side rate x.rate ≡ true) (λ x k. apart_behind side rate first x k e) others h.0)

-- ---- two rows that do not cross

abbrev Below : List Order → Order → Type 0
Below offers bid = AllByRecursion (λ offer. bid.rate <ℤ offer.rate) offers

pub uncrossed_kept : (p q : Order → Bool) (bids offers : List Order) → Uncrossed bids offers → Uncrossed (filter p bids) (filter q offers)
uncrossed_kept p q bids offers h = all_kept_by p (Below (filter q offers)) bids (All-weaker (Below offers) (Below (filter q offers)) (λ bid k. all_kept_by q (λ offer. bid.rate <ℤ offer.rate) offers k) bids h)

pub uncrossed_new_bid : (x : Order) (bids offers : List Order) → Uncrossed bids offers → AllByRecursion (λ offer. apart Bid x.rate offer.rate ≡ true) offers → Uncrossed (inserted (precedes Bid) x bids) offers
uncrossed_new_bid x bids offers h k = all_inserted (Below offers) (precedes Bid) x bids (All-weaker (λ offer. apart Bid x.rate offer.rate ≡ true) (λ offer. x.rate <ℤ offer.rate) (λ offer e. omega (arith, ints)) offers k) h

pub uncrossed_new_offer : (x : Order) (bids offers : List Order) → Uncrossed bids offers → AllByRecursion (λ bid. apart Offer x.rate bid.rate ≡ true) bids → Uncrossed bids (inserted (precedes Offer) x offers)
uncrossed_new_offer x [] offers h k = tt
uncrossed_new_offer x (bid ∷ bids) offers h k = (all_inserted (λ offer. bid.rate <ℤ offer.rate) (precedes Offer) x offers (let e : lt_z bid.rate x.rate ≡ true = k.0 in omega (arith, ints)) h.0, uncrossed_new_offer x bids offers h.1 k.1)

pub uncrossed_filled_bid : (first : Order) (lots : ℕ) (bids offers : List Order) → Uncrossed (first ∷ bids) offers → Uncrossed (row_filled first lots bids) offers
uncrossed_filled_bid first lots bids offers h = all_filled (Below offers) first lots bids (λ _. h.0) h.1

pub uncrossed_filled_offer : (first : Order) (lots : ℕ) (bids offers : List Order) → Uncrossed bids (first ∷ offers) → Uncrossed bids (row_filled first lots offers)
uncrossed_filled_offer first lots bids offers h = All-weaker (Below (first ∷ offers)) (Below (row_filled first lots offers)) (λ bid k. all_filled (λ x. bid.rate <ℤ x.rate) first lots offers (λ _. k.0) k.1) bids h

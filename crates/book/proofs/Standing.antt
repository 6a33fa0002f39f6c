-- A book stays in order: kept by inserts, removals, filters, and fills in place.
use Rattle.std.proofs.Common.{◌≡◌, ℕ, zero, suc, ◌+◌, ◌<◌, Bool, true, false, cond, not, ◌&&◌, ltb, List, [], ◌∷◌, ◌++◌, get_or, take, drop, set, filter, sym, refl, ap, subst, add-one, arith}
use borrow.Author.Differences.{ints}
use Rattle.std.specs.List.{AllByRecursion}
use Rattle.std.proofs.ByRecursion.{all_kept_by, All-weaker, All-append, All-take, All-drop}
use Rattle.std.proofs.lemmas.Bool.{cond_both, and_parts, and_from, not-true, not_from_false, lt-ltb, ltb-true}
use Rattle.std.proofs.lemmas.Bool.Decides.{nat_tests}
use Rattle.terms.specs.declared.Side.{Side}
use Rattle.terms.specs.declared.Side.TheVariants.{Bid, Offer}
use Rattle.row.specs.Rows.{inserted, without}
use Rattle.book.specs.declared.entry.Entry.{Entry}
use Rattle.book.specs.Entries.{precedes, precedes_by_side}
use Rattle.book.specs.Reads.{entry_with_lots}
use Rattle.book.specs.Standing.{is_unpreceded, stands}

-- The same, as a relation.
abbrev pub Ordered : List Entry → Type 0
Ordered [] = Unit {0}
Ordered (x ∷ xs) = AllByRecursion (λ y. precedes y x ≡ false) xs × Ordered xs

pub record Stands (xs : List Entry) : Type 0 where
  pub ordered : Ordered xs
  pub in_range : AllByRecursion (λ (x : Entry). x.instrument < 16) xs

unpreceded_says : (x : Entry) (xs : List Entry) → is_unpreceded x xs ≡ true → AllByRecursion (λ y. precedes y x ≡ false) xs
unpreceded_says x [] h = tt
unpreceded_says x (y ∷ ys) h = let p = and_parts (not (precedes y x)) (is_unpreceded x ys) h in (not-true (precedes y x) p.0, unpreceded_says x ys p.1)

unpreceded_from : (x : Entry) (xs : List Entry) → AllByRecursion (λ y. precedes y x ≡ false) xs → is_unpreceded x xs ≡ true
unpreceded_from x [] h = refl
unpreceded_from x (y ∷ ys) h = and_from (not (precedes y x)) (is_unpreceded x ys) (not_from_false (precedes y x) h.0) (unpreceded_from x ys h.1)

pub stands_says : (xs : List Entry) → stands xs ≡ true → Stands xs
stands_says [] h = record { ordered = tt; in_range = tt }
stands_says (x ∷ xs) h =
    let p = and_parts (ltb x.instrument 16) (is_unpreceded x xs && stands xs) h in
    let q = and_parts (is_unpreceded x xs) (stands xs) p.1 in
    let others = stands_says xs q.1 in
    record { ordered = (unpreceded_says x xs q.0, others.ordered); in_range = (ltb-true x.instrument 16 p.0, others.in_range) }

pub stands_from : (xs : List Entry) → Stands xs → stands xs ≡ true
stands_from [] h = refl
stands_from (x ∷ xs) h = and_from (ltb x.instrument 16) (is_unpreceded x xs && stands xs) (lt-ltb x.instrument 16 h.in_range.0) (and_from (is_unpreceded x xs) (stands xs) (unpreceded_from x xs h.ordered.0) (stands_from xs (record { ordered = h.ordered.1; in_range = h.in_range.1 })))

-- ---- inserts

one_way : (x y : Entry) → precedes x y ≡ true → precedes y x ≡ false
one_way x y h = go x.side y.side h
  where
    go : (s t : Side) → cond (ltb x.instrument y.instrument) true (cond (ltb y.instrument x.instrument) false (precedes_by_side s t x.order y.order)) ≡ true → cond (ltb y.instrument x.instrument) true (cond (ltb x.instrument y.instrument) false (precedes_by_side t s y.order x.order)) ≡ false
    go Bid Bid e = grind (arith, ints, nat_tests)
    go Bid Offer e = grind (arith, ints, nat_tests)
    go Offer Bid e = grind (arith, ints, nat_tests)
    go Offer Offer e = grind (arith, ints, nat_tests)

-- What does not precede x does not precede what precedes x.
not_before : (e x y : Entry) → precedes e x ≡ true → precedes y x ≡ false → precedes y e ≡ false
not_before e x y h k = go e.side x.side y.side h k
  where
    go : (s t u : Side) → cond (ltb e.instrument x.instrument) true (cond (ltb x.instrument e.instrument) false (precedes_by_side s t e.order x.order)) ≡ true → cond (ltb y.instrument x.instrument) true (cond (ltb x.instrument y.instrument) false (precedes_by_side u t y.order x.order)) ≡ false → cond (ltb y.instrument e.instrument) true (cond (ltb e.instrument y.instrument) false (precedes_by_side u s y.order e.order)) ≡ false
    go Bid Bid Bid d e = grind (arith, ints, nat_tests)
    go Bid Bid Offer d e = grind (arith, ints, nat_tests)
    go Bid Offer Bid d e = grind (arith, ints, nat_tests)
    go Bid Offer Offer d e = grind (arith, ints, nat_tests)
    go Offer Bid Bid d e = grind (arith, ints, nat_tests)
    go Offer Bid Offer d e = grind (arith, ints, nat_tests)
    go Offer Offer Bid d e = grind (arith, ints, nat_tests)
    go Offer Offer Offer d e = grind (arith, ints, nat_tests)

all_inserted : {A : Type 0} (P : A → Type 0) (before : A → A → Bool) (x : A) (xs : List A) → P x → AllByRecursion P xs → AllByRecursion P (inserted before x xs)
all_inserted P before x [] p h = (p, tt)
all_inserted P before x (y ∷ ys) p h = cond_both (before x y) (x ∷ (y ∷ ys)) (y ∷ inserted before x ys) (AllByRecursion P) (λ _. (p, h)) (λ _. (h.0, all_inserted P before x ys p h.1))

ordered_inserted : (e : Entry) (xs : List Entry) → Ordered xs → Ordered (inserted precedes e xs)
ordered_inserted e [] h = (tt, tt)
ordered_inserted e (x ∷ xs) h =
    cond_both (precedes e x) (e ∷ (x ∷ xs)) (x ∷ inserted precedes e xs) Ordered
    (λ t. ((one_way e x t, All-weaker (λ y. precedes y x ≡ false) (λ y. precedes y e ≡ false) (λ y k. not_before e x y t k) xs h.0), h))
    (λ f. (all_inserted (λ y. precedes y x ≡ false) precedes e xs f h.0, ordered_inserted e xs h.1))

pub stands_inserted : (e : Entry) (xs : List Entry) → e.instrument < 16 → Stands xs → Stands (inserted precedes e xs)
stands_inserted e xs l h = record { ordered = ordered_inserted e xs h.ordered; in_range = all_inserted (λ (x : Entry). x.instrument < 16) precedes e xs l h.in_range }

-- ---- filters and removals

ordered_kept : (p : Entry → Bool) (xs : List Entry) → Ordered xs → Ordered (filter p xs)
ordered_kept p [] h = tt
ordered_kept p (x ∷ xs) h = cond_both (p x) (x ∷ filter p xs) (filter p xs) Ordered (λ _. (all_kept_by p (λ y. precedes y x ≡ false) xs h.0, ordered_kept p xs h.1)) (λ _. ordered_kept p xs h.1)

pub stands_kept : (p : Entry → Bool) (xs : List Entry) → Stands xs → Stands (filter p xs)
stands_kept p xs h = record { ordered = ordered_kept p xs h.ordered; in_range = all_kept_by p (λ (x : Entry). x.instrument < 16) xs h.in_range }

all_without : {A : Type 0} (P : A → Type 0) (place : ℕ) (xs : List A) → AllByRecursion P xs → AllByRecursion P (without place xs)
all_without P place xs h = All-append P (take place xs) (drop (place + 1) xs) (All-take P place xs h) (All-drop P (place + 1) xs h)

ordered_without : (place : ℕ) (xs : List Entry) → Ordered xs → Ordered (take place xs ++ drop (suc place) xs)
ordered_without place [] h = nothing place
  where
    nothing : (n : ℕ) → Ordered (take n [] ++ drop (suc n) [])
    nothing zero = tt
    nothing (suc n) = tt
ordered_without zero (x ∷ xs) h = h.1
ordered_without (suc place) (x ∷ xs) h = (subst (AllByRecursion (λ y. precedes y x ≡ false)) (ap (λ n. take place xs ++ drop n xs) (add-one place)) (all_without (λ y. precedes y x ≡ false) place xs h.0), ordered_without place xs h.1)

pub stands_without : (place : ℕ) (xs : List Entry) → Stands xs → Stands (without place xs)
stands_without place xs h = record { ordered = subst (λ n. Ordered (take place xs ++ drop n xs)) (sym (add-one place)) (ordered_without place xs h.ordered); in_range = all_without (λ (x : Entry). x.instrument < 16) place xs h.in_range }

-- ---- fills in place

-- Precedence does not look at the lots.
lots_unseen_left : (x y : Entry) (lots : ℕ) → precedes x y ≡ false → precedes (entry_with_lots x lots) y ≡ false
lots_unseen_left x y lots h = subst (λ z. cond (ltb x.instrument y.instrument) true (cond (ltb y.instrument x.instrument) false z) ≡ false) (go x.side y.side) h
  where
    go : (s t : Side) → precedes_by_side s t x.order y.order ≡ precedes_by_side s t (entry_with_lots x lots).order y.order
    go Bid Bid = refl
    go Bid Offer = refl
    go Offer Bid = refl
    go Offer Offer = refl

lots_unseen_right : (x y : Entry) (lots : ℕ) → precedes y x ≡ false → precedes y (entry_with_lots x lots) ≡ false
lots_unseen_right x y lots h = subst (λ z. cond (ltb y.instrument x.instrument) true (cond (ltb x.instrument y.instrument) false z) ≡ false) (go y.side x.side) h
  where
    go : (s t : Side) → precedes_by_side s t y.order x.order ≡ precedes_by_side s t y.order (entry_with_lots x lots).order
    go Bid Bid = refl
    go Bid Offer = refl
    go Offer Bid = refl
    go Offer Offer = refl

all_set_lots : (P : Entry → Type 0) (xs : List Entry) (place lots : ℕ) (d : Entry) → ((x : Entry) → P x → P (entry_with_lots x lots)) → AllByRecursion P xs → AllByRecursion P (set xs place (entry_with_lots (get_or xs place d) lots))
all_set_lots P [] place lots d f h = nothing place
  where
    nothing : (n : ℕ) → AllByRecursion P (set [] n (entry_with_lots (get_or [] n d) lots))
    nothing zero = tt
    nothing (suc n) = tt
all_set_lots P (x ∷ xs) zero lots d f h = (f x h.0, h.1)
all_set_lots P (x ∷ xs) (suc place) lots d f h = (h.0, all_set_lots P xs place lots d f h.1)

ordered_set_lots : (xs : List Entry) (place lots : ℕ) (d : Entry) → Ordered xs → Ordered (set xs place (entry_with_lots (get_or xs place d) lots))
ordered_set_lots [] zero lots d h = tt
ordered_set_lots [] (suc place) lots d h = tt
ordered_set_lots (x ∷ xs) zero lots d h = (All-weaker (λ y. precedes y x ≡ false) (λ y. precedes y (entry_with_lots x lots) ≡ false) (λ y k. lots_unseen_right x y lots k) xs h.0, h.1)
ordered_set_lots (x ∷ xs) (suc place) lots d h = (all_set_lots (λ y. precedes y x ≡ false) xs place lots d (λ y k. lots_unseen_left y x lots k) h.0, ordered_set_lots xs place lots d h.1)

pub stands_set_lots : (xs : List Entry) (place lots : ℕ) (d : Entry) → Stands xs → Stands (set xs place (entry_with_lots (get_or xs place d) lots))
stands_set_lots xs place lots d h = record { ordered = ordered_set_lots xs place lots d h.ordered; in_range = all_set_lots (λ (x : Entry). x.instrument < 16) xs place lots d (λ _ k. k) h.in_range }

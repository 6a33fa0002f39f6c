-- The laws of every row.
use Rattle.std.proofs.Common.{◌≡◌, ℕ, zero, suc, Bool, true, List, [], ◌∷◌, ◌++◌, take, drop, Some, refl, ap, subst, add-one, arith}
use Rattle.std.proofs.lemmas.Bool.{cond_both, both_ways}
use Rattle.row.specs.Rows.{inserted, without, entry_at}
use Rattle.row.specs.Laws.{PrecededByNone, InOrder, OneMore, RowLaws}

module _ {X : Type 0} where
  one_more_past : (x entry : X) (xs ys : List X) → OneMore entry xs ys → OneMore entry (x ∷ xs) (x ∷ ys)
  one_more_past x entry xs ys m =
      record { front = x ∷ m.front; back = m.back; fewer_is = ap (λ (z : List X). x ∷ z) m.fewer_is; more_is = ap (λ (z : List X). x ∷ z) m.more_is }

  adds_one : (test : X → X → Bool) (entry : X) (xs : List X) → OneMore entry xs (inserted test entry xs)
  adds_one test entry [] = record { front = []; back = []; fewer_is = refl; more_is = refl }
  adds_one test entry (x ∷ xs) =
      cond_both (test entry x) (entry ∷ x ∷ xs) (x ∷ inserted test entry xs) (OneMore entry (x ∷ xs))
      (λ _. record { front = []; back = x ∷ xs; fewer_is = refl; more_is = refl })
      (λ _. one_more_past x entry xs (inserted test entry xs) (adds_one test entry xs))

  takes_one_cut : (place : ℕ) (xs : List X) (entry : X) → entry_at place xs ≡ Some entry → OneMore entry (take place xs ++ drop (suc place) xs) xs
  takes_one_cut place [] entry e = let never : ◌≡◌ {A = ℕ} 0 1 = cc in absurd (omega arith)
  takes_one_cut zero (x ∷ xs) entry e = let same : x ≡ entry = cc in record { front = []; back = xs; fewer_is = refl; more_is = ap (λ (z : X). z ∷ xs) same }
  takes_one_cut (suc place) (x ∷ xs) entry e = one_more_past x entry (take place xs ++ drop (suc place) xs) xs (takes_one_cut place xs entry e)

  takes_one : (place : ℕ) (xs : List X) (entry : X) → entry_at place xs ≡ Some entry → OneMore entry (without place xs) xs
  takes_one place xs entry e = rw add-one (takes_one_cut place xs entry e)

module _ {X : Type 0} (Precedes : X → X → Type 0) where
  none_drop : (x : X) (i : ℕ) (xs : List X) → PrecededByNone Precedes x xs → PrecededByNone Precedes x (drop i xs)
  none_drop x zero xs h = h
  none_drop x (suc i) [] h = h
  none_drop x (suc i) (y ∷ ys) h = none_drop x i ys h.1

  none_cut : (x : X) (i : ℕ) (xs : List X) → PrecededByNone Precedes x xs → PrecededByNone Precedes x (take i xs ++ drop (suc i) xs)
  none_cut x zero xs h = none_drop x 1 xs h
  none_cut x (suc i) [] h = tt
  none_cut x (suc i) (y ∷ ys) h = (h.0, none_cut x i ys h.1)

  order_cut : (i : ℕ) (xs : List X) → InOrder Precedes xs → InOrder Precedes (take i xs ++ drop (suc i) xs)
  order_cut zero [] h = tt
  order_cut zero (x ∷ xs) h = h.1
  order_cut (suc i) [] h = tt
  order_cut (suc i) (x ∷ xs) h = (none_cut x i xs h.0, order_cut i xs h.1)

  order_without : (i : ℕ) (xs : List X) → InOrder Precedes xs → InOrder Precedes (without i xs)
  order_without i xs h = rw add-one (order_cut i xs h)

-- What a kind of entry shows.
module _ {X : Type 0} (Precedes : X → X → Type 0) (test : X → X → Bool)
    (says : (x y : X) → test x y ≡ true → Precedes x y) (passes : (x y : X) → Precedes x y → test x y ≡ true)
    (one_way : (x y : X) → Precedes x y → Precedes y x → ⊥)
    (carries : (x y z : X) → (Precedes x y → ⊥) → (Precedes y z → ⊥) → Precedes x z → ⊥) where
  none_inserted : (x entry : X) (xs : List X) → (Precedes entry x → ⊥) → PrecededByNone Precedes x xs → PrecededByNone Precedes x (inserted test entry xs)
  none_inserted x entry [] t h = (t, tt)
  none_inserted x entry (y ∷ ys) t h =
      cond_both (test entry y) (entry ∷ y ∷ ys) (y ∷ inserted test entry ys) (PrecededByNone Precedes x)
      (λ _. (t, h)) (λ _. (h.0, none_inserted x entry ys t h.1))

  none_carries : (entry x : X) (xs : List X) → (Precedes x entry → ⊥) → PrecededByNone Precedes x xs → PrecededByNone Precedes entry xs
  none_carries entry x [] t h = tt
  none_carries entry x (y ∷ ys) t h = (carries y x entry h.0 t, none_carries entry x ys t h.1)

  keeps_order : (entry : X) (xs : List X) → InOrder Precedes xs → InOrder Precedes (inserted test entry xs)
  keeps_order entry [] h = (tt, tt)
  keeps_order entry (x ∷ xs) h =
      cond_both (test entry x) (entry ∷ x ∷ xs) (x ∷ inserted test entry xs) (InOrder Precedes)
      (λ t. let u : Precedes x entry → ⊥ = one_way entry x (says entry x t) in ((u, none_carries entry x xs u h.0), h))
      (λ t. (none_inserted x entry xs (λ p. both_ways (test entry x) t (passes entry x p)) h.0, keeps_order entry xs h.1))

  preceded_by_none : (xs : List X) (entry : X) → InOrder Precedes xs → entry_at 0 xs ≡ Some entry → PrecededByNone Precedes entry xs
  preceded_by_none [] entry h e = tt
  preceded_by_none (x ∷ xs) entry h e = let same : x ≡ entry = cc in subst (λ z. PrecededByNone Precedes z (x ∷ xs)) same (λ p. one_way x x p p, h.0)

  pub row_laws : RowLaws Precedes test
  row_laws =
      record {
        insert_keeps_order = keeps_order;
        insert_adds_one = adds_one test;
        remove_keeps_order = order_without Precedes;
        remove_takes_one = takes_one;
        first_preceded_by_none = preceded_by_none;
      }

-- An orderly book: rows in sequence and uncrossed, and each order one that may stand. Kept by cancels, judging, fills and stored orders.
use Rattle.std.proofs.Common.{◌≡◌, ℕ, suc, ◌<◌, ◌≤◌, Bool, true, not, ◌&&◌, List, [], ◌∷◌, filter, sym, refl, ap, ◌∙◌, subst, arith}
use Rattle.std.specs.List.{AllByRecursion}
use Rattle.std.proofs.ByRecursion.{All-weaker}
use Rattle.std.proofs.lemmas.Bool.{cond_both, eq-eqb}
use Rattle.terms.specs.declared.Order.{Order}
use Rattle.terms.specs.declared.Side.{Side}
use Rattle.terms.specs.declared.Side.TheVariants.{Bid, Offer}
use Rattle.terms.specs.Tables.{put}
use Rattle.terms.proofs.Tables.{put_cases}
use Rattle.row.specs.Rates.{precedes}
use Rattle.row.specs.Rows.{inserted}
use Rattle.market.specs.declared.members.Mode.{Mode}
use Rattle.market.specs.declared.members.Mode.TheVariants.{Reduction, Normal}
use Rattle.market.specs.Markets.{Rows, put_row, is_of}
use Rattle.market.specs.Limits.{highest_limit}
use Rattle.market.specs.Cancels.{rows_without}
use Rattle.market.specs.Modes.{falls, with_mode}
use Rattle.market.specs.Meeting.{apart, opposite, row_filled}
use Rattle.market.specs.TableRows.{Member}
use Rattle.runs.specs.Promises.{Uncrossed}
use Rattle.runs.proofs.Sequence.{Sequenced, all_inserted, sequenced_inserted, sequenced_kept, all_filled, sequenced_filled, uncrossed_kept, uncrossed_new_bid, uncrossed_new_offer, uncrossed_filled_bid, uncrossed_filled_offer}

abbrev pub Members : Type 0
Members = ℕ → Member

-- An order that may stand while so many numbers are given out.
pub record Stands (given : ℕ) (members : Members) (order : Order) : Type 0 where
  pub in_table : order.member < 32
  pub active : (members order.member).mode ≡ Normal
  pub some : 0 < order.lots
  pub small : order.lots ≤ highest_limit (members order.member).limits
  pub numbered : order.number ≤ given

pub record Orderly (given : ℕ) (members : Members) (rows : Rows) : Type 0 where
  pub uncrossed : (i : ℕ) → Uncrossed (rows Bid i) (rows Offer i)
  pub sequenced : (side : Side) (i : ℕ) → Sequenced side (rows side i)
  pub standing : (side : Side) (i : ℕ) → AllByRecursion (Stands given members) (rows side i)

-- A fact of every row, after one row is changed.
pub each_row : (P : Side → ℕ → List Order → Type 0) (rows : Rows) (side : Side) (i : ℕ) (row : List Order) → ((s : Side) (j : ℕ) → P s j (rows s j)) → P side i row → (s : Side) (j : ℕ) → P s j (put_row rows side i row s j)
each_row P rows Bid i row h k Bid j = put_cases (rows Bid) i row j (P Bid j) (λ e. subst (λ z. P Bid z row) e k) (λ _. h Bid j)
each_row P rows Bid i row h k Offer j = h Offer j
each_row P rows Offer i row h k Bid j = h Bid j
each_row P rows Offer i row h k Offer j = put_cases (rows Offer) i row j (P Offer j) (λ e. subst (λ z. P Offer z row) e k) (λ _. h Offer j)

-- ---- cancels and changes of the table of members

all_kept : {A : Type 0} (p : A → Bool) (P Q : A → Type 0) → ((x : A) → p x ≡ true → P x → Q x) → (xs : List A) → AllByRecursion P xs → AllByRecursion Q (filter p xs)
all_kept p P Q f [] h = tt
all_kept p P Q f (x ∷ xs) h = cond_both (p x) (x ∷ filter p xs) (filter p xs) (AllByRecursion Q) (λ e. (f x e h.0, all_kept p P Q f xs h.1)) (λ _. all_kept p P Q f xs h.1)

-- The orders that a test picks are taken out; the others may stand by the new table.
pub orderly_without : (given : ℕ) (members after : Members) (rows : Rows) (picked : Order → Bool) → ((o : Order) → not (picked o) ≡ true → Stands given members o → Stands given after o) → Orderly given members rows → Orderly given after (rows_without picked rows)
orderly_without given members after rows picked stays h =
    record {
      uncrossed = λ i. uncrossed_kept (λ o. not (picked o)) (λ o. not (picked o)) (rows Bid i) (rows Offer i) (h.uncrossed i);
      sequenced = λ side i. sequenced_kept side (λ o. not (picked o)) (rows side i) (h.sequenced side i);
      standing = λ side i. all_kept (λ o. not (picked o)) (Stands given members) (Stands given after) stays (rows side i) (h.standing side i);
    }

-- No order is taken out, and all may stand by the new table.
pub orderly_changed : (given later : ℕ) (members after : Members) (rows : Rows) → ((o : Order) → Stands given members o → Stands later after o) → Orderly given members rows → Orderly later after rows
orderly_changed given later members after rows stays h =
    record {
      uncrossed = h.uncrossed;
      sequenced = h.sequenced;
      standing = λ side i. All-weaker (Stands given members) (Stands later after) stays (rows side i) (h.standing side i);
    }

stands_later : (given later : ℕ) (members : Members) (o : Order) → given ≤ later → Stands given members o → Stands later members o
stands_later given later members o l h = record { in_table = h.in_table; active = h.active; some = h.some; small = h.small; numbered = (let n = h.numbered in omega arith) }

pub orderly_later : (given later : ℕ) (members : Members) (rows : Rows) → given ≤ later → Orderly given members rows → Orderly later members rows
orderly_later given later members rows l h = orderly_changed given later members members rows (λ o. stands_later given later members o l) h

-- A new row of one member: its orders may stand if it is normal and its limits are no lower.
pub stands_by : (given : ℕ) (members : Members) (m : ℕ) (member : Member) (o : Order) → (m ≡ o.member → member.mode ≡ Normal) → highest_limit (members m).limits ≤ highest_limit member.limits → Stands given members o → Stands given (put members m member) o
stands_by given members m member o normal limit h =
    record {
      in_table = h.in_table;
      active = put_cases members m member o.member (λ (r : Member). r.mode ≡ Normal) normal (λ _. h.active);
      some = h.some;
      small = put_cases members m member o.member (λ (r : Member). o.lots ≤ highest_limit r.limits) (λ e. let own = subst (λ z. o.lots ≤ highest_limit (members z).limits) (sym e) h.small in omega arith) (λ _. h.small);
      numbered = h.numbered;
    }

stays_normal : (before after : Mode) (own : Bool) → before ≡ Normal → own ≡ true → not (falls before after && own) ≡ true → after ≡ Normal
stays_normal before Normal own e f h = refl
stays_normal before Reduction own e f h = grind arith

-- A member is given a mode; if it falls by it, its orders are taken out.
pub orderly_judged : (given : ℕ) (members : Members) (rows : Rows) (m : ℕ) (mode : Mode) → Orderly given members rows → Orderly given (put members m (with_mode (members m) mode)) (rows_without (λ o. falls (members m).mode mode && is_of m o) rows)
orderly_judged given members rows m mode h =
    orderly_without given members (put members m (with_mode (members m) mode)) rows (λ o. falls (members m).mode mode && is_of m o)
    (λ o kept stands. stands_by given members m (with_mode (members m) mode) o (λ e. stays_normal (members m).mode mode (is_of m o) (ap (λ z. (members z).mode) e ∙ stands.active) (eq-eqb m o.member e) kept) (omega arith) stands)
    h

-- ---- a fill

stands_filled : (given : ℕ) (members : Members) (first : Order) (lots : ℕ) (others : List Order) → AllByRecursion (Stands given members) (first ∷ others) → AllByRecursion (Stands given members) (row_filled first lots others)
stands_filled given members first lots others h =
    all_filled (Stands given members) first lots others
    (λ l. record { in_table = h.0.in_table; active = h.0.active; some = omega arith; small = (let s = h.0.small in omega arith); numbered = h.0.numbered })
    h.1

uncrossed_filled : (rows : Rows) (side : Side) (i lots : ℕ) (first : Order) (others : List Order) → rows side i ≡ (first ∷ others) → ((j : ℕ) → Uncrossed (rows Bid j) (rows Offer j)) → (j : ℕ) → Uncrossed (put_row rows side i (row_filled first lots others) Bid j) (put_row rows side i (row_filled first lots others) Offer j)
uncrossed_filled rows Bid i lots first others e h j = put_cases (rows Bid) i (row_filled first lots others) j (λ z. Uncrossed z (rows Offer j)) (λ d. uncrossed_filled_bid first lots others (rows Offer j) (subst (λ z. Uncrossed z (rows Offer j)) (ap (rows Bid) (sym d) ∙ e) (h j))) (λ _. h j)
uncrossed_filled rows Offer i lots first others e h j = put_cases (rows Offer) i (row_filled first lots others) j (λ z. Uncrossed (rows Bid j) z) (λ d. uncrossed_filled_offer first lots (rows Bid j) others (subst (λ z. Uncrossed (rows Bid j) z) (ap (rows Offer) (sym d) ∙ e) (h j))) (λ _. h j)

pub orderly_filled : (given : ℕ) (members : Members) (rows : Rows) (side : Side) (i lots : ℕ) (first : Order) (others : List Order) → rows side i ≡ (first ∷ others) → Orderly given members rows → Orderly given members (put_row rows side i (row_filled first lots others))
orderly_filled given members rows side i lots first others e h =
    record {
      uncrossed = uncrossed_filled rows side i lots first others e h.uncrossed;
      sequenced = each_row (λ s _ row. Sequenced s row) rows side i (row_filled first lots others) h.sequenced (sequenced_filled side first lots others (subst (Sequenced side) e (h.sequenced side i)));
      standing = each_row (λ _ _ row. AllByRecursion (Stands given members) row) rows side i (row_filled first lots others) h.standing (stands_filled given members first lots others (subst (AllByRecursion (Stands given members)) e (h.standing side i)));
    }

-- ---- an order is stored

uncrossed_stored : (rows : Rows) (side : Side) (i : ℕ) (x : Order) → AllByRecursion (λ o. apart side x.rate o.rate ≡ true) (rows (opposite side) i) → ((j : ℕ) → Uncrossed (rows Bid j) (rows Offer j)) → (j : ℕ) → Uncrossed (put_row rows side i (inserted (precedes side) x (rows side i)) Bid j) (put_row rows side i (inserted (precedes side) x (rows side i)) Offer j)
uncrossed_stored rows Bid i x k h j = put_cases (rows Bid) i (inserted (precedes Bid) x (rows Bid i)) j (λ z. Uncrossed z (rows Offer j)) (λ d. subst (λ z. Uncrossed (inserted (precedes Bid) x (rows Bid i)) (rows Offer z)) d (uncrossed_new_bid x (rows Bid i) (rows Offer i) (h i) k)) (λ _. h j)
uncrossed_stored rows Offer i x k h j = put_cases (rows Offer) i (inserted (precedes Offer) x (rows Offer i)) j (λ z. Uncrossed (rows Bid j) z) (λ d. subst (λ z. Uncrossed (rows Bid z) (inserted (precedes Offer) x (rows Offer i))) d (uncrossed_new_offer x (rows Bid i) (rows Offer i) (h i) k)) (λ _. h j)

pub orderly_stored : (given : ℕ) (members : Members) (rows : Rows) (side : Side) (i : ℕ) (x : Order) → x.number ≡ suc given → Stands (suc given) members x → AllByRecursion (λ o. apart side x.rate o.rate ≡ true) (rows (opposite side) i) → Orderly given members rows → Orderly (suc given) members (put_row rows side i (inserted (precedes side) x (rows side i)))
orderly_stored given members rows side i x n stands clear h =
    let later : (s : Side) (j : ℕ) → AllByRecursion (Stands (suc given) members) (rows s j) = λ s j. All-weaker (Stands given members) (Stands (suc given) members) (λ o. stands_later given (suc given) members o (omega arith)) (rows s j) (h.standing s j) in
    record {
      uncrossed = uncrossed_stored rows side i x clear h.uncrossed;
      sequenced = each_row (λ s _ row. Sequenced s row) rows side i (inserted (precedes side) x (rows side i)) h.sequenced (sequenced_inserted side x (rows side i) (All-weaker (Stands given members) (λ y. y.number < x.number) (λ y e. let l = e.numbered in omega arith) (rows side i) (h.standing side i)) (h.sequenced side i));
      standing = each_row (λ _ _ row. AllByRecursion (Stands (suc given) members) row) rows side i (inserted (precedes side) x (rows side i)) later (all_inserted (Stands (suc given) members) (precedes side) x (rows side i) stands (later side i));
    }

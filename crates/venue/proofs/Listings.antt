-- Listings that are alike, place by place.
use Rattle.std.proofs.Common.{◌≡◌, ℕ, zero, suc, ◌<◌, List, [], ◌∷◌, map, length, get_or, pos, sym, refl, ap, ◌∙◌, subst, ext_get_or}
use Rattle.terms.specs.declared.Side.TheVariants.{Bid}
use Rattle.market.specs.declared.orders.Listed.{Listed}
use Rattle.venue.specs.Alike.{shown, Alike}

abbrev pub no_order : Listed
no_order = record { side = Bid; rate = pos 0; lots = 0; number = 0; member = 0 }

pub length_shown : (list : List Listed) → length (map shown list) ≡ length list
length_shown [] = refl
length_shown (first ∷ others) = ap suc (length_shown others)

pub shown_at : (list : List Listed) (k : ℕ) → get_or (map shown list) k (shown no_order) ≡ shown (get_or list k no_order)
shown_at [] k = refl
shown_at (first ∷ others) zero = refl
shown_at (first ∷ others) (suc k) = shown_at others k

pub alike_at : (one other : List Listed) (k : ℕ) → Alike one other → shown (get_or one k no_order) ≡ shown (get_or other k no_order)
alike_at one other k alike = sym (shown_at one k) ∙ ap (λ list. get_or list k (shown no_order)) alike ∙ shown_at other k

pub alike_by_places : (one other : List Listed) → length one ≡ length other
    → ((k : ℕ) → k < length one → shown (get_or one k no_order) ≡ shown (get_or other k no_order))
    → Alike one other
alike_by_places one other lengths places =
    ext_get_or (shown no_order) (map shown one) (map shown other)
    (length_shown one ∙ lengths ∙ sym (length_shown other))
    (λ k h. shown_at one k ∙ places k (subst (λ n. k < n) (length_shown one) h) ∙ sym (shown_at other k))

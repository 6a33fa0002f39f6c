-- Tables as arrays.
use Rattle.std.proofs.Common.{◌≡◌, ℕ, ◌<◌, ltb, List, get_or, replicate, None, Option, refl, ap}
use Rattle.std.proofs.lemmas.Bool.{cond_both, cond-true, lt-ltb, ltb-true}
use Rattle.std.proofs.lemmas.List.{get_or-replicate}
use Rattle.venue.specs.Reads.{row_at}

-- A table with nothing in it.
pub row_of_none : {R A : Type 0} (count : ℕ) (row_of : Option R → A) (k : ℕ) → row_of (row_at count (replicate count None) k) ≡ row_of None
row_of_none count row_of k =
    ap row_of (cond_both (ltb k count) (get_or (replicate count None) k None) None (λ row. row ≡ None) (λ e. get_or-replicate count k None None (ltb-true k count e)) (λ _. refl))

pub row_below : {R : Type 0} (count : ℕ) (rows : List (Option R)) (k : ℕ) → k < count → row_at count rows k ≡ get_or rows k None
row_below count rows k l = cond-true (ltb k count) (get_or rows k None) None (lt-ltb k count l)

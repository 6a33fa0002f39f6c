-- Grounds tested in parts, and the room in a book.
use Rattle.std.proofs.Common.{◌≡◌, ℕ, ◌≤◌, Bool, true, false, cond, List, [], ◌∷◌, ◌++◌, length, Ok, Err, refl, arith}
use Rattle.market.specs.declared.refusals.Refusal.{Refusal}
use Rattle.market.specs.Markets.{pending_orders}
use Rattle.market.specs.Grounds.{Ground, checked}
use Rattle.book.specs.declared.books.Book.{Book}
use Rattle.book.specs.Reads.{rows_of}
use Rattle.book.proofs.Places.{count_is}

pub checked_first : (gs hs : List Ground) (e : Refusal) → Err e ≡ checked gs → Err e ≡ checked (gs ++ hs)
checked_first [] hs e h = absurd (let z : ◌≡◌ {A = ℕ} 0 1 = cc in omega arith)
checked_first (g ∷ gs) hs e h = go g.is_met h (checked_first gs hs e)
  where
    go : (b : Bool) → Err e ≡ cond b (Err g.refusal) (checked gs) → (Err e ≡ checked gs → Err e ≡ checked (gs ++ hs)) → Err e ≡ cond b (Err g.refusal) (checked (gs ++ hs))
    go true d others = d
    go false d others = others d

pub checked_next : (gs hs : List Ground) (u : Unit {0}) → Ok u ≡ checked gs → checked hs ≡ checked (gs ++ hs)
checked_next [] hs u h = refl
checked_next (g ∷ gs) hs u h = go g.is_met h (checked_next gs hs u)
  where
    go : (b : Bool) → Ok u ≡ cond b (Err g.refusal) (checked gs) → (Ok u ≡ checked gs → checked hs ≡ checked (gs ++ hs)) → checked hs ≡ cond b (Err g.refusal) (checked (gs ++ hs))
    go true d others = absurd (let z : ◌≡◌ {A = ℕ} 0 1 = cc in omega arith)
    go false d others = others d

-- A book has 256 places.
pub pending_few : (book : Book) → length (pending_orders (rows_of book)) ≤ 256
pending_few book = let room = book.room in omega (arith, count_is book)

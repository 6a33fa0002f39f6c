-- A row with one entry put in or taken out.
use Rattle.std.proofs.Common.{◌≡◌, ℕ, ◌+◌, ◌-◌, ◌<◌, ◌≤◌, Bool, true, false, cond, not, List, [], ◌∷◌, ◌++◌, length, take, drop, set, refl, sym, ap, ◌∙◌, arith, one-add}
use Rattle.std.proofs.lemmas.List.{length-drop, length-take-le, length_push, take_more_set, take-take, drop-take, take_all, take_at, drop_at, drop-append-le, drop-set-lt, take-set-le}
use Rattle.std.proofs.lemmas.Slice.{put_mid-paste}
use Rattle.std.proofs.lemmas.Grind.{common_steps}
use Rattle.std.proofs.lemmas.List.Sums.{prefix_len-le-length}
use Rattle.std.specs.List.{position, position_or_len, copy_within}
use Rattle.std.specs.Option.{unwrap_or}
use borrow.Rule.Slice.PartMut.{put_mid}
use Rattle.row.specs.Rows.{inserted, without}

pub inserted_at_first : {X : Type 0} (test : X → X → Bool) (e : X) (xs : List X) → inserted test e xs ≡ take (position_or_len (test e) xs) xs ++ e ∷ drop (position_or_len (test e) xs) xs
inserted_at_first test e [] = refl
inserted_at_first {X} test e (x ∷ xs) = go (test e x) (inserted_at_first test e xs)
  where
    go : (b : Bool) → inserted test e xs ≡ take (position_or_len (test e) xs) xs ++ e ∷ drop (position_or_len (test e) xs) xs → cond b (e ∷ x ∷ xs) (x ∷ inserted test e xs) ≡ take (cond (not b) (1 + position_or_len (test e) xs) 0) (x ∷ xs) ++ e ∷ drop (cond (not b) (1 + position_or_len (test e) xs) 0) (x ∷ xs)
    go true others = refl
    go false others = rw one-add (ap (λ ys. x ∷ ys) others)

-- An entry written behind the entries from a place on, and the part from there turned by one.
pub opened : {X : Type 0} (xs : List X) (at end : ℕ) (e : X) (part : List X) → at < end → end ≤ length xs → part ≡ drop (length (take (end - at) (drop at (set xs (end - 1) e))) - 1) (take (end - at) (drop at (set xs (end - 1) e))) ++ take (length (take (end - at) (drop at (set xs (end - 1) e))) - 1) (take (end - at) (drop at (set xs (end - 1) e))) → put_mid at (end - at) (set xs (end - 1) e) part ≡ (take at xs ++ e ∷ drop at (take (end - 1) xs)) ++ drop end xs
opened {X} xs at end e part lt fits is =
    let front : length (take (end - 1) xs) ≡ end - 1 = length-take-le (end - 1) xs (omega arith) in
    let long : length (drop at (take (end - 1) xs)) ≡ end - 1 - at = length-drop at (take (end - 1) xs) ∙ omega arith in
    let last : end ≡ end - 1 + 1 = omega arith in
    let whole : end ≡ at + (end - at) = omega arith in
    let written : take end (set xs (end - 1) e) ≡ take (end - 1) xs ++ e ∷ [] = ap (λ k. take k (set xs (end - 1) e)) last ∙ take_more_set xs (end - 1) e (omega arith) in
    let mid : take (end - at) (drop at (set xs (end - 1) e)) ≡ drop at (take (end - 1) xs) ++ e ∷ [] =
    sym (drop-take at (end - at) (set xs (end - 1) e)) ∙ ap (λ k. drop at (take k (set xs (end - 1) e))) (sym whole) ∙ ap (drop at) written ∙ drop-append-le at (take (end - 1) xs) (e ∷ []) (omega arith) in
    let size : length (take (end - at) (drop at (set xs (end - 1) e))) - 1 ≡ end - 1 - at = ap (λ ys. length ys - 1) mid ∙ omega (arith, length_push (drop at (take (end - 1) xs)) e) in
    let turned : part ≡ e ∷ drop at (take (end - 1) xs) =
    is ∙ (λ k. drop (size k) (mid k) ++ take (size k) (mid k)) ∙ (λ k. drop_at (drop at (take (end - 1) xs)) (e ∷ []) (end - 1 - at) long k ++ take_at (drop at (take (end - 1) xs)) (e ∷ []) (end - 1 - at) long k) in
    put_mid-paste at (end - at) (set xs (end - 1) e) part (e ∷ drop at (take (end - 1) xs)) (end - at) turned refl (omega arith)
    ∙ (let a = take-set-le at xs (end - 1) e (omega arith) in let b = take_all (end - at) (e ∷ drop at (take (end - 1) xs)) (omega arith) in let c = ap (λ k. drop k (set xs (end - 1) e)) (sym whole) ∙ drop-set-lt end xs (end - 1) e (omega arith) in λ k. (a k ++ b k) ++ c k)

-- The entries after a place, within the first n, copied back by one.
pub closed : {X : Type 0} (xs : List X) (at n : ℕ) → at < n → n ≤ length xs → copy_within xs (at + 1) n at ≡ without at (take n xs) ++ drop (n - 1) xs
closed xs at n lt fits =
    let whole : n ≡ at + 1 + (n - (at + 1)) = omega arith in
    let others : drop (at + 1) (take n xs) ≡ take (n - (at + 1)) (drop (at + 1) xs) = ap (λ k. drop (at + 1) (take k xs)) whole ∙ drop-take (at + 1) (n - (at + 1)) xs in
    let front : take at (take n xs) ≡ take at xs = take-take at n xs (omega arith) in
    let behind : at + (n - (at + 1)) ≡ n - 1 = omega arith in
    cc

pub placed : {X : Type 0} (test : X → X → Bool) (e : X) (xs : List X) (at : ℕ) → at ≡ unwrap_or (position (test e) xs) (length xs) → inserted test e xs ≡ take at xs ++ e ∷ drop at xs
placed test e xs at is =
    let within = prefix_len-le-length (λ x. not (test e x)) xs in
    let first : at ≡ position_or_len (test e) xs = grind (arith, common_steps) in
    rw first (inserted_at_first test e xs)

-- Laws of what is written into a lent list.
use Rattle.std.proofs.Common.{◌≡◌, ℕ, suc, ◌+◌, ◌<◌, ◌≤◌, List, [], ◌∷◌, ◌++◌, length, take, drop, set, sym, refl, ap, ◌∙◌, arith, length-append, length-drop, length-take}
use Rattle.std.proofs.lemmas.List.{append_assoc, take-append-drop, set_split, take_at, drop_at, drop-drop, length-take-le}
use Rattle.market.specs.Lists.{Wrote}

pub wrote_none : {A : Type 0} (old : List A) (n : ℕ) → n ≤ length old → Wrote old old n n []
wrote_none old n l = record { count = omega arith; fits = l; places = sym (take-append-drop n old) }

pub wrote_one : {A : Type 0} (old : List A) (n : ℕ) (x : A) → n < length old → Wrote old (set old n x) n (n + 1) (x ∷ [])
wrote_one old n x l = record { count = refl; fits = omega arith; places = set_split old n x l ∙ ap (λ k. take n old ++ (x ∷ drop k old)) (let e : suc n ≡ n + 1 = omega arith in e) }

-- A list is as long as before.
pub wrote_length : {A : Type 0} (old new : List A) (from to : ℕ) (items : List A) → Wrote old new from to items → length new ≡ length old
wrote_length old new from to items w =
    let a = ap length w.places in
    let b = length-append (take from old) (items ++ drop to old) in
    let c = length-append items (drop to old) in
    let d = length-take from old in
    let e = length-drop to old in
    omega (arith, w.count, w.fits)

-- One after another.
pub wrote_both : {A : Type 0} (old mid new : List A) (from on to : ℕ) (items more : List A) → Wrote old mid from on items → Wrote mid new on to more → Wrote old new from to (items ++ more)
wrote_both old mid new from on to items more v w =
    record {
      count = omega (arith, v.count, w.count, length-append items more);
      fits = omega (arith, w.fits, wrote_length old mid from on items v);
      places = w.places ∙ (λ k. front k ++ (more ++ back k)) ∙ append_assoc (take from old) items (more ++ drop to old) ∙ ap (λ z. take from old ++ z) (sym (append_assoc items more (drop to old)));
    }
  where
    short : length (take from old) ≡ from
    short = length-take-le from old (omega (arith, v.count, v.fits))

    on_is : length (take from old ++ items) ≡ on
    on_is = length-append (take from old) items ∙ omega (arith, short, v.count)

    grouped : mid ≡ (take from old ++ items) ++ drop on old
    grouped = v.places ∙ sym (append_assoc (take from old) items (drop on old))

    front : take on mid ≡ take from old ++ items
    front = ap (take on) grouped ∙ take_at (take from old ++ items) (drop on old) on on_is

    back : drop to mid ≡ drop to old
    back =
        ap (λ n. drop n mid) w.count ∙ sym (drop-drop (length more) on mid)
        ∙ ap (drop (length more)) (ap (drop on) grouped ∙ drop_at (take from old ++ items) (drop on old) on on_is)
        ∙ drop-drop (length more) on old ∙ ap (λ n. drop n old) (sym w.count)

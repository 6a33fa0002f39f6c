-- Fields are got as they were set, once over every width and place.
use Rattle.std.proofs.Common.{◌≡◌, ℕ, ◌+◌, ◌*◌, ◌/◌, ◌%◌, ◌^◌, ◌<◌, List, [], ◌∷◌, length, sym, refl, ap, ◌∙◌, ap₂, mod-eq_of_lt, mul_comm, arith}
use Rattle.std.proofs.lemmas.Nat.{pow_pos, pow-add, mod-pow-add, field_of, mod_below, mul-add-lt, shr_high, mod_low}
use Rattle.wire.specs.Fields.{field, total, split, join, Fit}

pub split_fits : (ws : List ℕ) (n : ℕ) → Fit ws (split ws n)
split_fits [] n = tt
split_fits (w ∷ ws) n = (mod_below (n / 2 ^ total ws) (2 ^ w) (pow_pos w), split_fits ws n)

-- A number is its fields put together.
pub join_split : (ws : List ℕ) (n : ℕ) → join ws (split ws n) ≡ n % 2 ^ total ws
join_split [] n = omega (arith, mod_below n 1 (omega arith))
join_split (w ∷ ws) n = ap (λ z. n / 2 ^ total ws % 2 ^ w * 2 ^ total ws + z) (join_split ws n) ∙ sym (mod-pow-add n w (total ws))

pub join_below : (ws vs : List ℕ) → Fit ws vs → join ws vs < 2 ^ total ws
join_below [] [] f = omega arith
join_below [] (v ∷ vs) f = absurd f
join_below (w ∷ ws) [] f = absurd f
join_below (w ∷ ws) (v ∷ vs) f = omega (arith, mul-add-lt v (2 ^ total ws) (join ws vs) (2 ^ w) f.0 (join_below ws vs f.1), pow-add 2 w (total ws), mul_comm (2 ^ w) (2 ^ total ws))

low_part : (n w t : ℕ) → n % 2 ^ (w + t) % 2 ^ t ≡ n % 2 ^ t
low_part n w t = ap (λ z. z % 2 ^ t) (mod-pow-add n w t) ∙ mod_low (n / 2 ^ t % 2 ^ w) t (n % 2 ^ t) (mod_below n (2 ^ t) (pow_pos t))

-- Fields do not see what stands above them.
split_same : (ws : List ℕ) (n m : ℕ) → n % 2 ^ total ws ≡ m % 2 ^ total ws → split ws n ≡ split ws m
split_same [] n m e = refl
split_same (w ∷ ws) n m e =
    let t = total ws in
    let head : field n (total ws) w ≡ field m (total ws) w = sym (field_of n w (total ws)) ∙ ap (λ z. z / 2 ^ total ws) e ∙ field_of m w (total ws) in
    let low : n % 2 ^ total ws ≡ m % 2 ^ total ws = sym (low_part n w (total ws)) ∙ ap (λ z. z % 2 ^ total ws) e ∙ low_part m w (total ws) in
    ap₂ (λ (x : ℕ) (xs : List ℕ). x ∷ xs) head (split_same ws n m low)

-- Values that fit come out as they went in.
pub split_join : (ws vs : List ℕ) → Fit ws vs → split ws (join ws vs) ≡ vs
split_join [] [] f = refl
split_join [] (v ∷ vs) f = absurd f
split_join (w ∷ ws) [] f = absurd f
split_join (w ∷ ws) (v ∷ vs) f =
    let rest = join ws vs in
    let below = join_below ws vs f.1 in
    let head : field (v * 2 ^ total ws + join ws vs) (total ws) w ≡ v = ap (λ z. z % 2 ^ w) (shr_high v (total ws) (join ws vs) below) ∙ mod-eq_of_lt f.0 in
    let low : (v * 2 ^ total ws + join ws vs) % 2 ^ total ws ≡ join ws vs % 2 ^ total ws = mod_low v (total ws) (join ws vs) below ∙ sym (mod-eq_of_lt below) in
    ap₂ (λ (x : ℕ) (xs : List ℕ). x ∷ xs) head (split_same ws (v * 2 ^ total ws + join ws vs) (join ws vs) low ∙ split_join ws vs f.1)

pub join_split_whole : (ws : List ℕ) (n : ℕ) → n < 2 ^ total ws → join ws (split ws n) ≡ n
join_split_whole ws n l = join_split ws n ∙ mod-eq_of_lt l

pub fit_length : (ws vs : List ℕ) → Fit ws vs → length vs ≡ length ws
fit_length [] [] f = refl
fit_length [] (v ∷ vs) f = absurd f
fit_length (w ∷ ws) [] f = absurd f
fit_length (w ∷ ws) (v ∷ vs) f = let rest = fit_length ws vs f.1 in omega arith

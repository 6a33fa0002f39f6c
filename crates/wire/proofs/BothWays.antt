-- Both round trips.
use Rattle.std.proofs.Common.{◌≡◌, ℕ, ◌^◌, ◌<◌, true, false, ◌&&◌, eqb, ltb, List, length, get_or, ℤ, pos, negsuc, Ok, Err, Result, sym, refl, ap, ◌∙◌, subst, ⊎_elim, arith}
use Rattle.std.proofs.lemmas.Bool.{cond-true, cases_Bool, eq-eqb}
use Rattle.std.proofs.lemmas.Bool.Decides.{nat_tests}
use Rattle.wire.specs.declared.request.Request.{Request}
use Rattle.wire.specs.declared.request.Request.TheVariants.{Place, Cancel, CancelAll}
use Rattle.wire.specs.declared.request.MessageRefusal.{MessageRefusal}
use Rattle.wire.specs.declared.request.MessageRefusal.TheVariants.{NotLegal}
use Rattle.wire.specs.Fields.{Fit, split, join}
use Rattle.wire.specs.Layout.{layout, FieldValues, values}
use Rattle.wire.specs.Messages.{eight_bytes, fields_in, fields_of, rate_bits, rate_of, rate_fits, legal, is_place, is_cancel, is_cancel_all, place_of, request_of, reading, message_of}
use Rattle.wire.specs.Trips.{RoundTrips, WorkedMessages}
use Rattle.wire.specs.OneBits.{side_one_bit, term_one_bit}
use Rattle.wire.proofs.Bits.{split_fits, join_split_whole, join_below, split_join, fit_length}

abbrev from_values : List ℕ → FieldValues
from_values vs =
    record { code = get_or vs 0 0; member = get_or vs 1 0; instrument = get_or vs 2 0; side = get_or vs 3 0; term = get_or vs 4 0; lots = get_or vs 5 0; rate = get_or vs 6 0; spare = get_or vs 7 0 }

fields_eq : (f g : FieldValues) → values f ≡ values g → f ≡ g
fields_eq f g e = ap from_values e

-- ---- single values

rate_back : (r : ℤ) → rate_fits r ≡ true → rate_of (rate_bits r) ≡ r
rate_back (pos n) fits = grind (arith, nat_tests)
rate_back (negsuc n) fits = grind (arith, nat_tests)

bits_back : (b : ℕ) → b < 1048576 → rate_bits (rate_of b) ≡ b
bits_back b l = grind (arith, nat_tests)

rate_of_fits : (b : ℕ) → b < 1048576 → rate_fits (rate_of b) ≡ true
rate_of_fits b l = grind (arith, nat_tests)

rate_bits_below : (r : ℤ) → rate_fits r ≡ true → rate_bits r < 1048576
rate_bits_below (pos n) fits = grind (arith, nat_tests)
rate_bits_below (negsuc n) fits = omega arith

-- ---- a legal call is read as it was written

-- What a legal place shows of its values.
place_parts : (m i q : ℕ) (r : ℤ) → (ltb m 32 && (ltb i 16 && (ltb q 65536 && rate_fits r))) ≡ true → (m < 32) × ((i < 16) × ((q < 65536) × (rate_fits r ≡ true)))
place_parts m i q r ok = grind (arith, nat_tests)

fields_fit : (c : Request) → legal c ≡ true → Fit layout (values (fields_of c))
fields_fit (Place m i s t r q) ok =
    let p = place_parts m i q r ok in
    let side = side_one_bit.below s in
    let term = term_one_bit.below t in
    let rate = rate_bits_below r p.1.1.1 in
    grind (arith, nat_tests)
fields_fit (Cancel m n) ok = grind (arith, nat_tests)
fields_fit (CancelAll m) ok = grind (arith, nat_tests)

request_back : (c : Request) → legal c ≡ true → request_of (fields_of c) ≡ Ok c
request_back (Place m i s t r q) ok =
    let p = place_parts m i q r ok in
    let side = side_one_bit.choice_back s in
    let term = term_one_bit.choice_back t in
    let rate = rate_back r p.1.1.1 in
    cc
request_back (Cancel m n) ok = refl
request_back (CancelAll m) ok = refl

-- The word of a legal call has the call's fields.
word_below : (c : Request) → legal c ≡ true → join layout (values (fields_of c)) < 2 ^ 64
word_below c ok = join_below layout (values (fields_of c)) (fields_fit c ok)

call_back : (c : Request) → legal c ≡ true → reading (message_of c) ≡ Ok c
unfolding message_of
call_back c ok =
    let same : join eight_bytes (message_of c) ≡ join layout (values (fields_of c)) = join_split_whole eight_bytes (join layout (values (fields_of c))) (word_below c ok) in
    let fields : fields_in (join layout (values (fields_of c))) ≡ fields_of c = fields_eq (fields_in (join layout (values (fields_of c)))) (fields_of c) (split_join layout (values (fields_of c)) (fields_fit c ok)) in
    ap (λ w. request_of (fields_in w)) same ∙ ap request_of fields ∙ request_back c ok

-- ---- a legal message is written as it was read

-- Fields that are read as a call are that call's, and the call is legal.
record ReadAs (f : FieldValues) (c : Request) : Type 0 where
  fields_are : fields_of c ≡ f
  is_legal : legal c ≡ true

place_read : (f : FieldValues) → Fit layout (values f) → is_place f ≡ true → ReadAs f (place_of f)
place_read f fit used =
    let side = side_one_bit.bit_back f.side fit.1.1.1.0 in
    let term = term_one_bit.bit_back f.term fit.1.1.1.1.0 in
    let rate = bits_back f.rate fit.1.1.1.1.1.1.0 in
    let rate_fit = rate_of_fits f.rate fit.1.1.1.1.1.1.0 in
    record { fields_are = fields_eq (fields_of (place_of f)) f (grind (arith, nat_tests)); is_legal = grind (arith, nat_tests) }

cancel_read : (f : FieldValues) → Fit layout (values f) → is_cancel f ≡ true → ReadAs f (Cancel f.member f.lots)
cancel_read f fit used =
    record { fields_are = fields_eq (fields_of (Cancel f.member f.lots)) f (grind (arith, nat_tests)); is_legal = grind (arith, nat_tests) }

cancel_all_read : (f : FieldValues) → Fit layout (values f) → is_cancel_all f ≡ true → ReadAs f (CancelAll f.member)
cancel_all_read f fit used =
    record { fields_are = fields_eq (fields_of (CancelAll f.member)) f (grind (arith, nat_tests)); is_legal = grind (arith, nat_tests) }

eight_long : (bytes : List ℕ) → Fit eight_bytes bytes → eqb (length bytes) 8 ≡ true
eight_long bytes fit = eq-eqb (length bytes) 8 (fit_length eight_bytes bytes fit)

read_as : (f : FieldValues) (c : Request) → Fit layout (values f) → request_of f ≡ Ok c → ReadAs f c
read_as f c fit e =
    ⊎_elim placed (λ a. ⊎_elim (cancelled a) (λ b. ⊎_elim (all_cancelled a b) (illegal a b) (cases_Bool (is_cancel_all f))) (cases_Bool (is_cancel f))) (cases_Bool (is_place f))
  where
    is_then : (d : Request) → Ok d ≡ request_of f → ReadAs f d → ReadAs f c
    is_then d told as-d = let same : d ≡ c = cc in subst (ReadAs f) same as-d

    placed : is_place f ≡ true → ReadAs f c
    placed h = is_then (place_of f) (grind (arith, nat_tests)) (place_read f fit h)

    cancelled : is_place f ≡ false → is_cancel f ≡ true → ReadAs f c
    cancelled a h = is_then (Cancel f.member f.lots) (grind (arith, nat_tests)) (cancel_read f fit h)

    all_cancelled : is_place f ≡ false → is_cancel f ≡ false → is_cancel_all f ≡ true → ReadAs f c
    all_cancelled a b h =
        is_then (CancelAll f.member) (grind (arith, nat_tests)) (cancel_all_read f fit h)

    illegal : is_place f ≡ false → is_cancel f ≡ false → is_cancel_all f ≡ false → ReadAs f c
    illegal a b h = let none : ◌≡◌ {A = Result Request MessageRefusal} (Err NotLegal) (Ok c) = grind (arith, nat_tests) in cc

message_back : (bytes : List ℕ) (c : Request) → Fit eight_bytes bytes → reading bytes ≡ Ok c → (legal c ≡ true) × (message_of c ≡ bytes)
unfolding message_of
message_back bytes c fit e =
    let below = join_below eight_bytes bytes fit in
    let is_read : request_of (fields_in (join eight_bytes bytes)) ≡ Ok c = sym (cond-true (eqb (length bytes) 8) _ _ (eight_long bytes fit)) ∙ e in
    let as_c = read_as (fields_in (join eight_bytes bytes)) c (split_fits layout (join eight_bytes bytes)) is_read in
    let same : join layout (values (fields_of c)) ≡ join eight_bytes bytes = ap (λ (f : FieldValues). join layout (values f)) as_c.fields_are ∙ join_split_whole layout (join eight_bytes bytes) below in
    (as_c.is_legal, ap (split eight_bytes) same ∙ split_join eight_bytes bytes fit)

pub round_trips : RoundTrips
round_trips = record { call_read_back = call_back; message_written_back = message_back }

pub worked_messages : WorkedMessages
worked_messages = record { day_bid = refl; immediate_offer = refl; spare_bit = refl }

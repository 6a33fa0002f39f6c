-- The layout of a message, and what reading and writing one give.
use Rattle.std.specs.Prelude.{ℕ, ◌-◌, Bool, cond, ◌&&◌, List, [], ◌∷◌, length, ℤ, pos, negsuc, Ok, Err, Result, ◌==◌, nat_lt}
use Rattle.terms.specs.declared.Side.{Side}
use Rattle.terms.specs.declared.Side.TheVariants.{Bid, Offer}
use Rattle.terms.specs.declared.Term.{Term}
use Rattle.terms.specs.declared.Term.TheVariants.{Day, Immediate}
use Rattle.wire.specs.declared.request.Request.{Request}
use Rattle.wire.specs.declared.request.Request.TheVariants.{Place, Cancel, CancelAll}
use Rattle.wire.specs.declared.request.MessageRefusal.{MessageRefusal}
use Rattle.wire.specs.declared.request.MessageRefusal.TheVariants.{NotEightBytes, NotLegal}
use Rattle.wire.specs.Fields.{field, split, join}
use Rattle.wire.specs.Layout.{layout, FieldValues, values}

abbrev pub eight_bytes : List ℕ
eight_bytes = 8 ∷ 8 ∷ 8 ∷ 8 ∷ 8 ∷ 8 ∷ 8 ∷ 8 ∷ []

-- Each field by its place and width; the places are what the widths after it take up.
abbrev pub fields_in : ℕ → FieldValues
fields_in word =
    record {
      code = field word 61 3;
      member = field word 56 5;
      instrument = field word 52 4;
      side = field word 51 1;
      term = field word 50 1;
      lots = field word 34 16;
      rate = field word 14 20;
      spare = field word 0 14;
    }

-- ---- single values

abbrev pub side_bit : Side → ℕ
side_bit Bid = 0
side_bit Offer = 1

abbrev pub side_of : ℕ → Side
side_of bit = cond (bit == 0) Bid Offer

abbrev pub term_bit : Term → ℕ
term_bit Day = 0
term_bit Immediate = 1

abbrev pub term_of : ℕ → Term
term_of bit = cond (bit == 0) Day Immediate

-- A rate is 20 bits in two's complement: -524,288 to 524,287.
abbrev pub rate_bits : ℤ → ℕ
rate_bits (pos n) = n
rate_bits (negsuc n) = 1048575 - n

abbrev pub rate_of : ℕ → ℤ
rate_of bits = cond (nat_lt bits 524288) (pos bits) (negsuc (1048575 - bits))

abbrev pub rate_fits : ℤ → Bool
rate_fits (pos n) = nat_lt n 524288
rate_fits (negsuc n) = nat_lt n 524288

-- ---- a call and its fields

-- Both cancels use the member's field, and one of them the field of lots.
abbrev pub cancel_fields : ℕ → ℕ → ℕ → FieldValues
cancel_fields code member number =
    record {
      code = code;
      member = member;
      instrument = 0;
      side = 0;
      term = 0;
      lots = number;
      rate = 0;
      spare = 0;
    }

abbrev pub fields_of : Request → FieldValues
fields_of (Place member instrument side term rate lots) =
    record { code = 1; member = member; instrument = instrument; side = side_bit side; term = term_bit term; lots = lots; rate = rate_bits rate; spare = 0 }
fields_of (Cancel member number) = cancel_fields 2 member number
fields_of (CancelAll member) = cancel_fields 3 member 0

-- A call is legal if every value fits its field.
abbrev pub legal : Request → Bool
legal (Place member instrument side term rate lots) = nat_lt member 32 && (nat_lt instrument 16 && (nat_lt lots 65536 && rate_fits rate))
legal (Cancel member number) = nat_lt member 32 && nat_lt number 65536
legal (CancelAll member) = nat_lt member 32

-- Code 1 is place, 2 cancel, with the order's number in the field of lots, 3 cancel all. Fields that a code does not use are 0.
abbrev pub is_place : FieldValues → Bool
is_place f = f.code == 1 && f.spare == 0

abbrev pub is_cancel : FieldValues → Bool
is_cancel f =
    (f.code == 2) && (f.instrument == 0 && (f.side == 0 && (f.term == 0 && (f.rate == 0 && f.spare == 0))))

abbrev pub is_cancel_all : FieldValues → Bool
is_cancel_all f =
    (f.code == 3) && (f.instrument == 0 && (f.side == 0 && (f.term == 0 && (f.lots == 0 && (f.rate == 0 && f.spare == 0)))))

abbrev pub place_of : FieldValues → Request
place_of f = Place f.member f.instrument (side_of f.side) (term_of f.term) (rate_of f.rate) f.lots

abbrev pub request_of : FieldValues → Result Request MessageRefusal
request_of f =
    cond (is_place f) (Ok (place_of f))
    (cond (is_cancel f) (Ok (Cancel f.member f.lots))
    (cond (is_cancel_all f) (Ok (CancelAll f.member)) (Err NotLegal)))

-- ---- reading and writing

abbrev pub reading : List ℕ → Result Request MessageRefusal
reading bytes = cond (length bytes == 8) (request_of (fields_in (join eight_bytes bytes))) (Err NotEightBytes)

-- Not an abbreviation: a proof would see it worked out.
unfoldable pub message_of : Request → List ℕ
message_of request = split eight_bytes (join layout (values (fields_of request)))

-- A value, if the place is of eight bytes and the call is legal.
abbrev pub writable : {A : Type 0} → Request → ℕ → A → Result A MessageRefusal
writable request size value = cond (size == 8) (cond (legal request) (Ok value) (Err NotLegal)) (Err NotEightBytes)

abbrev pub writing : Request → List ℕ → Result (Unit {0}) MessageRefusal
writing request place = writable request (length place) tt

abbrev pub written : Request → List ℕ → List ℕ
written request place = cond (length place == 8) (cond (legal request) (message_of request) place) place

-- ---- numbers of the refusals

abbrev pub refusal_number : MessageRefusal → ℕ
refusal_number NotEightBytes = 1
refusal_number NotLegal = 2

-- What a host is told of a reading.
abbrev pub legality : Result Request MessageRefusal → ℕ
legality (Ok request) = 0
legality (Err refusal) = refusal_number refusal

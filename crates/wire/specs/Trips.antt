-- What is written is read as the same call, and what is read is written as the same bytes; and some messages, worked out.
use Rattle.std.specs.Prelude.{◌≡◌, ℕ, true, List, [], ◌∷◌, pos, negsuc, Ok, Err}
use Rattle.terms.specs.declared.Side.TheVariants.{Bid, Offer}
use Rattle.terms.specs.declared.Term.TheVariants.{Day, Immediate}
use Rattle.wire.specs.declared.request.Request.{Request}
use Rattle.wire.specs.declared.request.Request.TheVariants.{Place}
use Rattle.wire.specs.declared.request.MessageRefusal.TheVariants.{NotLegal}
use Rattle.wire.specs.Fields.{Fit}
use Rattle.wire.specs.Messages.{eight_bytes, legal, reading, message_of}

-- So each legal call has exactly one message, and each legal message one call.
pub record RoundTrips : Type 0 where
  pub call_read_back : (call : Request) → legal call ≡ true → reading (message_of call) ≡ Ok call
  pub message_written_back : (bytes : List ℕ) (call : Request) → Fit eight_bytes bytes → reading bytes ≡ Ok call → (legal call ≡ true) × (message_of call ≡ bytes)

pub record WorkedMessages : Type 0 where
  pub day_bid : reading (0x20 ∷ 0x00 ∷ 0x00 ∷ 0x14 ∷ 0x3B ∷ 0x92 ∷ 0x00 ∷ 0x00 ∷ []) ≡ Ok (Place 0 0 Bid Day (pos 61000) 5)
  pub immediate_offer : reading (0x3F ∷ 0xFC ∷ 0x00 ∷ 0x07 ∷ 0xFF ∷ 0xFF ∷ 0xC0 ∷ 0x00 ∷ []) ≡ Ok (Place 31 15 Offer Immediate (negsuc 0) 1)
  pub spare_bit : reading (0x20 ∷ 0x00 ∷ 0x00 ∷ 0x14 ∷ 0x3B ∷ 0x92 ∷ 0x00 ∷ 0x01 ∷ []) ≡ Err NotLegal

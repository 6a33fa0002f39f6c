-- A choice of two as one bit.
use Rattle.std.specs.Prelude.{◌≡◌, ℕ, ◌<◌, refl}
use Rattle.std.proofs.Common.{rules, arith}
use Rattle.terms.specs.declared.Side.TheVariants.{Bid, Offer}
use Rattle.terms.specs.declared.Term.TheVariants.{Day, Immediate}
use Rattle.wire.specs.Messages.{side_bit, side_of, term_bit, term_of}

-- A conversion to a bit and one from it: each undoes the other.
pub record IsOneBit {A : Type 0} (bit_of : A → ℕ) (of_bit : ℕ → A) : Type 0 where
  pub below : (choice : A) → bit_of choice < 2
  pub choice_back : (choice : A) → of_bit (bit_of choice) ≡ choice
  pub bit_back : (bit : ℕ) → bit < 2 → bit_of (of_bit bit) ≡ bit

pub side_one_bit : IsOneBit side_bit side_of
side_one_bit =
    record {
      below = elim [ Bid ↦ omega arith | Offer ↦ omega arith ];
      choice_back = elim [ Bid ↦ refl | Offer ↦ refl ];
      bit_back = search rules;
    }

pub term_one_bit : IsOneBit term_bit term_of
term_one_bit =
    record {
      below = elim [ Day ↦ omega arith | Immediate ↦ omega arith ];
      choice_back = elim [ Day ↦ refl | Immediate ↦ refl ];
      bit_back = search rules;
    }

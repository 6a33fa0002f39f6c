use Rattle.std.proofs.Common.{◌-◌, ◌/◌, ◌^◌, ap, ◌∙◌, arith}
use lib.Bits.{bit_and}
use Rattle.std.proofs.lemmas.Nat.{one_shl, and_mask}
use Rattle.wire.proofs.bit_field.BitField.get.Goals as goal

pub returns-clause-value : goal.returns-clause-value
returns-clause-value c =
    ap (λ z. bit_and (c.args.word / 2 ^ c.args.self.place) (z - 1)) (one_shl c.args.self.width 64 (omega arith))
    ∙ and_mask (c.args.word / 2 ^ c.args.self.place) c.args.self.width

use Rattle.std.proofs.Common.{arith}
use Rattle.std.proofs.lemmas.Nat.{shl_whole}
use Rattle.wire.proofs.bit_field.BitField.set.Goals as goal

pub returns : goal.returns
returns c = shl_whole c.args.value c.args.self.width c.args.self.place 64 c.requires (omega arith)

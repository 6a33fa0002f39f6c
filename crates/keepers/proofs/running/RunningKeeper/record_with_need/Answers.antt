use Rattle.std.proofs.Common.{◌≡◌, length, rules}
use Rattle.keepers.proofs.KeptNeeds.{need_after_record}
use Rattle.keepers.proofs.running.RunningKeeper.record_with_need.Goals as goal

pub invariant_of-self-2 : goal.invariant_of-self-2
invariant_of-self-2 c =
    let size : length c.args.self.now.needs ≡ 32 = search rules in record {
      up_to_date = need_after_record c.args.self.now.table c.record.new.self c.args.self.now.needs 100000 c.args.member c.args.instrument c.args.side c.args.lots c.args.need
          c.args.self.now.up_to_date size c.requires c.in_ok-record.ensures.answer c.record.ensures.after;
    }

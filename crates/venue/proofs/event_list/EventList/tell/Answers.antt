use Rattle.market.proofs.Lists.{wrote_one}
use Rattle.venue.proofs.event_list.EventList.tell.Goals as goal

pub returns-clause-wrote : goal.returns-clause-wrote
returns-clause-wrote c = wrote_one c.args.self.now.places.now c.args.self.now.told c.args.event c.requires

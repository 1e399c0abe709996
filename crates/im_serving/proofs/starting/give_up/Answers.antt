use Rattle.std.proofs.Common.{Err, rules}
use Rattle.im_types.specs.Types.{NoMemory}
use Rattle.im_serving.proofs.ElementLemmas.{given_up}

pub returns : Rattle.im_serving.proofs.starting.give_up.Goals.returns
returns g c = given_up g.K.Name.origin.memory g.K.Name.origin.marks c.args.server (record {
  deeds = record {
    port = c.retire.new.self;
    served = c.server.inside.served;
    last = c.server.inside.glances.last;
    seen = c.server.inside.glances.glance;
    made = c.server.inside.glances.made.items;
  };
  result = Err NoMemory;
}) (search rules)

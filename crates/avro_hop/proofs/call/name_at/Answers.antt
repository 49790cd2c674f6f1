use Rattle.avro_hop.proofs.Calling.{head_of}
use Rattle.avro_hop.proofs.call.name_at.Goals as goal

pub returns : goal.returns
returns c =
    let m = c.in_ok-behind.ensures in
    head_of c.args.bytes.now c.args.at c.in_ok-behind.behind m.1.0 c.text_at.result m.0 m.1.1 c.text_at.ensures

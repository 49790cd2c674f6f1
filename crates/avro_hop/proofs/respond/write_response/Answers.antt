use Rattle.std.proofs.Common.{length, ap, arith}
use Rattle.std.proofs.lemmas.List.{length-append}
use Rattle.avro_hop.specs.Calls.{response}
use Rattle.avro_hop.proofs.Lengths.{response_len}
use Rattle.avro_hop.proofs.respond.write_response.Goals as goal

pub returns-clause-length : goal.returns-clause-length
returns-clause-length c =
    omega (arith, ap length c.in_ok-extend_from_slice.ensures.items, length-append c.args.into.now.items c.deref.result.now, ap length c.deref.ensures.value, ap length c.in_ok-add_response.ensures, length-append c.new-out.result.items (response c.args.status), ap length c.new-out.ensures.items, response_len c.args.status)

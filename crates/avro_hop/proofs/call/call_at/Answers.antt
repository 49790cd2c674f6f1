use Rattle.std.proofs.Common.{refl, sym}
use Rattle.avro_hop.specs.Calls.{HeadFault, Nothing, Other}
use Rattle.avro_hop.proofs.Calling.{head_fault, empty_of, empty_call, strange_call, one_call, many_call}
use Rattle.avro_hop.proofs.Greeting.{placed}
use Rattle.avro_hop.proofs.call.call_at.Goals as goal

pub place_of-requires : goal.place_of-requires
place_of-requires c = placed HeadFault c.args.bytes.now c.args.at c.in-Err.e c.in-Err.ensures

pub returns-in-Err : goal.returns-in-Err
returns-in-Err c = head_fault c.args.front.items c.args.bytes.now c.args.at c.place_of.result c.in-Err.e c.in-Err.ensures c.place_of.ensures

pub returns-then-is_empty : goal.returns-then-is_empty
returns-then-is_empty c =
    let h = c.in-Ok.ensures in
    (Nothing, empty_call c.args.front.items c.args.bytes.now c.args.at c.in-Ok.read.1 c.in-Ok.read.0.now h.0 h.1 (empty_of c.in-Ok.read.0.now (sym c.if-is_empty.ensures)), refl)

pub returns-then-eq : goal.returns-then-eq
returns-then-eq c =
    let h = c.in-Ok.ensures in
    one_call c.args.front.items c.args.bytes.now c.args.at c.in-Ok.read.1 c.in-Ok.read.0.now c.whole_event.result c.asked_of.result h.0 h.1 (sym c.if-eq.ensures) c.whole_event.ensures c.asked_of.ensures

pub returns-then-eq-2 : goal.returns-then-eq-2
returns-then-eq-2 c =
    let h = c.in-Ok.ensures in
    many_call c.args.front.items c.args.bytes.now c.args.at c.in-Ok.read.1 c.in-Ok.read.0.now c.whole_batch.result c.asked_of-then-eq-2.result h.0 h.1 (sym c.if-eq-2.ensures) c.whole_batch.ensures c.asked_of-then-eq-2.ensures

pub returns : goal.returns
returns c =
    let h = c.in-Ok.ensures in
    (Other, strange_call c.args.bytes.now c.args.at c.in-Ok.read.1 c.in-Ok.read.0.now h.0 h.1 (sym c.if-is_empty.ensures) (sym c.if-eq.ensures) (sym c.if-eq-2.ensures), c.in_ok-add_unknown.ensures)

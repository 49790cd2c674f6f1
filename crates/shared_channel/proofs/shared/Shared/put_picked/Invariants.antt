use Rattle.std.proofs.Common.{◌≡◌, take}
use Rattle.channel_face.specs.Faces.{ArePut, picked_events}
use Rattle.shared_channel.specs.Ports.{WentBy}
use Rattle.shared_channel.proofs.shared.Shared.put_picked.Given as goal

abbrev pub invariant-loop-place : goal.invariant-loop-place
invariant-loop-place g l = record {
  puts : WentBy l.fn.pass.number l.fn.pass.view l.pass.view (λ earlier. ArePut l.fn.txn (picked_events l.batch (take l.place-index l.picked)));
  token : l.txn ≡ l.fn.txn;
  table : l.pass.table_id ≡ l.fn.pass.table_id;
  number : l.pass.number ≡ l.fn.pass.number;
}

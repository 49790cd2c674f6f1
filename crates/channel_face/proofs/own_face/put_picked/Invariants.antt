use Rattle.std.proofs.Common.{◌≡◌, take}
use Rattle.channel_face.specs.Faces.{ArePut, picked_events}
use Rattle.channel_face.specs.OwnCalls.{Continues, Goes}
use Rattle.channel_face.proofs.own_face.put_picked.Given as goal

abbrev pub invariant-loop-place : goal.invariant-loop-place
invariant-loop-place g l = record {
  puts : Goes (g.C.Channel.stands l.fn.channel) (g.C.Channel.stands l.channel) (λ own s more new. ArePut l.fn.txn (picked_events l.batch (take l.place-index l.picked)) more);
  kept : Continues (g.C.Channel.stands l.fn.channel) (g.C.Channel.stands l.channel);
  same : l.txn ≡ l.fn.txn;
}

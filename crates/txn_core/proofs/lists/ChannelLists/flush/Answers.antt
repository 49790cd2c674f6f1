use Rattle.std.specs.Vec.{vec_capacity}
use Rattle.channel_face.specs.Machine.{State, entries}
use Rattle.txn_core.specs.View.{state_of}
use Rattle.txn_core.proofs.Kept.{settled_all}
use Rattle.txn_core.proofs.Kept.{frame_after}
use Rattle.txn_core.proofs.lists.ChannelLists.flush.Goals as goal

pub invariant_of-self : goal.invariant_of-self
invariant_of-self c =
    let m = c.self.inside in
    let s : State = state_of m in
    let said = c.settle-self-inside.ensures in
    let new = c.settle-self-inside.new in
    rw (said.items, said.staged, said.next, said.staged_capacity, c.one_if_staged.ensures, c.deref.ensures.value, ← frame_after (entries m.staged.items) m.frame)
    (settled_all s m.open_puts m.staged_puts (vec_capacity m.items) (vec_capacity new.items) (vec_capacity m.staged) m.free_from c.self.invariant said.capacity)

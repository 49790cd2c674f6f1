use Rattle.std.proofs.Common.{ℕ, ap, subst}
use Rattle.event_core.specs.Journal.{Base, IsBase}
use Rattle.file_channel.proofs.Replaying.{items_look}
use Rattle.file_channel.proofs.opening.held_of.Goals as goal

pub open-requires : goal.open-requires
open-requires c =
    let ready = c.requires in
    let base = ready.base in
    record {
      left = (base.0, base.1.items, items_look base.0 c.args.replayed.ring.live base.1.items base.3 ready.free, subst IsBase (ap (λ (n : ℕ). let b : Base = record { items = base.1.items; first = n } in b) base.4) base.2);
      slots = ready.slots;
      room = ready.within;
      below = ready.top;
      txn = ready.txn;
    }

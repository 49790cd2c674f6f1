-- What the lists of a channel stand for.
use Rattle.std.specs.Prelude.{vec_capacity}
use Rattle.channel_face.specs.Machine.{State, entries}
use Rattle.txn_core.specs.Sound.{IsSound}
use Rattle.txn_core.specs.declared.lists.ChannelLists.TheInside.{Inside}

abbrev pub state_of : Inside → State
state_of m = record {
  rules = record { kind = m.kind; limits = m.limits };
  items = m.items.items;
  first = m.first;
  txn = m.txn;
  opened = m.opened.items;
  staged = entries m.staged.items;
  broken = m.broken;
  life = m.life;
  frame = m.frame;
  ends = m.ends.items;
}

abbrev pub IsSoundInside : Inside → Type 0
IsSoundInside m = IsSound (state_of m) m.open_puts m.staged_puts (vec_capacity m.items) (vec_capacity m.staged) m.free_from

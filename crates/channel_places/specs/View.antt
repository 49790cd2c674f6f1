-- What the lists of a channel's places hold, and what is true of them.
use Rattle.std.specs.Prelude.{◌≡◌, ◌<◌, ◌≤◌, ◌+◌, ◌^◌, ℕ, length, map, vec_capacity}
use Rattle.open_table.specs.Tables.{listed_of, open_at}
use Rattle.channel_face.specs.Machine.{State}
use Rattle.channel_face.specs.declared.replies.Kind.TheVariants.{File}
use Rattle.channel_places.specs.Looks.{IsWithinRoom, Known, Looks, Places, count_in, puts_in}
use Rattle.channel_places.specs.Ends.{one_if_staged}
use Rattle.channel_places.specs.declared.places.Held.TheInside.{Inside}

abbrev pub places_of : Inside → Places
places_of h = record {
  live = h.ring.live;
  opened = h.table;
  staged = map listed_of h.staged.items;
  open_puts = h.open_puts;
  numbers = record {
    rules = record { kind = File; limits = h.limits };
    first = h.first;
    txn = h.txn;
    broken = h.broken;
    life = h.life;
    frame = h.frame;
    ends = h.ends.items;
  };
}

-- They look like a state, the counts are right, and there is room for what takes no memory.
pub record IsHeld (p : Places) (slots top open_txns staged_puts room : ℕ) : Type 0 where
  pub settled : Known
  pub known : Known
  pub state : State
  pub looks : Looks settled known p state
  pub open_are : open_txns ≡ length p.opened
  pub open_few : open_txns ≤ 1024
  pub lists : (txn : ℕ) → IsWithinRoom (open_at p.opened txn)
  pub staged_puts_are : staged_puts ≡ puts_in p.staged
  pub slots_are : slots ≡ p.numbers.rules.limits.capacity
  pub few : slots < 2 ^ 32
  pub within : count_in p ≤ slots
  pub below : top ≤ p.numbers.first
  pub numbers : p.numbers.first + staged_puts < 2 ^ 64
  pub fits : length p.staged + open_txns ≤ room
  -- each frame of this life, from 1 on, had a transaction of its own
  pub frames : p.numbers.frame + one_if_staged p.staged + length p.opened ≤ p.numbers.txn

abbrev pub IsHeldInside : Inside → Type 0
IsHeldInside h = IsHeld (places_of h) h.ring.slots h.ring.top h.open_txns h.staged_puts (vec_capacity h.staged)

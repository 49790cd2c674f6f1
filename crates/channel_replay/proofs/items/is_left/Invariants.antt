use Rattle.std.proofs.Common.{◌≡◌, drop, map}
use Rattle.event_core.specs.Journal.{is_among}
use Rattle.channel_replay.proofs.items.is_left.Given as goal

abbrev pub invariant-loop-item : goal.invariant-loop-item
invariant-loop-item l = is_among (map (λ item. item.0) l.items) l.number ≡ is_among (map (λ item. item.0) (drop l.item-index l.items)) l.number

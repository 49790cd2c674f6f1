use Rattle.std.proofs.Common.{◌≡◌, take, map}
use Rattle.std.specs.Prelude.{filter}
use Rattle.event_core.specs.Journal.{is_among}
use Rattle.world_laws.specs.World.{required_of}
use Rattle.hop_core.proofs.selector.share.Given as goal

abbrev pub invariant-loop-at : goal.invariant-loop-at
invariant-loop-at l = l.batch ≡ filter (λ e. is_among (required_of (map (λ pair. (pair.0, pair.1.items)) l.required) e) l.channel) (take l.at l.made)

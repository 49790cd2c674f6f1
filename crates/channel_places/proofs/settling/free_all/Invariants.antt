use Rattle.std.proofs.Common.{◌≡◌, drop}
use Rattle.channel_places.specs.Ends.{AreLive, freed}
use Rattle.channel_places.proofs.settling.free_all.Given as goal

abbrev pub invariant-loop-place : goal.invariant-loop-place
invariant-loop-place l =
    AreLive l.ring.live (drop l.place l.numbers) × (record l.ring { live = freed (drop l.place l.numbers) l.ring.live } ≡ record l.fn.ring { live = freed l.numbers l.fn.ring.live })

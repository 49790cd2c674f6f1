use Rattle.std.proofs.Common.{◌≡◌, drop}
use Rattle.channel_places.specs.Ends.{AreApart, lacking}
use Rattle.channel_places.proofs.settling.remove_all.Given as goal

abbrev pub invariant-loop-place : goal.invariant-loop-place
invariant-loop-place l =
    AreApart l.ring.live (drop l.place l.numbers) × (record l.ring { live = lacking (drop l.place l.numbers) l.ring.live } ≡ record l.fn.ring { live = lacking l.numbers l.fn.ring.live })

use Rattle.std.proofs.Common.{◌≡◌, drop}
use Rattle.std.specs.Prelude.{map}
use Rattle.open_table.specs.Tables.{listed_of}
use Rattle.channel_places.specs.Ends.{AreApart, lacking, takes_in}
use Rattle.channel_places.proofs.settling.remove_staged.Given as goal

abbrev pub invariant-loop-place : goal.invariant-loop-place
invariant-loop-place l =
    AreApart l.ring.live (takes_in (map listed_of (drop l.place l.staged)))
    × (record l.ring { live = lacking (takes_in (map listed_of (drop l.place l.staged))) l.ring.live } ≡ record l.fn.ring { live = lacking (takes_in (map listed_of l.staged)) l.fn.ring.live })

use Rattle.run_tracks.specs.Homes.{AreHomes}
use Rattle.run_tracks.specs.Stops.{IsKept}
use Rattle.run_tracks.proofs.Keeping.{KeptTo}
use Rattle.two_channels.specs.Shares.{table_of}
use Rattle.run_tracks.proofs.stop.keep_all.Given as goal

abbrev pub invariant-loop-place : goal.invariant-loop-place
invariant-loop-place g l =
    AreHomes table_of l.shares l.homes × KeptTo (IsKept g.A.Channel.stands g.A.Channel.tells g.A.Channel.moment g.A.Durable.is_laid g.A.Durable.is_pruned) l.place l.shares l.closes l.fn.homes l.homes

use Rattle.run_tracks.specs.Homes.{AreHomes}
use Rattle.run_tracks.specs.Stops.{IsMended}
use Rattle.run_tracks.proofs.Stopping.{UpTo}
use Rattle.two_channels.specs.Shares.{table_of}
use Rattle.run_tracks.proofs.stop.mend_all.Given as goal

abbrev pub invariant-loop-place : goal.invariant-loop-place
invariant-loop-place g l =
    AreHomes table_of l.shares l.homes × UpTo (λ share home before after new. IsMended g.A.Channel.stands g.A.Channel.tells g.A.Channel.moment share home after new) l.place l.shares l.fn.homes l.fn.answers l.answers l.homes

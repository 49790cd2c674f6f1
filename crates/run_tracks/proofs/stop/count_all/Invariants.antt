use Rattle.std.proofs.Common.{All, []}
use Rattle.run_tracks.specs.Homes.{AreHomes}
use Rattle.run_tracks.specs.Stops.{IsCounted}
use Rattle.run_tracks.proofs.Stopping.{UpTo}
use Rattle.channel_lock.specs.Turns.{HasAll}
use Rattle.two_channels.specs.Shares.{table_of}
use Rattle.run_tracks.proofs.stop.count_all.Given as goal

abbrev pub invariant-loop-place : goal.invariant-loop-place
invariant-loop-place g l =
    AreHomes table_of l.shares l.homes × All (λ p. HasAll p.view) l.homes × UpTo {S = Unit {0}} (λ share home before after new. IsCounted home before after new) l.place [] l.fn.homes l.fn.report l.report l.homes

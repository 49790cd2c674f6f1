use Rattle.std.proofs.Common.{refl}
use Rattle.run_tracks.proofs.Homing.{each_took_then}
use Rattle.run_working.specs.Ends.{IsKeepEnded, IsListenEnded, IsSinkEnded}
use Rattle.run_working.proofs.Ending.{keep_ended_later, listen_ended_later, sink_ended_later}
use Rattle.run_working.proofs.Zipping.{all_map, zips_map}
use Rattle.run_working.proofs.running.end_workers.Goals as goal

pub returns-clause-kept : goal.returns-clause-kept
returns-clause-kept g c =
    let a = c.args.homes.now in
    let k = c.end_keepers.new.homes in
    let b = c.end_sinks.new.homes in
    let d = c.end_listeners.new.homes in
    let e = c.end_lines.new.homes in
    let first = each_took_then a k b c.end_keepers.ensures.kept c.end_sinks.ensures.kept in
    each_took_then a d e (each_took_then a b d first c.end_listeners.ensures.kept) c.end_lines.ensures.kept

pub returns-clause-ended : goal.returns-clause-ended
returns-clause-ended g c =
    let pass = g.F.Carries.pass in
    let k = c.end_keepers.new.homes in
    let b = c.end_sinks.new.homes in
    let d = c.end_listeners.new.homes in
    let e = c.end_lines.new.homes in
    let later = each_took_then b d e c.end_listeners.ensures.kept c.end_lines.ensures.kept in
    record {
      keepers = all_map (IsKeepEnded pass k) (IsKeepEnded pass e) (keep_ended_later pass k e (each_took_then k b e c.end_sinks.ensures.kept later)) _ c.end_keepers.ensures.ended;
      sinks = zips_map (IsSinkEnded pass b) (IsSinkEnded pass e) (sink_ended_later pass b e later) _ _ c.end_sinks.ensures.ended;
      listeners = zips_map (IsListenEnded pass d) (IsListenEnded pass e) (listen_ended_later pass d e c.end_lines.ensures.kept) _ _ c.end_listeners.ensures.ended;
      drains = refl;
      lines = c.end_lines.ensures.ended;
    }

use Rattle.std.proofs.Common.{rules, List, subst, arith}
use Rattle.std.specs.declared.alloc.Global.{Global}
use Rattle.std.specs.declared.vec.Vec.{Vec}
use Rattle.shared_channel.specs.Passes.{Known}
use Rattle.source_worker.specs.declared.worker.ListenWorker.{ListenWorker}
use Rattle.line_worker.specs.declared.worker.LineWorker.{LineWorker}
use Rattle.two_channels.specs.declared.port.EitherPort.{EitherPort}
use Rattle.run_tracks.specs.Places.{Zips}
use Rattle.run_settling.specs.Draining.{HasRoom}
use Rattle.run_working.proofs.rooms.rooms_of.Goals as goal

pub returns : goal.returns
returns g c =
    let Room = Vec (EitherPort g.row.R.Denot g.row.A.Denot g.row.B.Denot) Global in
    let N = ListenWorker Known g.row.N.Denot g.row.C.Denot g.row.K.Denot in
    let L = LineWorker Known g.row.I.Denot g.row.O.Denot g.row.C.Denot g.row.K.Denot in
    record {
      keepers = (c.in_ok-keepers.ensures.items, search (rules, arith));
      sinks = (c.in_ok-sinks.ensures.items, search (rules, arith));
      listeners = (c.in_ok-listeners.ensures.items, search (rules, arith));
      listener_ports = subst (λ (l : List N). Zips (λ (job : N) (room : Room). HasRoom job.ports.items room) l c.in_ok-listener_ports.listener_ports.items) c.as_slice.ensures.value c.in_ok-listener_ports.ensures;
      lines = (c.in_ok-lines.ensures.items, search (rules, arith));
      line_ports = subst (λ (l : List L). Zips (λ (job : L) (room : Room). HasRoom job.ports.items room) l c.in_ok-line_ports.line_ports.items) c.as_slice-2.ensures.value c.in_ok-line_ports.ensures;
    }

use Rattle.std.proofs.Common.{rules, ◌≡◌, List, [], ◌∷◌, ◌++◌, get_or, take, sym, subst, arith}
use Rattle.std.proofs.lemmas.List.{take_more}
use Rattle.std.specs.declared.alloc.Global.{Global}
use Rattle.std.specs.declared.vec.Vec.{Vec}
use Rattle.shared_channel.specs.Passes.{Known}
use Rattle.line_worker.specs.declared.worker.LineWorker.{LineWorker}
use Rattle.two_channels.specs.declared.port.EitherPort.{EitherPort}
use Rattle.run_tracks.specs.Places.{Zips}
use Rattle.run_tracks.proofs.Homing.{zips_push}
use Rattle.run_settling.specs.Draining.{HasRoom}
use Rattle.run_working.proofs.rooms.rooms_of_lines.Goals as goal

pub loop-job-preserved : goal.loop-job-preserved
loop-job-preserved g c =
    let J = LineWorker Known g.row.I.Denot g.row.O.Denot g.row.C.Denot g.row.K.Denot in
    let Room = Vec (EitherPort g.row.R.Denot g.row.A.Denot g.row.B.Denot) Global in
    let P = λ (job : J) (room : Room). HasRoom job.ports.items room in
    let n = c.loop-job.job-index in
    let jobs = c.args.jobs.now in
    let job = c.job-item.result in
    let front = take_more jobs n job c.loop-job-test.true in
    let pushed : c.push.new.self.items ≡ c.loop-job.rooms.items ++ c.in_ok-room.room ∷ [] = search rules in
    subst (λ (x : List J × List Room). Zips P x.0 x.1) (λ i. (sym front i, sym pushed i))
    (zips_push P (take n jobs) c.loop-job.rooms.items (get_or jobs n job) c.in_ok-room.room c.loop-job.invariant
    (subst (λ (j : J). P j c.in_ok-room.room) c.job-item.is (c.in_ok-room.ensures.items, search (rules, arith))))

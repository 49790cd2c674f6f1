use Rattle.run_tracks.proofs.Telling.{number_home}
use Rattle.shared_channel.specs.Passes.{Known}
use Rattle.sink_worker.specs.declared.worker.SinkWorker.{SinkWorker}
use Rattle.run_tracks.specs.Told.{IsNew}
use Rattle.run_settling.specs.Draining.{IsSinkHome}
use Rattle.run_working.specs.Ends.{IsSinkEnded}
use Rattle.run_staff.specs.Jobs.{owners_of}
use Rattle.run_working.proofs.Behind.{same_idle}
use Rattle.run_working.proofs.Home.{numbers_home}
use Rattle.run_working.proofs.Owning.{ended_home}
use Rattle.run_working.proofs.Zipping.{zips_all}
use Rattle.run_working.proofs.running.run_workers.Goals as goal

pub returns-in-Err-clause-all : goal.returns-in-Err-clause-all
returns-in-Err-clause-all g c dealt =
    let homes = c.end_workers.new.homes in
    number_home c.args.homes.now homes (owners_of c.args.jobs) c.end_workers.ensures.kept
    (numbers_home (λ (p : Known). p) homes c.args.jobs c.args.jobs c.end_workers.new.returned c.requires.new (same_idle c.args.jobs) c.end_workers.ensures.ended) dealt

pub returns-in-Err-clause-home : goal.returns-in-Err-clause-home
returns-in-Err-clause-home g c =
    let homes = c.end_workers.new.homes in
    let W = SinkWorker Known g.row.S.Denot g.row.C.Denot in
    zips_all (IsSinkEnded (λ (p : Known). p) homes) (λ (s : W). IsNew s.port) (IsSinkHome homes)
    (λ w back fresh gone. ended_home (λ (p : Known). p) homes w back fresh.0 gone)
    c.args.jobs.sinks.items c.end_workers.new.returned.sinks.items c.requires.new.sinks c.end_workers.ensures.ended.sinks

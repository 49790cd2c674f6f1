use Rattle.shared_channel.specs.Calls.{SawOf}
use Rattle.two_channels.specs.Ports.{SawOnDisk}
use Rattle.run_working.proofs.Upkeeps.{KeepRuns, keeps_stay}
use Rattle.run_working.proofs.Zipping.{ran_zips}
use Rattle.agent_run.proofs.laws.keepers_stay_told.Goals as goal

pub returns : goal.returns
returns g c = λ shares homes last jobs returned new run on silent.
    let laid = SawOnDisk {R = g.row.R.Denot} {B = g.row.B.Denot} (SawOf g.A.Channel.stands g.A.Channel.tells g.A.Durable.is_laid) in
    let pruned = SawOnDisk {R = g.row.R.Denot} {B = g.row.B.Denot} (SawOf g.A.Channel.stands g.A.Channel.tells (λ (c : g.row.A.Denot) s. g.A.Durable.is_pruned c)) in
    let Runs = KeepRuns {R = g.row.R.Denot} {C = g.row.C.Denot} g.A.Channel.stands g.B.Channel.stands laid pruned in
    keeps_stay g.A.Channel.stands g.B.Channel.stands laid pruned shares homes last on
    jobs.keepers.items run.old.keepers.items run.new.keepers.items new.keepers silent run.opened.keepers (ran_zips Runs run.old.keepers.items run.new.keepers.items run.once.keepers) run.ended.keepers

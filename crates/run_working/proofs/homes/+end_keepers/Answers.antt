use Rattle.std.proofs.Common.{List, All, sym, subst}
use Rattle.std.proofs.lemmas.List.Elements.{All-push}
use Rattle.shared_channel.specs.Passes.{Known}
use Rattle.keep_worker.specs.declared.worker.KeepWorker.{KeepWorker}
use Rattle.run_tracks.specs.Homes.{TookAt}
use Rattle.run_tracks.proofs.Homing.{each_took_then}
use Rattle.run_working.specs.Ends.{IsKeepEnded}
use Rattle.run_working.proofs.Ending.{keep_ended_later}
use Rattle.run_working.proofs.Zipping.{all_map}
use Rattle.run_working.proofs.homes.+end_keepers.Goals as goal

pub returns-clause-kept : goal.returns-clause-kept
returns-clause-kept g t c = each_took_then c.args.homes.now c.end_keepers.new.homes c.bring_home.new.homes c.end_keepers.ensures.kept c.bring_home.ensures.kept

pub returns-clause-ended : goal.returns-clause-ended
returns-clause-ended g t c =
    let W = KeepWorker g.row.F.Denot g.row.C.Denot in
    let mid = c.end_keepers.new.homes in
    let new = c.bring_home.new.homes in
    let P = λ (homes : List Known) (w : W). IsKeepEnded g.F.Carries.pass homes w in
    let front = all_map (P mid) (P new) (keep_ended_later g.F.Carries.pass mid new c.bring_home.ensures.kept) c.pop.new.self.items c.end_keepers.ensures.ended in
    let last : P new c.in-Some.worker = subst (λ (p : Known). TookAt new c.in-Some.worker.channel p) c.into_pass.ensures c.bring_home.ensures.took in
    subst (All (P new)) (sym c.in-Some.ensures.items) (All-push (P new) c.pop.new.self.items c.in-Some.worker front last)

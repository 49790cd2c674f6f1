use Rattle.std.proofs.Common.{◌∙◌, ℕ, subst}
use Rattle.flume_host.specs.Causes.{Rose}
use Rattle.keep_worker.specs.Rounds.{face}
use Rattle.keep_worker.proofs.Going.{goes_on}
use Rattle.keep_worker.proofs.worker.KeepWorker.work_until.Goals as goal

pub loop-preserved : goal.loop-preserved
loop-preserved g c = (
  tt,
  tt,
  goes_on (face g.F.Face.own g.F.Face.saw g.F.Face.seen g.F.Face.kept g.F.MendFace.on_disk g.F.KeepFace.saw_laid g.F.KeepFace.saw_pruned) c.args.self.now c.loop.self c.round-upkeep.new.self c.round-upkeep.result c.loop.invariant.2 c.round-upkeep.ensures.round c.round-upkeep.ensures.same,
  c.rest.ensures.still c.if-rest.false ∙ c.loop.invariant.3,
  c.round-upkeep.ensures.can,
)

pub returns-then-rest-clause-stop : goal.returns-then-rest-clause-stop
returns-then-rest-clause-stop g c =
    subst (λ (n : ℕ). Rose n (g.H.Halt.yes c.rest.new.halt)) c.loop.invariant.3 (c.rest.ensures.stop c.if-rest.true)

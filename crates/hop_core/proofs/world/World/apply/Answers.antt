use Rattle.world_laws.specs.Held.{Held}
use Rattle.world_laws.specs.Steps.{happens}
use Rattle.hop_core.specs.Labels.{step_of}
use Rattle.hop_core.proofs.Worlds.{did_hold, did_next, did_same, did_taken}
use Rattle.hop_core.proofs.world.World.apply.Goals as goal

pub returns : goal.returns
returns c =
    let w = c.args.self.now in
    let new = c.take_step.new.self in
    let step = step_of c.args.step.now in
    let did = c.take_step.ensures in
    let keeps : Held w → Held new = did_hold w new step c.take_step.result c.each_step_keeps_the_accounting.ensures did in
    record {
      taken = did_taken (happens w step) w new c.take_step.result did;
      new = did_next (happens w step) w new c.take_step.result did;
      same = did_same (happens w step) w new c.take_step.result did;
      acknowledged = λ held. (keeps held).acknowledged;
      delivered = λ held. (keeps held).delivered;
      numbers = λ held. (keeps held).numbers;
      packets = λ held. (keeps held).packets;
      attempts = λ held. (keeps held).attempts;
      works = λ held. (keeps held).works;
      held = keeps;
    }

use Rattle.std.proofs.Common.{◌∙◌, ap}
use Rattle.shared_channel.specs.Passes.{Known}
use Rattle.agent_commands.specs.Trails.{traced_by}
use Rattle.agent_commands.proofs.Passing.{later_all}
use Rattle.agent_commands.proofs.pipe.serve_pass.Goals as goal

pub returns-clause-served : goal.returns-clause-served
returns-clause-served g c = rw (c.give_back.ensures, ← c.new.ensures) c.serve-end.ensures.served

pub returns-clause-same : goal.returns-clause-same
returns-clause-same g c =
    let s = c.serve-end.ensures.served in
    let later = later_all (traced_by g.H.Disk.Disk.told g.H.Disk.Disk.faults) s.done c.new.result.pass c.serve-end.new.lines.port.pass s.takes in
    ap (λ (k : Known). k.table_id) c.give_back.ensures ∙ later.table ∙ ap (λ (k : Known). k.table_id) c.new.ensures

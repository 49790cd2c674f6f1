use Rattle.std.proofs.Common.{◌≡◌, ◌∙◌, None, refl, sym, ap, subst}
use Rattle.agent_commands.specs.Piped.{Piped}
use Rattle.agent_commands.specs.declared.traced.TracedChannel.{TracedChannel}
use Rattle.agent_commands.proofs.Outcomes.{closed_at_once}
use Rattle.agent_commands.proofs.pipe.pipe_through.Goals as goal

pub share-requires : goal.share-requires
share-requires g c κs within = (within, (c.requires.stands, (c.requires.begins, refl)))

pub pipe_pass-requires-clause-table : goal.pipe_pass-requires-clause-table
pipe_pass-requires-clause-table g c κs within = c.in-Ok.ensures.table

pub pipe_pass-requires-clause-first : goal.pipe_pass-requires-clause-first
pipe_pass-requires-clause-first g c κs within = c.in-Ok.ensures.first

pub returns-in-Err-clause-piped : goal.returns-in-Err-clause-piped
returns-in-Err-clause-piped g c =
    let told = g.H.Disk.Disk.told in
    let faults = g.H.Disk.Disk.faults in
    let C = TracedChannel g.row.H-Disk.Denot in
    let s = g.H.Host.state c.args.host.now in
    let was = c.args.channel.channel in
    let before = c.args.before.value in
    let same : c.close.result ≡ was.0 = c.close.ensures ∙ ap (λ (x : C). x.channel.0) c.in-Err.ensures.back in
    rw c.unopened.ensures (subst (λ (d : g.row.H-Disk.Denot). Piped s s (told before) (told d) (faults before) (faults d) 5 None) (sym same)
    (closed_at_once s (told before) (told was.0) (faults before) (faults was.0) (faults was.0) was.1 _ c.requires.stands c.requires.begins refl refl))

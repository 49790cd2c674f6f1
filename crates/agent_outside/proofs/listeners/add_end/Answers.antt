use Rattle.std.proofs.Common.{[], ◌∷◌, subst}
use Rattle.agent_outside.specs.declared.listener.SourceListener.{SourceListener}
use Rattle.agent_outside.specs.Ends.{ListenersBack, end_back, end_of}
use Rattle.agent_outside.proofs.Listening.{unopened}
use Rattle.agent_outside.proofs.listeners.add_end.Goals as goal

pub returns-in-Err-push-clause-refused : goal.returns-in-Err-push-clause-refused
returns-in-Err-push-clause-refused g c =
    let told = g.H.Listener.Listener.told in
    let waits = g.H.Listener.Listener.waits in
    let faults = g.H.Listener.Listener.faults in
    let end = end_of c.args.kind.now in
    let old = g.H.Host.state c.args.host.now in
    let out = g.H.Host.state c.open_end.new.host in
    let new = g.H.Host.state c.give_back_end.new.host in
    unopened told g.H.Listener.Listener.endpoint waits faults end old out new c.in-Ok.listener c.in-Ok.ensures.fresh c.in-Ok.ensures.out
    (subst (λ (s : SourceListener g.row.H-Listener.Denot). ListenersBack (end_back told waits faults end s.listener ∷ []) out new) c.in-Err-push.ensures.value_returned c.give_back_end.ensures.back)

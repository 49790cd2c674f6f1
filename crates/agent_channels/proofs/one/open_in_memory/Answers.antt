use Rattle.std.proofs.Common.{◌≡◌, [], refl, sym, ap, subst}
use Rattle.std.proofs.lemmas.Result.{IfOk-weaker}
use Rattle.channel_face.specs.History.{Opening}
use Rattle.channel_face.specs.Machine.{State}
use Rattle.txn_core.specs.Counted.{StandsAs}
use Rattle.channel_wishes.specs.Openings.{in_memory}
use Rattle.agent_channels.proofs.one.open_in_memory.Goals as goal

pub share_in_memory-requires : goal.share_in_memory-requires
share_in_memory-requires g c κs within =
    let is : in_memory c.args.limits ≡ in_memory c.in-Ok.channel.state.rules.limits = ap (λ (s : State). in_memory s.rules.limits) (sym (c.in-Ok.ensures.state 0 0)) in
    (within, (c.requires.users, subst (λ (start : Opening). StandsAs c.in-Ok.channel start []) is ((tt, sym (c.in-Ok.ensures.state 0 0), refl), sym c.in-Ok.ensures.tally)))

pub returns-in-Ok-clause-fresh : goal.returns-in-Ok-clause-fresh
returns-in-Ok-clause-fresh g c =
    let is : in_memory c.in-Ok.channel.state.rules.limits ≡ in_memory c.args.limits = ap (λ (s : State). in_memory s.rules.limits) (c.in-Ok.ensures.state 0 0) in
    IfOk-weaker c.share_in_memory.result _ _ (λ o passes. record { start = in_memory c.in-Ok.channel.state.rules.limits; begins = is; passes = passes }) c.share_in_memory.ensures.fresh

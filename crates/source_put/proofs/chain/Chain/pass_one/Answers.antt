use Rattle.std.proofs.Common.{List, subst}
use Rattle.source_put.specs.Chains.{Passes}
use Rattle.source_put.specs.declared.chain.ChainLink.{ChainLink}
use Rattle.source_put.proofs.Passing.{lent}
use Rattle.source_put.proofs.chain.Chain.pass_one.Goals as goal

pub returns : goal.returns
returns g c =
    let links = c.args.self.now.links in
    let l = lent g.B.Interceptor.intercepts c.args.moment c.args.host.now links.len links.items c.as_mut_slice.result.now c.pass_event.new.links c.args.event c.pass_event.result c.as_mut_slice.ensures.value links.ok.0 c.pass_event.ensures.passes c.pass_event.ensures.len in
    subst (λ (l : List (ChainLink _)). Passes g.B.Interceptor.intercepts c.args.moment c.args.host.now links.items c.args.event c.pass_event.result l) l.back l.passes

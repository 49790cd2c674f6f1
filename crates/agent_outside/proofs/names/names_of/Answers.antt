use Rattle.std.proofs.Common.{◌∙◌, length, ℕ, List, take, get_or, sym, ap, subst}
use Rattle.std.proofs.lemmas.List.{take_all, take_more}
use Rattle.std.specs.List.{AllZip}
use Rattle.flume_host.specs.HostState.{HostState}
use Rattle.agent_plan.specs.declared.plan.SourcePlan.{SourcePlan}
use Rattle.source_put.specs.declared.chain.HostNames.{HostNames}
use Rattle.agent_outside.specs.Names.{AreTold}
use Rattle.agent_outside.proofs.Zips.{zip_length, zip_push}
use Rattle.agent_outside.proofs.names.names_of.Goals as goal

pub loop-source-preserved : goal.loop-source-preserved
loop-source-preserved g c =
    let inv = c.loop-source.invariant in
    let i = c.loop-source.source-index in
    let sources = c.args.sources.now in
    let source = c.source-item.result in
    let names = c.loop-source.names.items in
    let found = c.in-Ok.found in
    let start = g.H.Host.state c.args.host.now in
    let old = g.H.Host.state c.loop-source.host in
    let told : AreTold start.name start.address (get_or sources i source) found =
    subst (λ (x : HostState × SourcePlan). AreTold x.0.name x.0.address x.1 found) (λ j. (inv.state j, c.source-item.is j)) c.in-Ok.ensures.told in
    let state = c.in-Ok.ensures.state in
    record {
      told = subst (λ (x : List SourcePlan × List HostNames). AllZip (AreTold start.name start.address) x.0 x.1)
          (λ j. (sym (take_more sources i source c.loop-source-test.true) j, sym c.in_default.ensures.items j))
          (zip_push (AreTold start.name start.address) (take i sources) names (get_or sources i source) found inv.told told);
      state = state.1 ∙ ap (λ (n : ℕ). record old { faults = n }) state.2 ∙ inv.state;
      folders = c.in-Ok.ensures.folders ∙ inv.folders;
    }

pub returns-clause-many : goal.returns-clause-many
returns-clause-many g c =
    let start = g.H.Host.state c.args.host.now in
    let i = c.loop-source.source-index in
    zip_length (AreTold start.name start.address) (take i c.args.sources.now) c.loop-source.names.items c.loop-source.invariant.told ∙ ap length (take_all i c.args.sources.now c.loop-source-test.false)

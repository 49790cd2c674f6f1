use Rattle.std.proofs.Common.{◌≡◌, List, ℕ, ap, ◌∙◌, subst}
use Rattle.prop_text.specs.Views.{texts}
use Rattle.plan_judging.specs.Agents as agents
use Rattle.agent_plan.specs.Values.{Match, SourceNamed, ChannelNamed, SinkNamed, GroupNamed}
use Rattle.flume_config.proofs.agent.plan.Goals as goal

pub returns : goal.returns
returns c =
    let pairs = c.args.agent.now.properties.now in
    let agent = c.args.agent.now.name.now in
    let s : texts c.as_slice.result.now ≡ agents.sources pairs agent = ap texts c.as_slice.ensures.keys ∙ c.requires.sources in
    let h : texts c.as_slice-2.result.now ≡ agents.channels pairs agent = ap texts c.as_slice-2.ensures.keys ∙ c.requires.channels in
    let k : texts c.as_slice-3.result.now ≡ agents.sinks pairs agent = ap texts c.as_slice-3.ensures.keys ∙ c.requires.sinks in
    let g : texts c.as_slice-4.result.now ≡ agents.groups pairs agent = ap texts c.as_slice-4.ensures.keys ∙ c.requires.groups in
    let S : List (List ℕ) × List (List ℕ) → Type 0 = λ x. Match (SourceNamed pairs agent x.0) x.1 c.in_ok-plan_each.field-0.items in
    let H : List (List ℕ) → Type 0 = λ x. Match (ChannelNamed pairs agent) x c.in_ok-plan_each-2.field-0.items in
    let K : List (List ℕ) × List (List ℕ) → Type 0 = λ x. Match (SinkNamed pairs agent x.0) x.1 c.in_ok-plan_each-3.field-0.items in
    let G : List (List ℕ) × List (List ℕ) → Type 0 = λ x. Match (GroupNamed pairs agent x.0) x.1 c.in_ok-plan_each-4.field-0.items in
    record {
      sources = subst S (λ i. (c.requires.channels i, s i)) c.in_ok-plan_each.ensures;
      channels = subst H h c.in_ok-plan_each-2.ensures;
      sinks = subst K (λ i. (c.requires.channels i, k i)) c.in_ok-plan_each-3.ensures;
      groups = subst G (λ i. (c.requires.sinks i, g i)) c.in_ok-plan_each-4.ensures;
    }

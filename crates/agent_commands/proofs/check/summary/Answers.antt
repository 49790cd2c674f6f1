use Rattle.std.proofs.Common.{◌≡◌, ◌++◌, List, ℕ, codes, decimal, length, string_bytes, ◌∙◌, arith}
use Rattle.agent_commands.proofs.check.summary.Goals as goal

abbrev line : List ℕ → ℕ → ℕ → ℕ → ℕ → List ℕ
line agent s h k g =
    agent ++ (codes ": " ++ (decimal s ++ (codes " sources, " ++ (decimal h ++ (codes " channels, "
    ++ (decimal k ++ (codes " sinks, " ++ (decimal g ++ codes " groups\n"))))))))

pub returns : goal.returns
returns c =
    let plan = c.args.plan.now in
    let text : string_bytes c.in_ok-text.text ≡ line c.args.agent.now c.len-sources.result c.len-channels.result c.len-sinks.result c.len-groups.result = c.in_ok-text.ensures.ok in
    let s : c.len-sources.result ≡ length plan.sources.items = omega (arith, c.len-sources.ensures, plan.sources.ok.0) in
    let h : c.len-channels.result ≡ length plan.channels.items = omega (arith, c.len-channels.ensures, plan.channels.ok.0) in
    let k : c.len-sinks.result ≡ length plan.sinks.items = omega (arith, c.len-sinks.ensures, plan.sinks.ok.0) in
    let g : c.len-groups.result ≡ length plan.groups.items = omega (arith, c.len-groups.ensures, plan.groups.ok.0) in
    text ∙ (λ i. line c.args.agent.now (s i) (h i) (k i) (g i))

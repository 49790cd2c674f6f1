use Rattle.std.proofs.Common.{rules, ◌≡◌, ◌≤◌, ℕ, List, length, subst, arith}
use Rattle.std.specs.Vec.{vec_capacity}
use Rattle.agent_plan.specs.declared.plan.ChannelPlan.{ChannelPlan}
use Rattle.run_opening.specs.Lists.{HasSettleRoom, HaveChannelLists}
use Rattle.run_opening.proofs.opening.room_of.Goals as goal

pub returns : goal.returns
returns g c =
    let many : c.len.result ≡ length c.args.plan.now.channels.items = let e = c.len.ensures in first_of (omega arith, search (rules, arith)) in
    let fits : c.args.listeners ≤ vec_capacity c.in_ok-bare.bare = let e = c.in_ok-bare.ensures.capacity in first_of (omega arith, search (rules, arith)) in
    let drives : c.args.rows ≤ vec_capacity c.in_ok-runners.runners = let e = c.in_ok-runners.ensures.capacity in first_of (omega arith, search (rules, arith)) in
    record {
      listeners = (c.in_ok-bare.ensures.items, fits);
      runners = (c.in_ok-runners.ensures.items, drives);
      channels = subst (λ (n : ℕ). HaveChannelLists n c.in_ok-channels.channels) many c.in_ok-channels.ensures;
      workers = c.in_ok-workers.ensures;
      settled = subst (λ (l : List ChannelPlan). HasSettleRoom l c.args.rows c.in_ok-settled.settled) c.as_slice.ensures.value c.in_ok-settled.ensures;
    }

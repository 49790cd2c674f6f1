use Rattle.std.proofs.Common.{◌≡◌, ◌<◌, ◌∙◌, subst, length, arith, ℕ}
use Rattle.std.specs.List.{All}
use Rattle.std.proofs.lemmas.List.Elements.{All-nil, All-same}
use Rattle.sink_groups.proofs.Ranks.{length-ranking, ranking_below}
use Rattle.sink_groups.proofs.schedule.Schedule.new.Goals as goal

pub invariant_of-result : goal.invariant_of-result
invariant_of-result c =
    let kind = c.args.rules.now.kind in
    let priorities = c.deref.result.now in
    let ranking = c.in_ok-ranking.ranking.items in
    let members = c.in_ok-members.members.items in
    let ranked = c.in_ok-ranking.ensures in
    let count : length priorities ≡ length members = omega (arith, c.deref.ensures.len, c.in_ok-members.ensures.len, c.len-count.ensures) in
    record {
      some = omega (arith, c.deref.ensures.len, c.in_ok-members.ensures.len, c.len-count.ensures);
      each = length-ranking kind priorities ranking ranked ∙ count;
      within = subst (λ (n : ℕ). All (λ m. m < n) ranking) count (ranking_below kind priorities ranking ranked);
      starts = omega (arith, c.in_ok-members.ensures.len, c.len-count.ensures);
      ordered = All-same (λ m. m < length members) _ _ c.in_ok-order.ensures.items (All-nil (λ m. m < length members));
      fits = omega (arith, c.in_ok-members.ensures.len, c.in_ok-order.ensures.capacity);
    }

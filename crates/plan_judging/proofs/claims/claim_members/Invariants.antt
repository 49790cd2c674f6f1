use Rattle.std.proofs.Common.{[], ◌∷◌}
use Rattle.plan_judging.specs.Claims.{member_wish, wishes}
use Rattle.plan_judging.proofs.Joins.{Gathers}
use Rattle.plan_judging.proofs.claims.claim_members.Given as goal

abbrev pub invariant-loop-member : goal.invariant-loop-member
invariant-loop-member l = Gathers (λ member. member_wish l.line member ∷ []) l.member-index l.members (wishes l.fn.claims.items) (wishes l.claims.items)

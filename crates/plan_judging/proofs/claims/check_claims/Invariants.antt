use Rattle.std.proofs.Common.{◌≡◌, take}
use Rattle.plan_judging.specs.Candidates.{seen}
use Rattle.plan_judging.specs.Claims.{wishes}
use Rattle.plan_judging.proofs.Clashes.{with_line, least_clash, HasLines}
use Rattle.plan_judging.proofs.claims.check_claims.Given as goal

-- the clashes so far are told, and the least line of each claim so far is kept
abbrev pub invariant-loop-claim : goal.invariant-loop-claim
invariant-loop-claim l = record {
  told : seen l.found ≡ with_line (seen l.fn.found) (least_clash (wishes (take l.claim-index l.claims)));
  lines : HasLines l.lines (wishes (take l.claim-index l.claims));
}

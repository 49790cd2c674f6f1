use Rattle.std.proofs.Common.{arith}
use Rattle.checkpoint_pruning.proofs.Removing.{both_counted, both_kept, weaker}
use Rattle.checkpoint_pruning.proofs.pruning.prune.Goals as goal

pub returns-in_err-checks-clause-kept : goal.returns-in_err-checks-clause-kept
returns-in_err-checks-clause-kept g c = weaker _ _ _ _ (omega arith) (omega arith) _ _ c.remove_checks.ensures.kept

pub returns-in_err-logs-clause-kept : goal.returns-in_err-logs-clause-kept
returns-in_err-logs-clause-kept g c = both_kept _ _ _ _ _ c.remove_checks.ensures.kept c.remove_logs.ensures.kept

pub returns-clause-kept : goal.returns-clause-kept
returns-clause-kept g c = both_kept _ _ _ _ _ c.remove_checks.ensures.kept c.remove_logs.ensures.kept

pub returns-clause-count : goal.returns-clause-count
returns-clause-count g c = both_counted _ _ _ _ _ _ c.remove_checks.ensures.kept c.in_ok-checks.ensures.count c.in_ok-logs.ensures.count

use Rattle.std.proofs.Common.{◌∙◌, sym, arith}
use Rattle.flume_host.specs.declared.names.FileName.TheVariants.{Check}
use Rattle.checkpoint_pruning.proofs.Removing.{checks_are, checks_kind, counted_to, gone_to, kept_since, kept_to, low_number, next_none, next_past, next_there, none_to, removal_failed, removed_more, removed_same}
use Rattle.checkpoint_pruning.proofs.pruning.remove_checks.Goals as goal

pub returns-in_err-number-clause-kept : goal.returns-in_err-number-clause-kept
returns-in_err-number-clause-kept g c =
    kept_since checks_kind checks_are _ _ _ _ _ c.loop-number.low c.loop-number.count c.args.laid c.loop-number.invariant.0 c.next_check.ensures.same c.loop-number.invariant.1

pub returns-in_err-remove-in-Some-clause-kept : goal.returns-in_err-remove-in-Some-clause-kept
returns-in_err-remove-in-Some-clause-kept g c =
    let law = g.met.D.Disk.reads_are_left in
    removal_failed checks_kind checks_are _ _ _ _ _ c.loop-number.low c.loop-number.count c.in-Some.number c.args.laid c.remove.result
    (removed_same checks_kind _ _ _ _ _ _ _ _ c.loop-number.invariant.0 c.next_check.ensures.same c.in_ok-number.ensures.cause.well) (low_number _ _ _ c.in-Some.is c.in_ok-number.ensures.above) c.if-number-laid.true
    (λ t is. law c.next_check.new.disk t is) c.remove.ensures.done

pub loop-number-preserved : goal.loop-number-preserved
loop-number-preserved g c =
    let law = g.met.D.Disk.reads_are_left in (
      removed_more checks_kind checks_are _ _ _ _ _ _ c.loop-number.low c.loop-number.count c.in-Some.number c.remove.result
          (removed_same checks_kind _ _ _ _ _ _ _ _ c.loop-number.invariant.0 c.next_check.ensures.same c.in_ok-number.ensures.cause.well) (low_number _ _ _ c.in-Some.is c.in_ok-number.ensures.above)
          (λ t is. next_there (λ n. t.reads (Check n)) _ _ _ c.in-Some.is (c.in_ok-number.ensures.next t (sym c.next_check.ensures.same ∙ is))) (λ t is. law c.next_check.new.disk t is)
          c.in_ok-remove-in-Some.was c.remove.ensures.done c.in_ok-remove-in-Some.ensures.cause.well,
      omega (arith, c.if-number-laid.true),
    )

pub returns-in_default-clause-kept : goal.returns-in_default-clause-kept
returns-in_default-clause-kept g c =
    kept_to checks_kind checks_are _ _ _ _ c.loop-number.low c.loop-number.count c.args.laid (removed_same checks_kind _ _ _ _ _ _ _ _ c.loop-number.invariant.0 c.next_check.ensures.same c.in_ok-number.ensures.cause.well) c.loop-number.invariant.1

pub returns-in_default-clause-gone : goal.returns-in_default-clause-gone
returns-in_default-clause-gone g c =
    gone_to checks_kind checks_are _ _ _ _ c.loop-number.low c.loop-number.count c.args.laid (removed_same checks_kind _ _ _ _ _ _ _ _ c.loop-number.invariant.0 c.next_check.ensures.same c.in_ok-number.ensures.cause.well)
    (λ t is. none_to (λ n. t.reads (Check n)) _ _ _ (c.in_ok-number.ensures.next t (sym c.next_check.ensures.same ∙ is)) (next_past _ _ _ c.in-Some.is c.if-number-laid.false))

pub returns-in_default-clause-count : goal.returns-in_default-clause-count
returns-in_default-clause-count g c =
    counted_to checks_kind checks_are _ _ _ _ c.loop-number.low c.loop-number.count c.args.laid (removed_same checks_kind _ _ _ _ _ _ _ _ c.loop-number.invariant.0 c.next_check.ensures.same c.in_ok-number.ensures.cause.well) c.loop-number.invariant.1
    (λ t is. none_to (λ n. t.reads (Check n)) _ _ _ (c.in_ok-number.ensures.next t (sym c.next_check.ensures.same ∙ is)) (next_past _ _ _ c.in-Some.is c.if-number-laid.false))

pub returns-in_default-2-clause-kept : goal.returns-in_default-2-clause-kept
returns-in_default-2-clause-kept g c =
    kept_to checks_kind checks_are _ _ _ _ c.loop-number.low c.loop-number.count c.args.laid (removed_same checks_kind _ _ _ _ _ _ _ _ c.loop-number.invariant.0 c.next_check.ensures.same c.in_ok-number.ensures.cause.well) c.loop-number.invariant.1

pub returns-in_default-2-clause-gone : goal.returns-in_default-2-clause-gone
returns-in_default-2-clause-gone g c =
    gone_to checks_kind checks_are _ _ _ _ c.loop-number.low c.loop-number.count c.args.laid (removed_same checks_kind _ _ _ _ _ _ _ _ c.loop-number.invariant.0 c.next_check.ensures.same c.in_ok-number.ensures.cause.well)
    (λ t is. none_to (λ n. t.reads (Check n)) _ _ _ (c.in_ok-number.ensures.next t (sym c.next_check.ensures.same ∙ is)) (next_none _ _ c.in_default.is))

pub returns-in_default-2-clause-count : goal.returns-in_default-2-clause-count
returns-in_default-2-clause-count g c =
    counted_to checks_kind checks_are _ _ _ _ c.loop-number.low c.loop-number.count c.args.laid (removed_same checks_kind _ _ _ _ _ _ _ _ c.loop-number.invariant.0 c.next_check.ensures.same c.in_ok-number.ensures.cause.well) c.loop-number.invariant.1
    (λ t is. none_to (λ n. t.reads (Check n)) _ _ _ (c.in_ok-number.ensures.next t (sym c.next_check.ensures.same ∙ is)) (next_none _ _ c.in_default.is))

use Rattle.std.proofs.Common.{sym, subst}
use Rattle.std.proofs.lemmas.Result.{err_from_is_err_and}
use Rattle.channel_log.specs.Reader.{AreRecords, Reader, Remains}
use Rattle.channel_log.proofs.Entering.{gives_none, still_remains, if_true}
use Rattle.channel_log.proofs.Remaining.{forgets, gives}
use Rattle.channel_log.proofs.reader.LogReader.next.Goals as goal

pub returns-then-not-branch-clause-given : goal.returns-then-not-branch-clause-given
returns-then-not-branch-clause-given g c = λ bytes items fault has remains.
    gives_none c.in_ok-enter.field-0 c.enter.new.self bytes items fault c.if-not-branch.true (c.in_ok-enter.ensures.stands bytes items fault has remains)

pub returns-in-Ok-clause-given : goal.returns-in-Ok-clause-given
returns-in-Ok-clause-given g c = λ bytes items fault has remains.
    gives c.enter.new.self c.give.new.self bytes items fault c.in-Ok.given
    (if_true c.in_ok-enter.field-0 (AreRecords c.enter.new.self.held) c.if-not-branch.false c.in_ok-enter.ensures.held)
    (still_remains c.in_ok-enter.field-0 c.enter.new.self bytes items fault c.if-not-branch.false (c.in_ok-enter.ensures.stands bytes items fault has remains))
    c.in-Ok.ensures.given

pub returns-in-Err-clause-refused : goal.returns-in-Err-clause-refused
returns-in-Err-clause-refused g c = λ bytes items fault has remains.
    subst (λ (r : Reader). Remains r bytes items fault) (sym c.in-Err.ensures.refused) (still_remains c.in_ok-enter.field-0 c.enter.new.self bytes items fault c.if-not-branch.false (c.in_ok-enter.ensures.stands bytes items fault has remains))

pub returns-in_err-enter-clause-refused : goal.returns-in_err-enter-clause-refused
returns-in_err-enter-clause-refused g c =
    let p = err_from_is_err_and c.from_residual.result c.from_residual.ensures.1 in
    rw p.1 (λ bytes items fault has remains. forgets c.args.self.now c.enter.new.self bytes items fault c.in_err-enter.ensures.refused remains)

use Rattle.std.proofs.Common.{◌∙◌, ◌≡◌, false, sym, true}
use Rattle.checkpoint_reading.specs.declared.refused.CheckReadRefused.TheVariants.{BadCheck}
use Rattle.checkpoint_reading.proofs.AtEnd.{counts_there, newest_bad, newest_read, not_ended, what_is_read}
use Rattle.std.proofs.lemmas.Result.{err_from_is_err_and}
use Rattle.checkpoint_reading.proofs.Stepping.{err_is}
use Rattle.checkpoint_reading.proofs.whole.read_check.Goals as goal

pub begin-requires : goal.begin-requires
begin-requires g c = λ t is. counts_there _ (c.requires t is).0

pub returns-in_err-draft-clause-bad : goal.returns-in_err-draft-clause-bad
returns-in_err-draft-clause-bad g c =
    let p = err_from_is_err_and c.from_residual-in_err-draft.result c.from_residual-in_err-draft.ensures.1 in
    err_is _ _ p.0 _ p.1 p.2 (newest_bad _ _ c.args.number c.in_ok-reader.reader _ c.begin.ensures.same c.requires c.in_ok-reader.ensures.number c.in_ok-reader.ensures.place c.in_ok-reader.ensures.held c.in_err-draft.ensures.bad)

pub returns-then-not-is_at_end-clause-bad : goal.returns-then-not-is_at_end-clause-bad
returns-then-not-is_at_end-clause-bad g c =
    newest_bad _ _ c.args.number c.in_ok-reader.reader (BadCheck c.args.number c.at.result) c.begin.ensures.same c.requires c.in_ok-reader.ensures.number c.in_ok-reader.ensures.place c.in_ok-reader.ensures.held
    (not_ended _ c.in_ok-reader.reader c.read_text.new.reader c.in_ok-draft.ensures.read.0 _ _ (sym c.in_ok-reader.ensures.number) c.read_text.ensures.file c.at.ensures.at c.at.ensures.within
    (λ end. let yes : c.is_at_end.result ≡ true = c.is_at_end.ensures.1 end in let no : c.is_at_end.result ≡ false = c.if-not-is_at_end.true in absurd (cc))
    (λ t is. c.in_ok-draft.ensures.held t (c.read_text.ensures.same ∙ is)) c.in_ok-draft.ensures.read.2)

pub returns-clause-read : goal.returns-clause-read
returns-clause-read g c = what_is_read c.args.number c.in_ok-draft.draft c.in_ok-draft.ensures.read.0 c.in_ok-draft.ensures.read.1

pub returns-clause-newest : goal.returns-clause-newest
returns-clause-newest g c =
    newest_read _ _ c.args.number c.in_ok-reader.reader c.read_text.new.reader c.in_ok-draft.draft c.in_ok-draft.ensures.read.0 c.begin.ensures.same c.requires c.in_ok-reader.ensures.number c.in_ok-reader.ensures.place c.in_ok-reader.ensures.held
    (λ t is. c.in_ok-draft.ensures.held t (c.read_text.ensures.same ∙ is)) (c.is_at_end.ensures.0 c.if-not-is_at_end.false) c.in_ok-draft.ensures.read.1 c.in_ok-draft.ensures.read.2

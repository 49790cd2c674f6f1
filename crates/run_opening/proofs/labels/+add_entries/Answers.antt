use Rattle.std.proofs.Common.{rules, refl, arith}
use Rattle.run_opening.proofs.Labelling.{entry_more}
use Rattle.run_opening.proofs.labels.+add_entries.Goals as goal

pub returns-in_ok-push : goal.returns-in_ok-push
returns-in_ok-push t c =
    entry_more c.args.place c.args.users.now c.in-Some.others.now c.in-Some.user.now c.in-Some.ensures.cases.0 c.add_entries.new.workers.items c.in_ok-add_entries.ensures
    _ _ c.in_ok-push.ensures.items c.if-user-place.true (search rules) refl (search (rules, arith))

use Rattle.std.proofs.Common.{rules, ◌≡◌, ◌≤◌, ◌+◌, length, take, Ok, sym, subst}
use Rattle.std.specs.Vec.{vec_capacity}
use Rattle.channel_face.specs.Machine.{Reopen, Front}
use Rattle.txn_core.specs.Shadow.{Journaled, Journals}
use Rattle.txn_core.proofs.Again.{journal_reopened}
use Rattle.txn_core.proofs.machine.Machine.restart.Goals as goal

pub returns-clause-ok : goal.returns-clause-ok
returns-clause-ok c =
    let m = c.self.inside in
    let few : c.args.kept ≤ length m.lists.state.staged = subst (λ (j : Journaled). c.args.kept ≤ length j.counted.state.staged) (sym c.self.view_is) c.requires.kept in
    let kept : c.truncate.new.self.items ≡ take (m.settled + c.args.kept) m.entries.items = search rules in
    let new : Journaled = record { counted = c.restart.new.self; journal = take (m.settled + c.args.kept) c.truncate.new.self.items } in
    subst (λ (j : Journaled). Journals j (Reopen (Ok (record { kept = Front c.args.kept; txn = j.counted.state.txn }))) new) c.self.view_is
    (record {
      makes = c.in_ok-restart.ensures.ok;
      journal = rw kept (journal_reopened m.lists.state m.copies.items m.entries.items m.settled (vec_capacity m.entries) c.args.kept c.self.invariant few);
    })

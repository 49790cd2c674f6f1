use Rattle.std.proofs.Common.{rules, ◌≡◌, Err, false, refl, subst}
use Rattle.channel_face.specs.Machine.{Put}
use Rattle.channel_face.specs.declared.replies.PutRefused.TheVariants as PutNo
use Rattle.txn_core.specs.Machine.{journaled_of}
use Rattle.txn_core.specs.Shadow.{Journaled, Journals}
use Rattle.txn_core.proofs.Shadowing.{quiet_call}
use Rattle.txn_core.proofs.Found.{PutAt, put_found}
use Rattle.txn_core.proofs.machine.Machine.put.Goals as goal

pub returns-in_default-clause-step : goal.returns-in_default-clause-step
returns-in_default-clause-step c =
    let new : Journaled = record { counted = c.out_of_memory.new.self; journal = (journaled_of c.self.inside).journal } in
    subst (λ (j : Journaled). Journals j (Put c.args.txn.now c.args.event.now (Err PutNo.NoMemory)) new) c.self.view_is
    (quiet_call (journaled_of c.self.inside) new (Put c.args.txn.now c.args.event.now (Err PutNo.NoMemory)) (c.out_of_memory.ensures.put c.args.txn.now c.args.event.now) refl refl)

pub push_put_copy-requires : goal.push_put_copy-requires
push_put_copy-requires c =
    let m = c.self.inside in
    let number : c.number.result ≡ c.args.txn.now.number = search rules in
    let spilled : c.in-Ok-put.done.spilled ≡ false = c.in-Ok-put.ensures.spills in
    let there = rw c.deref.ensures.value at c.in-Some.ensures.found in
    let put : PutAt m.lists.state c.put.new.self.state m.copies.items c.number.result c.in-Some.place c.args.event.now =
    put_found m.lists.state c.put.new.self.state c.args.txn.now c.args.event.now c.in-Ok-put.done m.copies.items c.number.result c.in-Some.place c.self.invariant.opened number c.in-Ok-put.ensures.step.moves spilled there in
    (c.number.result, put.events, put.at.item)

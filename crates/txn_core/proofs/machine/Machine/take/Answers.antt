use Rattle.std.proofs.Common.{rules, ◌≡◌, ◌∙◌, ℕ, List, Some, Err, false, refl, ap, subst}
use Rattle.event_core.specs.declared.journal.Entry.{Entry}
use Rattle.event_core.specs.declared.journal.Entry.TheVariants.{Takes}
use Rattle.channel_face.specs.Machine.{State, Take, free}
use Rattle.channel_face.specs.declared.replies.TakeRefused.TheVariants as TakeNo
use Rattle.txn_core.specs.Places.{IsAt}
use Rattle.txn_core.specs.Sound.{first_number}
use Rattle.txn_core.specs.Machine.{journaled_of}
use Rattle.txn_core.specs.Shadow.{Journaled, Journals}
use Rattle.txn_core.proofs.Shadowing.{quiet_call}
use Rattle.txn_core.proofs.Found.{TakeAt, take_found, take_back}
use Rattle.txn_core.proofs.machine.Machine.take.Goals as goal

pub push_take_copy-requires : goal.push_take_copy-requires
push_take_copy-requires c =
    let m = c.self.inside in
    let s : State = m.lists.state in
    let number : c.number.result ≡ c.args.txn.now.number = search rules in
    let spilled : c.in-Ok.taken.spilled ≡ false = c.in-Ok.ensures.spills in
    let first : first_number (free s) ≡ Some c.in-Some.number = search rules in
    let there = rw c.deref.ensures.value at c.in-Some-place_of_copy.ensures.found in
    let take : TakeAt s c.take.new.self.state m.copies.items c.number.result c.in-Some-place_of_copy.place c.in-Some.number =
    take_found s c.take.new.self.state c.args.txn.now c.in-Ok.taken m.copies.items c.number.result c.in-Some-place_of_copy.place c.in-Some.number c.self.invariant.opened number c.in-Ok.ensures.step.moves spilled first there in
    (c.number.result, take.numbers, take.at.item)

pub returns-then-is_err-clause-step : goal.returns-then-is_err-clause-step
returns-then-is_err-clause-step c =
    let m = c.self.inside in
    let s : State = m.lists.state in
    let number : c.number.result ≡ c.args.txn.now.number = search rules in
    let spilled : c.in-Ok.taken.spilled ≡ false = c.in-Ok.ensures.spills in
    let first : first_number (free s) ≡ Some c.in-Some.number = search rules in
    let there = rw c.deref.ensures.value at c.in-Some-place_of_copy.ensures.found in
    let take : TakeAt s c.take.new.self.state m.copies.items c.number.result c.in-Some-place_of_copy.place c.in-Some.number =
    take_found s c.take.new.self.state c.args.txn.now c.in-Ok.taken m.copies.items c.number.result c.in-Some-place_of_copy.place c.in-Some.number c.self.invariant.opened number c.in-Ok.ensures.step.moves spilled first there in
    let at : IsAt s.opened c.number.result c.in-Some-place_of_copy.place (Takes take.numbers) = subst (λ (l : List (ℕ × Entry)). IsAt l c.number.result c.in-Some-place_of_copy.place (Takes take.numbers)) c.self.invariant.opened take.at in
    let undone : c.undo_take.new.self.state ≡ s = c.undo_take.ensures.state s.opened c.number.result take.numbers c.in-Some.number at (ap (λ (v : State). v.opened) take.state) ∙ ap (λ (v : State). record v { opened = s.opened }) take.state in
    let new : Journaled = record { counted = c.undo_take.new.self; journal = (journaled_of m).journal } in
    subst (λ (j : Journaled). Journals j (Take c.args.txn.now (Err TakeNo.NoMemory)) new) c.self.view_is
    (quiet_call (journaled_of m) new (Take c.args.txn.now (Err TakeNo.NoMemory)) (take_back m.lists c.undo_take.new.self c.args.txn.now c.in-Ok.taken c.take.new.self c.in-Ok.ensures.step spilled undone c.undo_take.ensures.tally) refl refl)

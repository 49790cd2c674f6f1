use Rattle.std.proofs.Common.{rules, ◌≡◌, ◌++◌, ◌∷◌, ◌∙◌, ℕ, List, [], take, refl, ap}
use Rattle.std.specs.Vec.{vec_capacity}
use Rattle.event_core.specs.declared.journal.Entry.{Entry}
use Rattle.channel_face.specs.Machine.{State, entries}
use Rattle.txn_core.specs.View.{state_of}
use Rattle.txn_core.proofs.Kept.{front_fits, restarted, take-entries}
use Rattle.txn_core.proofs.Steps.{restarted_so}
use Rattle.txn_core.proofs.lists.ChannelLists.restart.Goals as goal

pub settle-self-inside-requires-clause-room : goal.settle-self-inside-requires-clause-room
settle-self-inside-requires-clause-room c =
    let m = c.self.inside in
    let s : State = state_of m in
    let kept : c.truncate.new.self.items ≡ take c.args.kept m.staged.items = search rules in
    let front : entries c.truncate.new.self.items ≡ take c.args.kept s.staged = ap (λ (l : List (ℕ × Entry)). entries l) kept ∙ take-entries c.args.kept m.staged.items in
    rw front ((front_fits s c.args.kept m.open_puts m.staged_puts (vec_capacity m.items) (vec_capacity m.staged) m.free_from c.self.invariant).0)

pub settle-self-inside-requires-clause-numbers : goal.settle-self-inside-requires-clause-numbers
settle-self-inside-requires-clause-numbers c =
    let m = c.self.inside in
    let s : State = state_of m in
    let kept : c.truncate.new.self.items ≡ take c.args.kept m.staged.items = search rules in
    let front : entries c.truncate.new.self.items ≡ take c.args.kept s.staged = ap (λ (l : List (ℕ × Entry)). entries l) kept ∙ take-entries c.args.kept m.staged.items in
    rw front ((front_fits s c.args.kept m.open_puts m.staged_puts (vec_capacity m.items) (vec_capacity m.staged) m.free_from c.self.invariant).1)

pub invariant_of-self-2 : goal.invariant_of-self-2
invariant_of-self-2 c =
    let m = c.self.inside in
    let s : State = state_of m in
    let kept : c.truncate.new.self.items ≡ take c.args.kept m.staged.items = search rules in
    let front : entries c.truncate.new.self.items ≡ take c.args.kept s.staged = ap (λ (l : List (ℕ × Entry)). entries l) kept ∙ take-entries c.args.kept m.staged.items in
    let none : c.clear.new.self.items ≡ [] = search rules in
    let said = c.settle-self-inside.ensures in
    let new = c.settle-self-inside.new in
    restarted s _ c.args.kept c.push.new.self.items m.open_puts m.staged_puts (vec_capacity m.items) (vec_capacity new.items) (vec_capacity m.staged) (vec_capacity new.staged) m.free_from c.self.invariant said.capacity
    (rw (said.items, said.staged, said.next, front, none) refl)

pub returns-clause-ok : goal.returns-clause-ok
returns-clause-ok c =
    let m = c.self.inside in
    let s : State = state_of m in
    let kept : c.truncate.new.self.items ≡ take c.args.kept m.staged.items = search rules in
    let front : entries c.truncate.new.self.items ≡ take c.args.kept s.staged = ap (λ (l : List (ℕ × Entry)). entries l) kept ∙ take-entries c.args.kept m.staged.items in
    let none : c.clear.new.self.items ≡ [] = search rules in
    let ends : c.push.new.self.items ≡ m.ends.items ++ m.frame ∷ [] = search rules in
    let said = c.settle-self-inside.ensures in
    restarted_so s c.args.self.now _ c.args.kept c.self.view_is c.requires.life c.requires.kept c.requires.kind (rw (said.items, said.staged, said.next, front, none, ends) refl)

use Rattle.std.proofs.Common.{◌≡◌, ◌∙◌, ◌≤◌, ◌+◌, length, arith}
use Rattle.std.specs.Vec.{vec_capacity}
use Rattle.txn_core.specs.View.{state_of}
use Rattle.txn_core.proofs.Again.{roomier}
use Rattle.txn_core.proofs.Kept.{length-entries}
use Rattle.txn_core.proofs.lists.ChannelLists.copy.Goals as goal

pub invariant_of-result : goal.invariant_of-result
invariant_of-result c =
    let m = c.self.inside in
    let items : c.in_ok-items.items.items ≡ m.items.items = c.in_ok-items.ensures.items ∙ c.deref.ensures.value in
    let opened : c.in_ok-opened.opened.items ≡ m.opened.items = c.in_ok-opened.ensures.items ∙ c.deref-2.ensures.value in
    let staged : c.in_ok-staged.staged.items ≡ m.staged.items = c.in_ok-staged.ensures.items ∙ c.deref-3.ensures.value in
    let ends : c.in_ok-ends.ends.items ≡ m.ends.items = c.in_ok-ends.ensures.items ∙ c.deref-4.ensures.value in
    let places : length m.staged.items + length m.opened.items ≤ vec_capacity c.in_ok-staged.staged = omega (arith, c.in_ok-staged.ensures.room, c.len-3.ensures, c.len-4.ensures) in
    let more : length m.items.items + m.open_puts + m.staged_puts ≤ vec_capacity c.in_ok-items.items = omega (arith, c.in_ok-items.ensures.room, c.len.ensures) in
    rw (items, opened, staged, ends) (roomier (state_of m) m.open_puts m.staged_puts (vec_capacity m.items) (vec_capacity c.in_ok-items.items) (vec_capacity m.staged) (vec_capacity c.in_ok-staged.staged) m.free_from c.self.invariant more (omega (arith, places, length-entries m.staged.items)))

pub returns : goal.returns
returns c =
    let m = c.self.inside in
    let items : c.in_ok-items.items.items ≡ m.items.items = c.in_ok-items.ensures.items ∙ c.deref.ensures.value in
    let opened : c.in_ok-opened.opened.items ≡ m.opened.items = c.in_ok-opened.ensures.items ∙ c.deref-2.ensures.value in
    let staged : c.in_ok-staged.staged.items ≡ m.staged.items = c.in_ok-staged.ensures.items ∙ c.deref-3.ensures.value in
    let ends : c.in_ok-ends.ends.items ≡ m.ends.items = c.in_ok-ends.ensures.items ∙ c.deref-4.ensures.value in
    rw (items, opened, staged, ends) c.self.view_is

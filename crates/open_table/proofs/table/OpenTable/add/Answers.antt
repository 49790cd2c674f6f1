use Rattle.std.proofs.Common.{◌≡◌, Option, None, Some, sym, ap, ◌∙◌, subst}
use Rattle.std.specs.Option.{option_copied_mut}
use Rattle.open_table.specs.Tables.{Open, open_at, MayAdd, with_item}
use Rattle.open_table.proofs.Maps.{found, changed}
use Rattle.open_table.proofs.table.OpenTable.add.Goals as goal
use Rattle.open_table.proofs.table.OpenTable.add.Goals.{in-Some, in_default}

pub add-requires : goal.add-requires
add-requires c =
    let here : open_at c.args.self.now c.args.txn ≡ Some c.in-Some.opened.now = found c.self.inside.opened _ c.args.txn _ c.self.view_is (sym c.get_mut.ensures.value ∙ ap option_copied_mut c.in-Some.is) in
    subst (λ (o : Option Open). MayAdd c.args.item o) here c.requires

pub returns-clause-added : goal.returns-clause-added
returns-clause-added c = elim c.match-get_mut.branch [
  | in-Some w ↦ rw w.self-inside-is (changed (λ (o : Open). record o { listed = with_item c.args.item o.listed }) c.args.txn w.in-Some.opened.now w.add.new.self c.self.inside.opened (c.get_mut.follows.lender w.add.new.self) _ c.self.view_is
      (sym c.get_mut.ensures.value ∙ ap option_copied_mut w.in-Some.is) w.add.ensures (c.get_mut.follows.holds w.add.new.self))
  | in_default w ↦
      let none : open_at c.args.self.now c.args.txn ≡ None = found c.self.inside.opened _ c.args.txn None c.self.view_is (sym c.get_mut.ensures.value ∙ ap option_copied_mut w.in_default.is) in
      absurd (subst (λ (o : Option Open). MayAdd c.args.item o) none c.requires)
]

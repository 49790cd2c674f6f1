use Rattle.std.proofs.Common.{◌≡◌, Option, Some, MatchOption, sym, ap, ◌∙◌, subst}
use Rattle.std.specs.Option.{option_copied_mut}
use Rattle.open_table.specs.Tables.{Open, open_at, MayMove, moved_open}
use Rattle.open_table.proofs.Maps.{found, changed, unchanged}
use Rattle.open_table.proofs.table.OpenTable.move_at.Goals as goal
use Rattle.open_table.proofs.table.OpenTable.move_at.Goals.{in-Some, in_default}

pub move_puts-requires : goal.move_puts-requires
move_puts-requires c =
    let here : open_at c.args.self.now c.args.txn ≡ Some c.in-Some.opened.now = found c.self.inside.opened _ c.args.txn _ c.self.view_is (sym c.get_mut.ensures.value ∙ ap option_copied_mut c.in-Some.is) in
    subst (λ (o : Option Open). MatchOption o (Unit {0}) (λ p. MayMove c.args.file c.args.at c.args.to_at p.listed)) here c.requires

pub returns-clause-moved : goal.returns-clause-moved
returns-clause-moved c = elim c.match-get_mut.branch [
  | in-Some w ↦ rw w.self-inside-is (changed (moved_open c.args.file c.args.at c.args.to_file c.args.to_at) c.args.txn w.in-Some.opened.now w.move_puts.new.self c.self.inside.opened (c.get_mut.follows.lender w.move_puts.new.self) _ c.self.view_is
      (sym c.get_mut.ensures.value ∙ ap option_copied_mut w.in-Some.is) w.move_puts.ensures (c.get_mut.follows.holds w.move_puts.new.self))
  | in_default w ↦ rw w.self-inside-is (unchanged (moved_open c.args.file c.args.at c.args.to_file c.args.to_at) c.args.txn c.self.inside.opened c.get_mut.follows.lender-at-none _ c.self.view_is
      (sym c.get_mut.ensures.value ∙ ap option_copied_mut w.in_default.is) c.get_mut.follows.holds-at-none)
]

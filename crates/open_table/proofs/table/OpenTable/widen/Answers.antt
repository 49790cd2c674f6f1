use Rattle.std.proofs.Common.{◌≡◌, None, Option, sym, ap, ◌∙◌, subst, IsSome}
use Rattle.std.specs.Option.{option_copied_mut}
use Rattle.open_table.specs.Tables.{Open, open_at, wider}
use Rattle.open_table.proofs.Maps.{changed, found, put_back, when_err, when_ok}
use Rattle.open_table.proofs.table.OpenTable.widen.Goals as goal
use Rattle.open_table.proofs.table.OpenTable.widen.Goals.{in-Some, in-None}

pub returns-clause-wider : goal.returns-clause-wider
returns-clause-wider c = elim c.match-get_mut.branch [
  | in-Some w ↦ rw (w.result-is, w.self-inside-is) (when_ok w.widen.result (w.widen.new.self ≡ wider w.in-Some.opened.now) _
      (λ is. changed wider c.args.txn w.in-Some.opened.now w.widen.new.self c.self.inside.opened (c.get_mut.follows.lender w.widen.new.self) _ c.self.view_is
      (sym c.get_mut.ensures.value ∙ ap option_copied_mut w.in-Some.is) is (c.get_mut.follows.holds w.widen.new.self))
      w.widen.ensures.wider)
  | in-None w ↦
      let none : open_at c.args.self.now c.args.txn ≡ None = found c.self.inside.opened _ c.args.txn None c.self.view_is (sym c.get_mut.ensures.value ∙ ap option_copied_mut w.in-None.is) in
      let no : IsSome {T = Open} None = subst (λ (o : Option Open). IsSome o) none c.requires in
      absurd (cc)
]

pub returns-clause-same : goal.returns-clause-same
returns-clause-same c = elim c.match-get_mut.branch [
  | in-Some w ↦ rw (w.result-is, w.self-inside-is) (when_err w.widen.result (w.widen.new.self ≡ w.in-Some.opened.now) _
      (λ is. put_back c.args.txn w.in-Some.opened.now w.widen.new.self c.self.inside.opened (c.get_mut.follows.lender w.widen.new.self) _ c.self.view_is
      (sym c.get_mut.ensures.value ∙ ap option_copied_mut w.in-Some.is) is (c.get_mut.follows.holds w.widen.new.self))
      w.widen.ensures.same)
  | in-None w ↦
      let none : open_at c.args.self.now c.args.txn ≡ None = found c.self.inside.opened _ c.args.txn None c.self.view_is (sym c.get_mut.ensures.value ∙ ap option_copied_mut w.in-None.is) in
      let no : IsSome {T = Open} None = subst (λ (o : Option Open). IsSome o) none c.requires in
      absurd (cc)
]

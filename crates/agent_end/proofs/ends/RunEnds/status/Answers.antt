use Rattle.std.proofs.Common.{◌∙◌, true, false, refl, sym}
use Rattle.agent_end.proofs.Having.{status_picked}
use Rattle.agent_end.proofs.ends.RunEnds.status.Goals as goal

pub returns-then-has : goal.returns-then-has
returns-then-has c = status_picked c.args.self.now true _ _ _ _ (sym c.has.ensures ∙ c.if-has.true) refl refl refl refl

pub returns-then-has-2 : goal.returns-then-has-2
returns-then-has-2 c = status_picked c.args.self.now false true _ _ _ (sym c.has.ensures ∙ c.if-has.false) (sym c.has-else-has.ensures ∙ c.if-has-2.true) refl refl refl

pub returns-then-has-3 : goal.returns-then-has-3
returns-then-has-3 c = status_picked c.args.self.now false false true _ _ (sym c.has.ensures ∙ c.if-has.false) (sym c.has-else-has.ensures ∙ c.if-has-2.false) (sym c.has-else-has-2.ensures ∙ c.if-has-3.true) refl refl

pub returns-then-has-4 : goal.returns-then-has-4
returns-then-has-4 c = status_picked c.args.self.now false false false true _ (sym c.has.ensures ∙ c.if-has.false) (sym c.has-else-has.ensures ∙ c.if-has-2.false) (sym c.has-else-has-2.ensures ∙ c.if-has-3.false) (sym c.has-else-has-3.ensures ∙ c.if-has-4.true) refl

pub returns-then-has-5 : goal.returns-then-has-5
returns-then-has-5 c = status_picked c.args.self.now false false false false true (sym c.has.ensures ∙ c.if-has.false) (sym c.has-else-has.ensures ∙ c.if-has-2.false) (sym c.has-else-has-2.ensures ∙ c.if-has-3.false) (sym c.has-else-has-3.ensures ∙ c.if-has-4.false) (sym c.has-else-has-4.ensures ∙ c.if-has-5.true)

pub returns-else-has-5 : goal.returns-else-has-5
returns-else-has-5 c = status_picked c.args.self.now false false false false false (sym c.has.ensures ∙ c.if-has.false) (sym c.has-else-has.ensures ∙ c.if-has-2.false) (sym c.has-else-has-2.ensures ∙ c.if-has-3.false) (sym c.has-else-has-3.ensures ∙ c.if-has-4.false) (sym c.has-else-has-4.ensures ∙ c.if-has-5.false)

use Rattle.std.proofs.Common.{◌∙◌, sym}
use Rattle.plan_judging.proofs.Joins.{add_nothing}
use Rattle.plan_judging.proofs.group.check_kind.Goals as goal

pub returns-then-is_type : goal.returns-then-is_type
returns-then-is_type c = rw (sym c.is_type.ensures ∙ c.if-is_type.true) c.check_failover.ensures

pub returns-then-is_type-2 : goal.returns-then-is_type-2
returns-then-is_type-2 c = rw (sym c.is_type.ensures ∙ c.if-is_type.false, sym c.is_type-2.ensures ∙ c.if-is_type-2.true) c.check_rows.ensures

pub returns-then-is_type-3 : goal.returns-then-is_type-3
returns-then-is_type-3 c = rw (sym c.is_type.ensures ∙ c.if-is_type.false, sym c.is_type-2.ensures ∙ c.if-is_type-2.false, sym c.is_type-3.ensures ∙ c.if-is_type-3.true) c.check_several.ensures

pub returns : goal.returns
returns c = rw (sym c.is_type.ensures ∙ c.if-is_type.false, sym c.is_type-2.ensures ∙ c.if-is_type-2.false, sym c.is_type-3.ensures ∙ c.if-is_type-3.false) (add_nothing _)

use Rattle.std.proofs.Common.{◌∙◌, sym}
use Rattle.plan_judging.proofs.Joins.{add_nothing}
use Rattle.plan_judging.proofs.interceptor.check_kind.Goals as goal

pub returns-then-is_timestamp : goal.returns-then-is_timestamp
returns-then-is_timestamp c = rw (sym c.is_timestamp.ensures ∙ c.if-is_timestamp.true) c.check_rows.ensures

pub returns-then-is_host : goal.returns-then-is_host
returns-then-is_host c = rw (sym c.is_timestamp.ensures ∙ c.if-is_timestamp.false, sym c.is_host.ensures ∙ c.if-is_host.true) c.check_rows-then-is_host.ensures

pub returns-then-is_type : goal.returns-then-is_type
returns-then-is_type c = rw (sym c.is_timestamp.ensures ∙ c.if-is_timestamp.false, sym c.is_host.ensures ∙ c.if-is_host.false, sym c.is_type.ensures ∙ c.if-is_type.true) c.check_rows-then-is_type.ensures

pub returns-then-is_type-2 : goal.returns-then-is_type-2
returns-then-is_type-2 c = rw (sym c.is_timestamp.ensures ∙ c.if-is_timestamp.false, sym c.is_host.ensures ∙ c.if-is_host.false, sym c.is_type.ensures ∙ c.if-is_type.false, sym c.is_type-2.ensures ∙ c.if-is_type-2.true) c.check_rows-then-is_type-2.ensures

pub returns-then-is_type-3 : goal.returns-then-is_type-3
returns-then-is_type-3 c = rw (sym c.is_timestamp.ensures ∙ c.if-is_timestamp.false, sym c.is_host.ensures ∙ c.if-is_host.false, sym c.is_type.ensures ∙ c.if-is_type.false, sym c.is_type-2.ensures ∙ c.if-is_type-2.false, sym c.is_type-3.ensures ∙ c.if-is_type-3.true) c.check_rows-then-is_type-3.ensures

pub returns-then-is_type-4 : goal.returns-then-is_type-4
returns-then-is_type-4 c = rw (sym c.is_timestamp.ensures ∙ c.if-is_timestamp.false, sym c.is_host.ensures ∙ c.if-is_host.false, sym c.is_type.ensures ∙ c.if-is_type.false, sym c.is_type-2.ensures ∙ c.if-is_type-2.false, sym c.is_type-3.ensures ∙ c.if-is_type-3.false, sym c.is_type-4.ensures ∙ c.if-is_type-4.true) c.check_extractor.ensures

pub returns-then-is_type-5 : goal.returns-then-is_type-5
returns-then-is_type-5 c = rw (sym c.is_timestamp.ensures ∙ c.if-is_timestamp.false, sym c.is_host.ensures ∙ c.if-is_host.false, sym c.is_type.ensures ∙ c.if-is_type.false, sym c.is_type-2.ensures ∙ c.if-is_type-2.false, sym c.is_type-3.ensures ∙ c.if-is_type-3.false, sym c.is_type-4.ensures ∙ c.if-is_type-4.false, sym c.is_type-5.ensures ∙ c.if-is_type-5.true) c.check_rows-then-is_type-5.ensures

pub returns : goal.returns
returns c = rw (sym c.is_timestamp.ensures ∙ c.if-is_timestamp.false, sym c.is_host.ensures ∙ c.if-is_host.false, sym c.is_type.ensures ∙ c.if-is_type.false, sym c.is_type-2.ensures ∙ c.if-is_type-2.false, sym c.is_type-3.ensures ∙ c.if-is_type-3.false, sym c.is_type-4.ensures ∙ c.if-is_type-4.false, sym c.is_type-5.ensures ∙ c.if-is_type-5.false) (add_nothing _)

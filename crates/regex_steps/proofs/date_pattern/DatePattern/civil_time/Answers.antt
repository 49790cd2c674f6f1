use Rattle.std.proofs.Common.{◌≡◌, true, sym, ◌∙◌, map}
use Rattle.regex_steps.specs.Dates.{piece, are_once}
use Rattle.regex_steps.proofs.DateTexts.{part_read, part_not_read, parts_read, reads_all, reads_too_few}
use Rattle.regex_steps.proofs.DatePieces.{some_left, none_left}
use Rattle.regex_steps.proofs.date_pattern.DatePattern.civil_time.Goals as goal

pub loop-part-preserved : goal.loop-part-preserved
loop-part-preserved c =
    let once : are_once (map piece c.deref-part-items.result.now) ≡ true = rw c.deref-part-items.ensures.value c.self.invariant in
    part_read c.deref-part-items.result.now c.loop-part.part-index c.part-item.result c.loop-part-test.true c.part-item.is
    c.args.text.now c.loop-part.rest.now _ c.loop-part.time c.loop-part.invariant c.in-Some.next.now c.behind.new.time once c.in-Some.ensures.some

pub returns-in-None-clause-none : goal.returns-in-None-clause-none
returns-in-None-clause-none c =
    let no = part_not_read c.deref-part-items.result.now c.loop-part.part-index c.part-item.result c.loop-part-test.true c.part-item.is
    c.args.text.now c.loop-part.rest.now _ c.loop-part.time c.loop-part.invariant c.in-None.ensures.none in
    rw (← c.self.view_is, ← c.deref-part-items.ensures.value) no

pub returns-then-is_empty-clause-some : goal.returns-then-is_empty-clause-some
returns-then-is_empty-clause-some c =
    let read = parts_read c.deref-part-items.result.now c.loop-part.part-index c.args.text.now c.loop-part.rest.now _ c.loop-part.time c.loop-part-test.false c.loop-part.invariant in
    rw (← c.self.view_is, ← c.deref-part-items.ensures.value) (reads_all (map piece c.deref-part-items.result.now) c.args.text.now c.loop-part.rest.now _ c.loop-part.time (none_left c.loop-part.rest.now (sym c.is_empty.ensures ∙ c.if-is_empty.true)) read)

pub returns-else-is_empty-clause-none : goal.returns-else-is_empty-clause-none
returns-else-is_empty-clause-none c =
    let read = parts_read c.deref-part-items.result.now c.loop-part.part-index c.args.text.now c.loop-part.rest.now _ c.loop-part.time c.loop-part-test.false c.loop-part.invariant in
    rw (← c.self.view_is, ← c.deref-part-items.ensures.value) (reads_too_few (map piece c.deref-part-items.result.now) c.args.text.now c.loop-part.rest.now _ c.loop-part.time (some_left c.loop-part.rest.now (sym c.is_empty.ensures ∙ c.if-is_empty.false)) read)

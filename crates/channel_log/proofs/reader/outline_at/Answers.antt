use Rattle.std.proofs.Common.{arith}
use Rattle.channel_log.proofs.Given.{given_end, given_on, outline_within, outlined_first, whole_at}
use Rattle.channel_log.proofs.reader.outline_at.Goals as goal

pub read_outline-outline-requires : goal.read_outline-outline-requires
read_outline-outline-requires c = whole_at c.args.frame.now c.args.place c.requires.records

pub overflow_add-next : goal.overflow_add-next
overflow_add-next c = let w = outline_within c.args.frame.now c.args.place c.read_outline-outline.result.0 c.read_outline-outline.result.1 c.requires.records c.read_outline-outline.ensures in omega (arith, w.1)

pub bounds-frame-next : goal.bounds-frame-next
bounds-frame-next c = let w = outline_within c.args.frame.now c.args.place c.read_outline-outline.result.0 c.read_outline-outline.result.1 c.requires.records c.read_outline-outline.ensures in omega (arith, w.1)

pub returns-then-frame-next-eq-END-clause-given : goal.returns-then-frame-next-eq-END-clause-given
returns-then-frame-next-eq-END-clause-given c = λ first records count framed each counted same.
    let m = outlined_first c.args.frame.now c.args.place c.read_outline-outline.result.0 c.read_outline-outline.result.1 first records count c.read_outline-outline.ensures framed same in
    let e = given_end c.args.frame.now c.args.place c.read_outline-outline.result.1 first records count each same m.length_is c.if-frame-next-eq-END.true in
    (m.outline_is, e.0, e.1)

pub returns-then-frame-next-eq-END-clause-within : goal.returns-then-frame-next-eq-END-clause-within
returns-then-frame-next-eq-END-clause-within c = (outline_within c.args.frame.now c.args.place c.read_outline-outline.result.0 c.read_outline-outline.result.1 c.requires.records c.read_outline-outline.ensures).1

pub returns-else-frame-next-eq-END-clause-given : goal.returns-else-frame-next-eq-END-clause-given
returns-else-frame-next-eq-END-clause-given c = λ first records count framed each counted same.
    let m = outlined_first c.args.frame.now c.args.place c.read_outline-outline.result.0 c.read_outline-outline.result.1 first records count c.read_outline-outline.ensures framed same in
    let e = given_on c.args.frame.now c.args.place c.read_outline-outline.result.1 first records count each same m.length_is c.if-frame-next-eq-END.false in
    (m.outline_is, e.0, e.1)

pub returns-else-frame-next-eq-END-clause-within : goal.returns-else-frame-next-eq-END-clause-within
returns-else-frame-next-eq-END-clause-within c = let w = outline_within c.args.frame.now c.args.place c.read_outline-outline.result.0 c.read_outline-outline.result.1 c.requires.records c.read_outline-outline.ensures in omega (arith, w.1)

pub returns-then-frame-next-eq-END-clause-above : goal.returns-then-frame-next-eq-END-clause-above
returns-then-frame-next-eq-END-clause-above c = let w = outline_within c.args.frame.now c.args.place c.read_outline-outline.result.0 c.read_outline-outline.result.1 c.requires.records c.read_outline-outline.ensures in omega (arith, w.0)

pub returns-else-frame-next-eq-END-clause-above : goal.returns-else-frame-next-eq-END-clause-above
returns-else-frame-next-eq-END-clause-above c = let w = outline_within c.args.frame.now c.args.place c.read_outline-outline.result.0 c.read_outline-outline.result.1 c.requires.records c.read_outline-outline.ensures in omega (arith, w.0)

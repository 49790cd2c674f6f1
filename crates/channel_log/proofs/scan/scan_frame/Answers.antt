use Rattle.std.proofs.Common.{arith}
use Rattle.record_form.specs.declared.record.Read.TheVariants.{Whole, Part, Bad}
use Rattle.channel_log.proofs.ReadOn.{all_bytes, read_at, read_none, read_more, stands, ends_at, found_frame, wrong_count, cut_short, at_fault, few_read, some_length}
use Rattle.channel_log.proofs.scan.scan_frame.Goals as goal

pub u32_in-told-requires : goal.u32_in-told-requires
u32_in-told-requires c =
    let s = stands c.args.bytes.now c.loop-kind.at c.in-Whole.kind c.in-Whole.length c.loop-kind.invariant.within (all_bytes c.args.bytes.now (λ i. omega (arith, c.type_inv.bytes i))) (read_at c.args.bytes.now c.loop-kind.at (Whole c.in-Whole.kind c.in-Whole.length) c.in-Whole.ensures) in
    omega (arith, s.within, s.long, some_length s.rec)

pub returns-then-told-count : goal.returns-then-told-count
returns-then-told-count c =
    let s = stands c.args.bytes.now c.loop-kind.at c.in-Whole.kind c.in-Whole.length c.loop-kind.invariant.within (all_bytes c.args.bytes.now (λ i. omega (arith, c.type_inv.bytes i))) (read_at c.args.bytes.now c.loop-kind.at (Whole c.in-Whole.kind c.in-Whole.length) c.in-Whole.ensures) in
    let e = ends_at c.args.bytes.now c.loop-kind.at c.in-Whole.kind c.in-Whole.length c.u32_in-told.result s c.if-kind-eq-END.true c.u32_in-told.ensures in
    found_frame c.args.bytes.now c.loop-kind.at c.loop-kind.count c.in-Whole.length c.u32_in-told.result c.loop-kind.invariant e c.if-told-count.true

pub returns-then-kind-eq-END : goal.returns-then-kind-eq-END
returns-then-kind-eq-END c =
    let s = stands c.args.bytes.now c.loop-kind.at c.in-Whole.kind c.in-Whole.length c.loop-kind.invariant.within (all_bytes c.args.bytes.now (λ i. omega (arith, c.type_inv.bytes i))) (read_at c.args.bytes.now c.loop-kind.at (Whole c.in-Whole.kind c.in-Whole.length) c.in-Whole.ensures) in
    let e = ends_at c.args.bytes.now c.loop-kind.at c.in-Whole.kind c.in-Whole.length c.u32_in-told.result s c.if-kind-eq-END.true c.u32_in-told.ensures in
    wrong_count c.args.bytes.now c.loop-kind.at c.loop-kind.count c.in-Whole.length c.u32_in-told.result c.loop-kind.invariant e c.if-told-count.false

pub overflow_add-count : goal.overflow_add-count
overflow_add-count c =
    let s = stands c.args.bytes.now c.loop-kind.at c.in-Whole.kind c.in-Whole.length c.loop-kind.invariant.within (all_bytes c.args.bytes.now (λ i. omega (arith, c.type_inv.bytes i))) (read_at c.args.bytes.now c.loop-kind.at (Whole c.in-Whole.kind c.in-Whole.length) c.in-Whole.ensures) in
    omega (arith, s.within, s.long, some_length s.rec, few_read c.args.bytes.now c.loop-kind.at c.loop-kind.count c.loop-kind.invariant)

pub loop-kind-init : goal.loop-kind-init
loop-kind-init c = read_none c.args.bytes.now

pub loop-kind-smaller : goal.loop-kind-smaller
loop-kind-smaller c =
    let s = stands c.args.bytes.now c.loop-kind.at c.in-Whole.kind c.in-Whole.length c.loop-kind.invariant.within (all_bytes c.args.bytes.now (λ i. omega (arith, c.type_inv.bytes i))) (read_at c.args.bytes.now c.loop-kind.at (Whole c.in-Whole.kind c.in-Whole.length) c.in-Whole.ensures) in
    omega (arith, s.within, s.long, some_length s.rec)

pub loop-kind-preserved : goal.loop-kind-preserved
loop-kind-preserved c =
    let s = stands c.args.bytes.now c.loop-kind.at c.in-Whole.kind c.in-Whole.length c.loop-kind.invariant.within (all_bytes c.args.bytes.now (λ i. omega (arith, c.type_inv.bytes i))) (read_at c.args.bytes.now c.loop-kind.at (Whole c.in-Whole.kind c.in-Whole.length) c.in-Whole.ensures) in
    read_more c.args.bytes.now c.loop-kind.at c.loop-kind.count c.in-Whole.kind c.in-Whole.length c.loop-kind.invariant s c.if-kind-eq-END.false

pub returns-in-Part : goal.returns-in-Part
returns-in-Part c = cut_short c.args.bytes.now c.loop-kind.at c.loop-kind.count c.loop-kind.invariant (read_at c.args.bytes.now c.loop-kind.at Part c.in-Part.ensures)

pub returns-in-Bad : goal.returns-in-Bad
returns-in-Bad c = at_fault c.args.bytes.now c.loop-kind.at c.loop-kind.count c.in-Bad.at c.loop-kind.invariant (read_at c.args.bytes.now c.loop-kind.at (Bad c.in-Bad.at) c.in-Bad.ensures)

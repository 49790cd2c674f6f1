use Rattle.std.proofs.Common.{refl, arith}
use Rattle.std.proofs.lemmas.Result.{err_from_is_err_and}
use Rattle.event_core.specs.Content.{Content, content}
use Rattle.avro_binary.specs.Reading.{part, IsPart}
use Rattle.avro_binary.proofs.Blocks.{further}
use Rattle.avro_binary.proofs.Collect.{event_of, body_fault, too_large, size_of}
use Rattle.avro_binary.proofs.event.event_at.Goals as goal

pub returns-in_err-start : goal.returns-in_err-start
returns-in_err-start c =
    let p = err_from_is_err_and c.from_residual-in_err-start.result c.from_residual-in_err-start.ensures.1 in
    let h = c.in_ok-headers.ensures in
    rw (p.1, p.2) (body_fault c.args.bytes.now c.args.at c.in_ok-headers.body_at h.1.0 c.in_err-start.field-0.0 h.0 h.1.1 c.in_err-start.ensures)

pub returns : goal.returns
returns c =
    let h = c.in_ok-headers.ensures in
    let b = c.in_ok-start.ensures in
    let q : IsPart c.args.bytes.now c.in_ok-headers.body_at c.in_ok-start.end = (let l = b.0 in let m = b.1.0 in omega arith, b.1.1) in (
      further c.args.bytes.now c.args.at c.in_ok-headers.body_at c.in_ok-start.end h.0 q,
      (
        content c.in_ok-headers.headers c.in_ok-body.body.items,
        event_of c.args.bytes.now c.args.at c.in_ok-headers.body_at c.in_ok-start.start c.in_ok-start.end c.in_ok-headers.headers c.in_ok-body.body.items h.1.0 h.0 q h.1.1 h.1.2 b.2 c.in_ok-body.ensures.items,
        (c.in-Ok.ensures.ok, c.in-Ok.ensures.fits),
      ),
    )

pub returns-then-size-gt-MAX_EVENT_SIZE : goal.returns-then-size-gt-MAX_EVENT_SIZE
returns-then-size-gt-MAX_EVENT_SIZE c =
    let h = c.in_ok-headers.ensures in
    let b = c.in_ok-start.ensures in
    let body = part c.args.bytes.now c.in_ok-start.start c.in_ok-start.end in
    let event : Content = content c.in_ok-headers.headers body in
    let q : IsPart c.args.bytes.now c.in_ok-headers.body_at c.in_ok-start.end = (let l = b.0 in let m = b.1.0 in omega arith, b.1.1) in (
      further c.args.bytes.now c.args.at c.in_ok-headers.body_at c.in_ok-start.end h.0 q,
      (
        event,
        event_of c.args.bytes.now c.args.at c.in_ok-headers.body_at c.in_ok-start.start c.in_ok-start.end c.in_ok-headers.headers body h.1.0 h.0 q h.1.1 h.1.2 b.2 refl,
        (omega (arith, c.size.ensures.size, size_of c.args.bytes.now c.in_ok-start.start c.in_ok-start.end c.in_ok-headers.headers body b.1 refl), omega arith),
      ),
    )

pub unreachable-requires : goal.unreachable-requires
unreachable-requires c =
    let large = too_large (content c.in_ok-headers.headers c.in_ok-body.body.items) c.in-Err.field-0 c.in-Err.ensures.err in
    let size = size_of c.args.bytes.now c.in_ok-start.start c.in_ok-start.end c.in_ok-headers.headers c.in_ok-body.body.items c.in_ok-start.ensures.1 c.in_ok-body.ensures.items in
    omega (arith, large, size, c.size.ensures.size)

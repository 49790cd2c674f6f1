use Rattle.std.proofs.Common.{◌++◌, length, sym, ap, arith, ◌∙◌, append_assoc}
use Rattle.event_core.specs.Numbers.{u32_bytes}
use Rattle.event_core.specs.Content.{headers_size}
use Rattle.event_core.proofs.Sizes.{size-sum}
use Rattle.record_form.proofs.PutWrites.{put-spelled, length-headers, bytes_behind}
use Rattle.record_form.proofs.writing.write_put.Goals as goal

pub overflow_cast-len : goal.overflow_cast-len
overflow_cast-len c = omega (arith, size-sum c.args.event.now, c.len.ensures, length-headers c.headers-headers.result.now, ap headers_size c.headers-headers.ensures)

pub put_u32-requires-2 : goal.put_u32-requires-2
put_u32-requires-2 c = omega (arith, size-sum c.args.event.now)

pub put_headers-requires-clause-room : goal.put_headers-requires-clause-room
put_headers-requires-clause-room c = omega (arith, size-sum c.args.event.now, ap headers_size c.headers-headers.ensures)

pub put_headers-requires-clause-short : goal.put_headers-requires-clause-short
put_headers-requires-clause-short c = omega (arith, size-sum c.args.event.now, ap headers_size c.headers-headers.ensures)

pub put_counted-requires-clause-room : goal.put_counted-requires-clause-room
put_counted-requires-clause-room c = omega (arith, size-sum c.args.event.now, ap headers_size c.headers-headers.ensures, ap length c.body.ensures)

pub put_counted-requires-clause-short : goal.put_counted-requires-clause-short
put_counted-requires-clause-short c = omega (arith, size-sum c.args.event.now, ap length c.body.ensures)

pub returns-clause-items : goal.returns-clause-items
returns-clause-items c =
    put-spelled c.args.event.now c.args.txn c.args.into.now.items c.put.new.into.items c.put_u64.new.into.items c.put_u32.new.into.items c.put_u32-2.new.into.items c.put_headers.new.into.items c.put_counted.new.into.items
    c.size-size.result c.len.result c.headers-headers.result.now c.body.result.now
    c.put.ensures.items c.put_u64.ensures.items c.put_u32.ensures.items c.put_u32-2.ensures.items c.put_headers.ensures.items c.put_counted.ensures.items
    c.size-size.ensures.size c.len.ensures c.headers-headers.ensures c.body.ensures

pub returns-clause-len : goal.returns-clause-len
returns-clause-len c = omega (arith, size-sum c.args.event.now, ap headers_size c.headers-headers.ensures, ap length c.body.ensures)

pub returns-clause-fields : goal.returns-clause-fields
returns-clause-fields c = (
  c.ranges.txn.fits,
  c.size-size.ensures.well_formed,
  bytes_behind (c.put_headers.new.into.items ++ u32_bytes (length c.body.result.now)) c.args.event.now.body c.put_counted.new.into.items
      (c.put_counted.ensures.items ∙ sym (append_assoc c.put_headers.new.into.items (u32_bytes (length c.body.result.now)) c.body.result.now) ∙ ap (λ b. (c.put_headers.new.into.items ++ u32_bytes (length c.body.result.now)) ++ b) c.body.ensures)
      (λ i within. omega (arith, c.type_inv.into i 0 within)),
)

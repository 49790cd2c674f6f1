use Rattle.std.proofs.Common.{◌≡◌, ◌-◌, length, ap, arith, length-append}
use Rattle.avro_frame.specs.Pack.{u32_bytes, head, begun}
use Rattle.avro_frame.proofs.Bytes.{length-u32}
use Rattle.avro_frame.proofs.Walk.{length-head}
use Rattle.avro_frame.proofs.Ending.{as_bytes, ended}
use Rattle.avro_frame.proofs.write.end_pack.Goals as goal

pub returns : goal.returns
returns c = λ serial payload is.
    let len : c.len.result - 12 ≡ length payload = omega (arith, c.len.ensures, ap length is, length-append (head serial 1) (u32_bytes 0), length-append (begun serial) payload, length-head serial 1, length-u32 0) in
    ended c.args.bytes.now.items c.to_be_bytes.result serial payload (as_bytes c.to_be_bytes.result (c.len.result - 12) (length payload) c.to_be_bytes.ensures len) is

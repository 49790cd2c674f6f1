use Rattle.std.proofs.Common.{◌≡◌, ◌∙◌, ◌++◌, ap, take, drop, sym, length, arith, length-append}
use Rattle.std.proofs.lemmas.List.{take_at, drop_at}
use Rattle.avro_frame.specs.Pack.{buffer}
use Rattle.avro_frame.proofs.Walk.{length-buffer, first_of}
use Rattle.avro_frame.proofs.pending.first_buffer.Goals as goal

pub returns-then-bytes-lt4-clause-found : goal.returns-then-bytes-lt4-clause-found
returns-then-bytes-lt4-clause-found c first rest small e =
    absurd (omega (arith, ap length e, length-append (buffer first) rest, length-buffer first))

pub returns-then-rest-len-clause-found : goal.returns-then-rest-len-clause-found
returns-then-rest-len-clause-found c first rest small e =
    let k = first_of c.args.bytes.now first rest c.number_at-len.result small c.number_at-len.type_inv c.number_at-len.ensures e in
    absurd (omega (arith, k.0, ap length (c.split_at.ensures.back ∙ k.1), length-append first rest))

pub returns-clause-found : goal.returns-clause-found
returns-clause-found c first rest small e =
    let k = first_of c.args.bytes.now first rest c.number_at-len.result small c.number_at-len.type_inv c.number_at-len.ensures e in
    let behind : c.split_at.result.1.now ≡ first ++ rest = c.split_at.ensures.back ∙ k.1 in (
      c.split_at-2.ensures.front ∙ ap (take c.number_at-len.result) behind ∙ take_at first rest c.number_at-len.result (sym k.0),
      c.split_at-2.ensures.back ∙ ap (drop c.number_at-len.result) behind ∙ drop_at first rest c.number_at-len.result (sym k.0),
    )

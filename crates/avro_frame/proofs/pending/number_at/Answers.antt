use Rattle.std.proofs.Common.{◌≡◌, ◌∙◌, ap, take, drop, arith}
use Rattle.avro_frame.proofs.Bytes.{IsBytes, IsBytes-drop, IsBytes-take, u32_back}
use Rattle.avro_frame.proofs.pending.number_at.Goals as goal

pub returns : goal.returns
returns c =
    let front : c.split_at-2.result.0.now ≡ take 4 (drop c.args.at c.args.bytes.now) = c.split_at-2.ensures.front ∙ ap (take 4) c.split_at.ensures.back in
    let fits : IsBytes c.split_at-2.result.0.now = rw front (IsBytes-take 4 (drop c.args.at c.args.bytes.now) (IsBytes-drop c.args.at c.args.bytes.now (λ i. omega (arith, c.type_inv.bytes i)))) in
    u32_back c.split_at-2.result.0.now c.from_be_bytes.result c.split_at-2.ensures.front_len fits c.from_be_bytes.ensures ∙ front

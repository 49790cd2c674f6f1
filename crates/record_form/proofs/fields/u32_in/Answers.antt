use Rattle.std.proofs.Common.{◌≡◌, ◌+◌, ◌-◌, take, drop, arith, ap, ◌∙◌}
use Rattle.byteorder.specs.Endian.{big_number}
use Rattle.record_form.proofs.Values.{big_4-take}
use Rattle.record_form.proofs.fields.u32_in.Goals as goal

pub returns : goal.returns
returns c =
    let width : c.args.at + 4 - c.args.at ≡ 4 = omega arith in
    c.read_u32.ensures ∙ ap (λ n. big_number 4 (take n (drop c.args.at c.args.bytes.now))) width ∙ big_4-take (drop c.args.at c.args.bytes.now)

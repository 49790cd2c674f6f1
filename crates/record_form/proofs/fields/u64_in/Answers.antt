use Rattle.std.proofs.Common.{◌≡◌, ◌+◌, ◌-◌, take, drop, arith, ap, ◌∙◌}
use Rattle.byteorder.specs.Endian.{big_number}
use Rattle.record_form.proofs.Values.{big_8-take}
use Rattle.record_form.proofs.fields.u64_in.Goals as goal

pub returns : goal.returns
returns c =
    let width : c.args.at + 8 - c.args.at ≡ 8 = omega arith in
    c.read_u64.ensures ∙ ap (λ n. big_number 8 (take n (drop c.args.at c.args.bytes.now))) width ∙ big_8-take (drop c.args.at c.args.bytes.now)

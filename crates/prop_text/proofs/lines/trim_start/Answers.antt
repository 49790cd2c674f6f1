use Rattle.prop_text.proofs.LineSteps.{after_white_space}
use Rattle.prop_text.proofs.lines.trim_start.Goals as goal

pub range_from-requires : goal.range_from-requires
range_from-requires c = λ some.
    after_white_space c.args.text.now c.white_space_len-start.result c.utf8.text
    (rw c.as_bytes.ensures.value at c.white_space_len-start.ensures.value)
    (rw c.as_bytes.ensures.value at c.white_space_len-start.ensures.within) some

use Rattle.std.proofs.Common.{◌≡◌, ◌+◌, drop, ap, sym, ◌∙◌, arith}
use Rattle.std.proofs.lemmas.List.{take_rest, drop-drop, length-drop}
use Rattle.prop_text.specs.Pairs.{key_len, key_step}
use Rattle.prop_text.proofs.PairSteps.{key_len_step, key_len_end, key_step_positive}
use Rattle.prop_text.proofs.pairs.key_len.Goals as goal

pub loop-at-smaller : goal.loop-at-smaller
loop-at-smaller c =
    let line = c.args.line.now in
    let rest = drop c.loop-at.at line in
    let positive = key_step_positive rest (omega (arith, length-drop c.loop-at.at line)) in
    let step = rw (take_rest line c.loop-at.at) at c.key_step-at.ensures.value in
    omega (arith, positive, step)

pub loop-at-preserved : goal.loop-at-preserved
loop-at-preserved c =
    let line = c.args.line.now in
    let at = c.loop-at.at in
    let step = rw (take_rest line at) at c.key_step-at.ensures.value in
    let more = key_len_step line at c.loop-at-test.true (sym c.ends_key.ensures ∙ c.if-not-ends_key.true) in
    let there = drop-drop (key_step (drop at line)) at line in
    let same : key_len (drop (at + c.key_step-at.result) line) ≡ key_len (drop (key_step (drop at line)) (drop at line)) = ap (λ k. key_len (drop (at + k) line)) step ∙ ap key_len (sym there) in
    (omega (arith, c.key_step-at.ensures.within), omega (arith, more, same, step, c.loop-at.invariant.1))

pub returns-else-not-ends_key-clause-value : goal.returns-else-not-ends_key-clause-value
returns-else-not-ends_key-clause-value c =
    let none = key_len_end c.args.line.now c.loop-at.at c.loop-at-test.true (sym c.ends_key.ensures ∙ c.if-not-ends_key.false) in
    omega (arith, none, c.loop-at.invariant.1)

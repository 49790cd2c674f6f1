use Rattle.std.proofs.Common.{◌+◌, sym, ◌∙◌, arith}
use Rattle.std.proofs.lemmas.List.{take_rest, drop-drop, length-drop}
use Rattle.prop_text.proofs.PairSteps.{unescaped_plain, unescaped_escape}
use Rattle.prop_text.proofs.pairs.unescaped.Goals as goal

pub loop-at-preserved-in-Some : goal.loop-at-preserved-in-Some
loop-at-preserved-in-Some c =
    let raw = c.args.raw.now in
    let at = c.loop-at.at in
    let adds = rw (c.in-Some.is, take_rest raw (at + 1)) at c.in_ok-taken.ensures in
    let step = unescaped_escape c.loop-at.out.items raw adds.0 at c.in-Some.taken c.loop-at-test.true c.if-byte-eq92.true adds.1 in
    (omega (arith, adds.3, length-drop (at + 1) raw), rw (adds.2, ← drop-drop c.in-Some.taken (at + 1) raw) (sym step ∙ c.loop-at.invariant.1))

pub loop-at-preserved : goal.loop-at-preserved
loop-at-preserved c =
    let step = unescaped_plain c.loop-at.out.items c.args.raw.now c.loop-at.at c.loop-at-test.true c.if-byte-eq92.false in
    (omega arith, rw c.in_ok-push.ensures.items (sym step ∙ c.loop-at.invariant.1))

use Rattle.std.proofs.Common.{◌≡◌, ◌+◌, ◌-◌, ◌++◌, ◌∷◌, [], length, take, drop, Some, sym, ap, arith, ◌∙◌, length-drop}
use Rattle.std.proofs.lemmas.List.{length-take-le}
use Rattle.std.specs.Option.{option_copied}
use Rattle.event_core.specs.Content.{content}
use Rattle.event_core.proofs.Sizes.{size-sum}
use Rattle.record_form.specs.declared.record.Rec.TheVariants.{Put}
use Rattle.record_form.specs.Grammar.{Complete, kind_grammar, reads, headers_grammar, u32_of}
use Rattle.record_form.proofs.Steps.{after_key}
use Rattle.record_form.proofs.Inversions.{whole_put, whole_body}
use Rattle.record_form.proofs.Loops.{builds_key, builds_none, builds_more, builds_body, no_stop, whole_outcome}
use Rattle.record_form.proofs.building.put_of.Goals as goal

pub u64_in-txn-requires : goal.u64_in-txn-requires
u64_in-txn-requires c =
    let o = whole_outcome (reads (kind_grammar 1) (drop 1 c.args.bytes.now) 1) c.requires.whole in
    let w = whole_put c.args.bytes.now o.0 o.1.0 c.requires.some o.1.1 in
    omega (arith, w.there)

pub u32_in-size-requires : goal.u32_in-size-requires
u32_in-size-requires c =
    let o = whole_outcome (reads (kind_grammar 1) (drop 1 c.args.bytes.now) 1) c.requires.whole in
    let w = whole_put c.args.bytes.now o.0 o.1.0 c.requires.some o.1.1 in
    omega (arith, w.there)

pub u32_in-number-requires : goal.u32_in-number-requires
u32_in-number-requires c =
    let o = whole_outcome (reads (kind_grammar 1) (drop 1 c.args.bytes.now) 1) c.requires.whole in
    let w = whole_put c.args.bytes.now o.0 o.1.0 c.requires.some o.1.1 in
    omega (arith, w.there)

pub loop-init : goal.loop-init
loop-init c =
    let bytes = c.args.bytes.now in
    let o = whole_outcome (reads (kind_grammar 1) (drop 1 bytes) 1) c.requires.whole in
    let w = whole_put bytes o.0 o.1.0 c.requires.some o.1.1 in
    builds_none bytes c.u64_in-txn.result c.u32_in-size.result c.u32_in-number.result c.new-headers.result w.there c.u32_in-size.ensures (omega (arith, w.size, c.u32_in-size.ensures)) c.u32_in-number.ensures c.u64_in-txn.ensures c.new-headers.ensures

pub unreachable-requires : goal.unreachable-requires
unreachable-requires c =
    let bytes = c.args.bytes.now in
    let n = c.u32_in-number.result - (c.loop.counter + 1) in
    let end = 13 + c.u32_in-size.result in
    no_stop (reads (kind_grammar 1) (drop 1 bytes) 1) c.in_default.field-0
    (builds_key bytes c.u64_in-txn.result end c.u32_in-number.result c.loop.counter c.loop.at (option_copied c.loop.last) c.loop.headers c.loop.invariant c.loop-test.true
    ∙ c.in_default.ensures.reads (after_key n c.u64_in-txn.result end c.loop.at c.loop.headers))
    c.requires.whole

pub text_at-requires-in-loop-clause-low : goal.text_at-requires-in-loop-clause-low
text_at-requires-in-loop-clause-low c =
    let o = whole_outcome (reads (kind_grammar 1) (drop 1 c.args.bytes.now) 1) c.requires.whole in
    let w = whole_put c.args.bytes.now o.0 o.1.0 c.requires.some o.1.1 in
    omega (arith, w.size, c.u32_in-size.ensures, c.in-Ok.ensures.inside)

pub unreachable-requires-in_default-text_at : goal.unreachable-requires-in_default-text_at
unreachable-requires-in_default-text_at c =
    let bytes = c.args.bytes.now in
    let n = c.u32_in-number.result - (c.loop.counter + 1) in
    let end = 13 + c.u32_in-size.result in
    let key = c.in-Ok.key.now in
    no_stop (reads (kind_grammar 1) (drop 1 bytes) 1) c.in_default-text_at.field-0
    (builds_key bytes c.u64_in-txn.result end c.u32_in-number.result c.loop.counter c.loop.at (option_copied c.loop.last) c.loop.headers c.loop.invariant c.loop-test.true
    ∙ c.in-Ok.ensures.reads (after_key n c.u64_in-txn.result end c.loop.at c.loop.headers)
    ∙ c.in_default-text_at.ensures.reads (λ value. headers_grammar n c.u64_in-txn.result end (c.loop.at + 4 + length key + 4 + length value) (Some key) (c.loop.headers ++ (key, value) ∷ [])))
    c.requires.whole

pub loop-preserved : goal.loop-preserved
loop-preserved c =
    let bytes = c.args.bytes.now in
    let o = whole_outcome (reads (kind_grammar 1) (drop 1 bytes) 1) c.requires.whole in
    let w = whole_put bytes o.0 o.1.0 c.requires.some o.1.1 in
    builds_more bytes c.u64_in-txn.result (13 + c.u32_in-size.result) c.u32_in-number.result c.loop.counter c.loop.at (option_copied c.loop.last) c.loop.headers c.set.new.self c.in-Ok.key.now c.in-Ok-text_at.value.now
    c.loop.invariant c.loop-test.true c.in-Ok.ensures.reads c.in-Ok-text_at.ensures.reads c.in-Ok-text_at.ensures.within (omega (arith, w.size, c.u32_in-size.ensures, c.in-Ok-text_at.ensures.inside)) c.in-Ok.ensures.above c.in_ok-set.ensures.ok

pub part-requires-clause-ordered : goal.part-requires-clause-ordered
part-requires-clause-ordered c =
    let bytes = c.args.bytes.now in
    let end = 13 + c.u32_in-size.result in
    let o = whole_outcome (reads (kind_grammar 1) (drop 1 bytes) 1) c.requires.whole in
    let path = builds_body bytes c.u64_in-txn.result end c.u32_in-number.result c.loop.counter c.loop.at (option_copied c.loop.last) c.loop.headers c.loop.invariant c.loop-test.false in
    let b = whole_body c.u64_in-txn.result end c.loop.at c.loop.headers bytes o.0 o.1.0 c.loop.invariant.within (sym path ∙ o.1.1) in
    omega (arith, b.ends)

pub part-requires-clause-within : goal.part-requires-clause-within
part-requires-clause-within c =
    let bytes = c.args.bytes.now in
    let end = 13 + c.u32_in-size.result in
    let o = whole_outcome (reads (kind_grammar 1) (drop 1 bytes) 1) c.requires.whole in
    let path = builds_body bytes c.u64_in-txn.result end c.u32_in-number.result c.loop.counter c.loop.at (option_copied c.loop.last) c.loop.headers c.loop.invariant c.loop-test.false in
    (whole_body c.u64_in-txn.result end c.loop.at c.loop.headers bytes o.0 o.1.0 c.loop.invariant.within (sym path ∙ o.1.1)).long

pub event_of-requires : goal.event_of-requires
event_of-requires c =
    let bytes = c.args.bytes.now in
    let end = 13 + c.u32_in-size.result in
    let o = whole_outcome (reads (kind_grammar 1) (drop 1 bytes) 1) c.requires.whole in
    let w = whole_put bytes o.0 o.1.0 c.requires.some o.1.1 in
    let path = builds_body bytes c.u64_in-txn.result end c.u32_in-number.result c.loop.counter c.loop.at (option_copied c.loop.last) c.loop.headers c.loop.invariant c.loop-test.false in
    let b = whole_body c.u64_in-txn.result end c.loop.at c.loop.headers bytes o.0 o.1.0 c.loop.invariant.within (sym path ∙ o.1.1) in
    let body : length c.part.result.now ≡ end - (c.loop.at + 4) = ap length c.part.ensures ∙ length-take-le (end - (c.loop.at + 4)) (drop (c.loop.at + 4) bytes) (omega (arith, length-drop (c.loop.at + 4) bytes, b.long)) in
    omega (arith, size-sum (content c.loop.headers c.part.result.now), body, w.size, c.u32_in-size.ensures, c.loop.invariant.sizes, b.ends)

pub returns : goal.returns
returns c =
    let bytes = c.args.bytes.now in
    let end = 13 + c.u32_in-size.result in
    let rest = drop (c.loop.at + 4) bytes in
    let txn = c.u64_in-txn.result in
    let o = whole_outcome (reads (kind_grammar 1) (drop 1 bytes) 1) c.requires.whole in
    let path = builds_body bytes txn end c.u32_in-number.result c.loop.counter c.loop.at (option_copied c.loop.last) c.loop.headers c.loop.invariant c.loop-test.false in
    let b = whole_body txn end c.loop.at c.loop.headers bytes o.0 o.1.0 c.loop.invariant.within (sym path ∙ o.1.1) in
    let n : u32_of (take 4 (drop c.loop.at bytes)) ≡ end - (c.loop.at + 4) = omega (arith, b.ends) in
    (o.1.0, o.1.1 ∙ ap (λ r. Complete r o.1.0) (b.is ∙ ap (λ m. Put txn (content c.loop.headers (take m rest))) n ∙ ap (λ x. Put txn (content c.loop.headers x)) (sym c.part.ensures) ∙ ap (Put txn) (sym c.in_ok-event.ensures)))

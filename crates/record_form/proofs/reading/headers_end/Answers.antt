use Rattle.std.proofs.Common.{◌≡◌, ◌+◌, ◌-◌, ◌++◌, ◌∷◌, [], length, drop, Some, arith, ap, ◌∙◌}
use Rattle.std.specs.Option.{option_copied}
use Rattle.std.proofs.lemmas.Result.{err_from_is_err_and}
use Rattle.record_form.specs.Grammar.{reads, headers_grammar}
use Rattle.record_form.proofs.Steps.{after_key, headers-none}
use Rattle.record_form.proofs.Loops.{reads_key}
use Rattle.record_form.proofs.reading.headers_end.Goals as goal

pub returns-in_err-key-clause-reads : goal.returns-in_err-key-clause-reads
returns-in_err-key-clause-reads c txn =
    let p = err_from_is_err_and c.from_residual.result c.from_residual.ensures.1 in
    let k = reads_key c.args.bytes.now c.args.end c.args.start c.args.number c.loop.counter c.loop.at (option_copied c.loop.last) c.loop.invariant c.loop-test.true txn in
    rw (p.1, p.2) (k.1 ∙ c.in_err-key.ensures.reads (after_key (c.args.number - (c.loop.counter + 1)) txn c.args.end c.loop.at k.0))

pub returns-in_err-value-clause-reads : goal.returns-in_err-value-clause-reads
returns-in_err-value-clause-reads c txn =
    let p = err_from_is_err_and c.from_residual-in_err-value.result c.from_residual-in_err-value.ensures.1 in
    let n = c.args.number - (c.loop.counter + 1) in
    let key = c.in_ok-key.key.now in
    let k = reads_key c.args.bytes.now c.args.end c.args.start c.args.number c.loop.counter c.loop.at (option_copied c.loop.last) c.loop.invariant c.loop-test.true txn in
    rw (p.1, p.2) (k.1 ∙ c.in_ok-key.ensures.reads (after_key n txn c.args.end c.loop.at k.0)
    ∙ c.in_err-value.ensures.reads (λ value. headers_grammar n txn c.args.end (c.loop.at + 4 + length key + 4 + length value) (Some key) (k.0 ++ (key, value) ∷ [])))

pub loop-preserved : goal.loop-preserved
loop-preserved c =
    let n = c.args.number - (c.loop.counter + 1) in
    let key = c.in_ok-key.key.now in
    let value = c.in_ok-value.value.now in
    record {
      within = c.in_ok-value.ensures.within;
      low = omega (arith, c.in_ok-value.ensures.inside);
      same = λ txn.
          let k = reads_key c.args.bytes.now c.args.end c.args.start c.args.number c.loop.counter c.loop.at (option_copied c.loop.last) c.loop.invariant c.loop-test.true txn in (
            k.0 ++ (key, value) ∷ [],
            k.1 ∙ c.in_ok-key.ensures.reads (after_key n txn c.args.end c.loop.at k.0)
                ∙ c.in_ok-value.ensures.reads (λ value. headers_grammar n txn c.args.end (c.loop.at + 4 + length key + 4 + length value) (Some key) (k.0 ++ (key, value) ∷ [])),
          );
    }

pub returns-clause-reads : goal.returns-clause-reads
returns-clause-reads c txn =
    let none : c.args.number - c.loop.counter ≡ 0 = omega arith in
    let here = c.loop.invariant.same txn in
    let last = option_copied c.loop.last in (
      here.0,
      here.1 ∙ ap (λ n. reads (headers_grammar n txn c.args.end c.loop.at last here.0) (drop c.loop.at c.args.bytes.now) c.loop.at) none
          ∙ ap (λ g. reads g (drop c.loop.at c.args.bytes.now) c.loop.at) (headers-none txn c.args.end c.loop.at last here.0),
    )

use Rattle.std.proofs.Common.{◌≡◌, drop, sym, subst, arith}
use Rattle.record_form.specs.Answers.{Answers}
use Rattle.record_form.specs.Grammar.{reads, kind_grammar}
use Rattle.record_form.proofs.KindEnds.{Ends, take-answers, rollback-answers, commit_put-answers, commit_take-answers, end-answers}
use Rattle.record_form.proofs.reading.record_end.Goals as goal

pub returns-in-2-clause-reads : goal.returns-in-2-clause-reads
returns-in-2-clause-reads c =
    let bytes = c.args.bytes.now in
    subst (λ k. Answers c.skip.result (reads (kind_grammar k) (drop 1 bytes) 1) (Ends k bytes)) (sym c.in-2.is) (take-answers bytes c.skip.result c.requires.some c.skip.ensures)

pub returns-in-3-clause-reads : goal.returns-in-3-clause-reads
returns-in-3-clause-reads c =
    let bytes = c.args.bytes.now in
    subst (λ k. Answers c.skip-in-3.result (reads (kind_grammar k) (drop 1 bytes) 1) (Ends k bytes)) (sym c.in-3.is) (rollback-answers bytes c.skip-in-3.result c.requires.some c.skip-in-3.ensures)

pub returns-in-4-clause-reads : goal.returns-in-4-clause-reads
returns-in-4-clause-reads c =
    let bytes = c.args.bytes.now in
    subst (λ k. Answers c.count_end.result (reads (kind_grammar k) (drop 1 bytes) 1) (Ends k bytes)) (sym c.in-4.is) (commit_put-answers bytes c.count_end.result c.requires.some c.count_end.ensures)

pub returns-in-5-clause-reads : goal.returns-in-5-clause-reads
returns-in-5-clause-reads c =
    let bytes = c.args.bytes.now in
    subst (λ k. Answers c.count_end-in-5.result (reads (kind_grammar k) (drop 1 bytes) 1) (Ends k bytes)) (sym c.in-5.is) (commit_take-answers bytes c.count_end-in-5.result c.requires.some c.count_end-in-5.ensures)

pub returns-in_default-clause-reads : goal.returns-in_default-clause-reads
returns-in_default-clause-reads c =
    let bytes = c.args.bytes.now in
    let six : c.args.kind ≡ 6 = omega (arith, c.in_default) in
    subst (λ k. Answers c.count_end-in_default.result (reads (kind_grammar k) (drop 1 bytes) 1) (Ends k bytes)) (sym six) (end-answers bytes c.count_end-in_default.result c.requires.some c.count_end-in_default.ensures)

use Rattle.std.proofs.Common.{◌≡◌, ◌+◌, ℕ, List, take, drop, refl, ◌∙◌}
use Rattle.std.proofs.lemmas.Result.{err_from_is_err_and}
use Rattle.event_core.specs.Content.{content}
use Rattle.record_form.specs.declared.record.Rec.TheVariants.{Put}
use Rattle.record_form.specs.Grammar.{Complete, u64_of, reads, body_grammar, kind_grammar}
use Rattle.record_form.proofs.Steps.{put-cut, put-fault, put-number-cut, put-headers}
use Rattle.record_form.proofs.KindEnds.{Ends, answers-through}
use Rattle.record_form.proofs.reading.put_end.Goals as goal

pub returns-in_err-size-clause-reads : goal.returns-in_err-size-clause-reads
returns-in_err-size-clause-reads c =
    let p = err_from_is_err_and c.from_residual.result c.from_residual.ensures.1 in
    rw (p.1, p.2, c.in_err-size.ensures.1) (put-cut c.args.bytes.now c.requires c.in_err-size.ensures.0)

pub returns-then-size-gt-MAX_PUT_SIZE-clause-reads : goal.returns-then-size-gt-MAX_PUT_SIZE-clause-reads
returns-then-size-gt-MAX_PUT_SIZE-clause-reads c = put-fault c.args.bytes.now c.in_ok-size.size c.in_ok-size.ensures.0 c.in_ok-size.ensures.1 c.if-size-gt-MAX_PUT_SIZE.true

pub returns-in_err-number-clause-reads : goal.returns-in_err-number-clause-reads
returns-in_err-number-clause-reads c =
    let p = err_from_is_err_and c.from_residual-in_err-number.result c.from_residual-in_err-number.ensures.1 in
    rw (p.1, p.2, c.in_err-number.ensures.1) (put-number-cut c.args.bytes.now c.in_ok-size.size c.in_ok-size.ensures.0 c.in_ok-size.ensures.1 c.if-size-gt-MAX_PUT_SIZE.false c.in_err-number.ensures.0)

pub returns-in_err-body_at-clause-reads : goal.returns-in_err-body_at-clause-reads
returns-in_err-body_at-clause-reads c =
    let p = err_from_is_err_and c.from_residual-in_err-body_at.result c.from_residual-in_err-body_at.ensures.1 in
    let txn = u64_of (take 8 (drop 1 c.args.bytes.now)) in
    rw (p.1, p.2) (put-headers c.args.bytes.now c.in_ok-size.size c.in_ok-number.number c.in_ok-number.ensures.0 c.in_ok-size.ensures.1 c.if-size-gt-MAX_PUT_SIZE.false c.in_ok-number.ensures.1 ∙ c.in_err-body_at.ensures.reads txn)

pub returns-clause-reads : goal.returns-clause-reads
returns-clause-reads c =
    let bytes = c.args.bytes.now in
    let txn = u64_of (take 8 (drop 1 bytes)) in
    let end = 13 + c.in_ok-size.size in
    let at = c.in_ok-body_at.body_at in
    let there = c.in_ok-body_at.ensures.reads txn in
    let path = put-headers bytes c.in_ok-size.size c.in_ok-number.number c.in_ok-number.ensures.0 c.in_ok-size.ensures.1 c.if-size-gt-MAX_PUT_SIZE.false c.in_ok-number.ensures.1 ∙ there.1 in
    answers-through
    (λ stop. (body : List ℕ) × (reads (body_grammar txn end at there.0) (drop at bytes) at ≡ Complete (Put txn (content there.0 body)) stop)) (Ends 1 bytes)
    c.body_end.result (reads (kind_grammar 1) (drop 1 bytes) 1) (reads (body_grammar txn end at there.0) (drop at bytes) at) path
    (λ stop found. (Put txn (content there.0 found.0), path ∙ found.1, refl))
    (c.body_end.ensures.reads txn there.0)

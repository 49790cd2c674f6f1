use Rattle.std.proofs.Common.{List, sym, ap, ◌∙◌, map, drop}
use Rattle.std.proofs.lemmas.Result.{err_from_is_err_and}
use Rattle.regex_steps.specs.declared.date_pattern.Part.{Part}
use Rattle.regex_steps.specs.Dates.{piece, repeats}
use Rattle.regex_steps.proofs.DatePieces.{none_behind, repeated_behind, front_more, front_none, whole_is, some_left, none_left}
use Rattle.regex_steps.proofs.date_pattern.DatePattern.read.Goals as goal

pub loop-rest-init : goal.loop-rest-init
loop-rest-init c = rw c.new-parts.ensures.items (front_none _ _ (sym c.as_bytes-rest.ensures.value))

pub returns-in_err-part-clause-err : goal.returns-in_err-part-clause-err
returns-in_err-part-clause-err c =
    let p = err_from_is_err_and c.from_residual.result c.from_residual.ensures.1 in
    let front = c.loop-rest.invariant in
    rw (p.1, p.2) (λ bad. none_behind (map piece c.loop-rest.parts.items) c.args.text.now c.loop-rest.rest.now front.is front.right (some_left c.loop-rest.rest.now (sym c.is_empty.ensures ∙ c.loop-rest-test.true)) (c.in_err-part.ensures.err bad))

pub returns-then-is_repeated-clause-err : goal.returns-then-is_repeated-clause-err
returns-then-is_repeated-clause-err c =
    let front = c.loop-rest.invariant in
    λ bad. repeated_behind (map piece c.loop-rest.parts.items) (piece c.in_ok-part.part) c.args.text.now c.loop-rest.rest.now (drop c.in_ok-part.len c.loop-rest.rest.now) front.is front.right c.in_ok-part.ensures.ok.0 c.in_ok-part.ensures.ok.1
    (ap (λ (ps : List Part). repeats (map piece ps) (piece c.in_ok-part.part)) (sym c.as_slice.ensures.value) ∙ sym c.is_repeated.ensures ∙ c.if-is_repeated.true)

pub loop-rest-preserved : goal.loop-rest-preserved
loop-rest-preserved c =
    let fresh = ap (λ (ps : List Part). repeats (map piece ps) (piece c.in_ok-part.part)) (sym c.as_slice.ensures.value) ∙ sym c.is_repeated.ensures ∙ c.if-is_repeated.false in
    let more = front_more c.loop-rest.parts.items c.in_ok-part.part c.args.text.now c.loop-rest.rest.now (drop c.in_ok-part.len c.loop-rest.rest.now) c.loop-rest.invariant c.in_ok-part.ensures.ok.0 c.in_ok-part.ensures.ok.1 fresh in
    rw (c.split_at.ensures.back, c.in_ok-push.ensures.items) more

pub returns-clause-ok : goal.returns-clause-ok
returns-clause-ok c = whole_is c.args.text.now c.loop-rest.rest.now (map piece c.loop-rest.parts.items) c.loop-rest.invariant (none_left c.loop-rest.rest.now (sym c.is_empty.ensures ∙ c.loop-rest-test.false))

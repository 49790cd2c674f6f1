use Rattle.std.proofs.Common.{◌≡◌, false, sym, ap, arith, ◌∙◌}
use Rattle.record_form.specs.declared.record.Read.TheVariants.{Whole}
use Rattle.record_form.specs.Answers.{stopped}
use Rattle.record_form.specs.Grammar.{as_read, is_kind}
use Rattle.record_form.proofs.Steps.{first_none, is_kind-zero, is_kind-high, read-kind, read-wrong, record-cut}
use Rattle.record_form.proofs.reading.read_record.Goals as goal
use Rattle.record_form.proofs.reading.read_record.Goals.{then-kind-eq0-via-then-kind-eq0, then-kind-eq0-via-else-kind-eq0+then-kind-gt-END}

pub returns-in_default : goal.returns-in_default
returns-in_default c = sym (ap as_read (record-cut c.args.bytes.now (first_none c.args.bytes.now c.in_default.ensures.value)))

pub returns-then-kind-eq0 : goal.returns-then-kind-eq0
returns-then-kind-eq0 c =
    let kind = c.in-Some.field-0.now in
    let wrong : is_kind kind ≡ false = elim c.then-kind-eq0.branch [
      | then-kind-eq0-via-then-kind-eq0 w ↦ is_kind-zero kind w.if-kind-eq0.true
      | then-kind-eq0-via-else-kind-eq0+then-kind-gt-END w ↦ is_kind-high kind w.if-kind-gt-END.true
    ] in
    sym (ap as_read (read-wrong c.args.bytes.now kind c.in-Some.ensures.value wrong))

pub returns-in-Ok : goal.returns-in-Ok
returns-in-Ok c =
    let found = c.in-Ok.ensures.reads in
    ap (λ k. Whole k c.in-Ok.end) (sym found.2) ∙ sym (ap as_read (read-kind c.args.bytes.now c.in-Some.field-0.now c.in-Some.ensures.value (omega arith) c.if-kind-gt-END.false ∙ found.1))

pub returns-in-Err-Part : goal.returns-in-Err-Part
returns-in-Err-Part c =
    sym (ap as_read (read-kind c.args.bytes.now c.in-Some.field-0.now c.in-Some.ensures.value (omega arith) c.if-kind-gt-END.false ∙ c.in-Err-Part.ensures.reads ∙ ap stopped c.in-Err-Part.field-0-is))

pub returns-in-Err-Bad : goal.returns-in-Err-Bad
returns-in-Err-Bad c =
    sym (ap as_read (read-kind c.args.bytes.now c.in-Some.field-0.now c.in-Some.ensures.value (omega arith) c.if-kind-gt-END.false ∙ c.in-Err-Bad.ensures.reads ∙ ap stopped c.in-Err-Bad.field-0-is))

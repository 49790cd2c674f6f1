use Rattle.std.proofs.Common.{◌≡◌, ℕ, take, subst, ap, arith, ◌∙◌}
use Rattle.std.proofs.lemmas.Result.{IfOk-weaker}
use Rattle.record_form.specs.Record.{Spells, record_length}
use Rattle.record_form.specs.Grammar.{Complete, outcome_of}
use Rattle.record_form.proofs.Spelled.{all_bytes}
use Rattle.record_form.proofs.SpelledPut.{all_spelled}
use Rattle.record_form.proofs.building.rec_of.Goals as goal

pub returns-clause-read : goal.returns-clause-read
returns-clause-read c =
    let bytes = c.args.bytes.now in
    IfOk-weaker c.kind_of.result (λ rec. (end : ℕ) × (outcome_of bytes ≡ Complete rec end)) (λ rec. outcome_of bytes ≡ Complete rec (record_length rec))
    (λ rec found. found.1 ∙ ap (Complete rec) (all_spelled bytes rec found.0 (all_bytes bytes (λ i. omega (arith, c.type_inv.bytes i))) found.1).1) c.kind_of.ensures

pub returns-clause-spelled : goal.returns-clause-spelled
returns-clause-spelled c =
    let bytes = c.args.bytes.now in
    IfOk-weaker c.kind_of.result (λ rec. (end : ℕ) × (outcome_of bytes ≡ Complete rec end)) (λ rec. Spells (take (record_length rec) bytes) rec)
    (λ rec found. let spelled = all_spelled bytes rec found.0 (all_bytes bytes (λ i. omega (arith, c.type_inv.bytes i))) found.1 in subst (λ n. Spells (take n bytes) rec) spelled.1 spelled.0) c.kind_of.ensures

use Rattle.std.proofs.Common.{◌≡◌, ℕ, drop, ap, arith, sym, ◌∙◌}
use Rattle.std.proofs.lemmas.Result.{IfOk-weaker}
use Rattle.record_form.specs.Grammar.{Complete, kind_grammar, outcome_of, reads}
use Rattle.record_form.proofs.Loops.{kind_whole, whole_here, whole_record}
use Rattle.record_form.proofs.Outlined.{named, no_put, filled_in}
use Rattle.record_form.proofs.Spelled.{all_bytes}
use Rattle.record_form.proofs.building.kind_of.Goals as goal

pub bounds-bytes-0 : goal.bounds-bytes-0
bounds-bytes-0 c = omega (arith, (whole_record c.args.bytes.now c.requires).some)

pub put_of-requires-clause-whole : goal.put_of-requires-clause-whole
put_of-requires-clause-whole c =
    let k = kind_whole c.args.bytes.now 1 c.requires c.if-bytes-eq-PUT.true in
    whole_here _ k.rec k.end k.inner

pub returns-then-bytes-eq-PUT : goal.returns-then-bytes-eq-PUT
returns-then-bytes-eq-PUT c =
    let bytes = c.args.bytes.now in
    let k = kind_whole bytes 1 c.requires c.if-bytes-eq-PUT.true in
    IfOk-weaker c.put_of.result (λ rec. (end : ℕ) × (reads (kind_grammar 1) (drop 1 bytes) 1 ≡ Complete rec end)) (λ rec. (end : ℕ) × (outcome_of bytes ≡ Complete rec end))
    (λ rec found. (found.0, k.whole ∙ sym k.inner ∙ found.1)) c.put_of.ensures

pub unreachable-requires : goal.unreachable-requires
unreachable-requires c =
    no_put c.args.bytes.now c.in-Put.txn c.in-Put.length c.read_outline-outline.result.1 (all_bytes c.args.bytes.now (λ i. omega (arith, c.type_inv.bytes i))) c.requires c.if-bytes-eq-PUT.false
    (rw c.in-Put.is at c.read_outline-outline.ensures)

pub returns-in-Take : goal.returns-in-Take
returns-in-Take c =
    named c.args.bytes.now c.read_outline-outline.result.0 c.read_outline-outline.result.1 _ (all_bytes c.args.bytes.now (λ i. omega (arith, c.type_inv.bytes i))) c.requires c.if-bytes-eq-PUT.false c.read_outline-outline.ensures
    (ap filled_in c.in-Take.is)

pub returns-in-Rollback : goal.returns-in-Rollback
returns-in-Rollback c =
    named c.args.bytes.now c.read_outline-outline.result.0 c.read_outline-outline.result.1 _ (all_bytes c.args.bytes.now (λ i. omega (arith, c.type_inv.bytes i))) c.requires c.if-bytes-eq-PUT.false c.read_outline-outline.ensures
    (ap filled_in c.in-Rollback.is)

pub returns-in-CommitPut : goal.returns-in-CommitPut
returns-in-CommitPut c =
    named c.args.bytes.now c.read_outline-outline.result.0 c.read_outline-outline.result.1 _ (all_bytes c.args.bytes.now (λ i. omega (arith, c.type_inv.bytes i))) c.requires c.if-bytes-eq-PUT.false c.read_outline-outline.ensures
    (ap filled_in c.in-CommitPut.is)

pub returns-in-CommitTake : goal.returns-in-CommitTake
returns-in-CommitTake c =
    named c.args.bytes.now c.read_outline-outline.result.0 c.read_outline-outline.result.1 _ (all_bytes c.args.bytes.now (λ i. omega (arith, c.type_inv.bytes i))) c.requires c.if-bytes-eq-PUT.false c.read_outline-outline.ensures
    (ap filled_in c.in-CommitTake.is)

pub returns-in-End : goal.returns-in-End
returns-in-End c =
    named c.args.bytes.now c.read_outline-outline.result.0 c.read_outline-outline.result.1 _ (all_bytes c.args.bytes.now (λ i. omega (arith, c.type_inv.bytes i))) c.requires c.if-bytes-eq-PUT.false c.read_outline-outline.ensures
    (ap filled_in c.in-End.is)

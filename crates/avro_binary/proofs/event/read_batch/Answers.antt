use Rattle.std.proofs.Common.{◌∙◌, List, [], ◌∷◌, ◌++◌, subst, sym, ap, arith}
use Rattle.std.proofs.lemmas.Result.{err_from_is_err_and}
use Rattle.event_core.specs.Content.{Content}
use Rattle.avro_binary.specs.Reading.{part}
use Rattle.avro_binary.specs.Event.{IsEvent, EventFault, IsBatch, first_large}
use Rattle.avro_binary.proofs.Collect.{nothing_yet, batch_refusal, batch_fault, some_event}
use Rattle.avro_binary.proofs.Blocks.{begins, opened, closed, went, count_fault, item_refusal}
use Rattle.avro_binary.proofs.event.read_batch.Goals as goal

pub events-init : goal.events-init
events-init c = ([], begins IsEvent EventFault c.args.bytes.now c.args.at c.requires, nothing_yet c.new-batch.result c.new-batch.ensures)

pub returns-in_err-todo : goal.returns-in_err-todo
returns-in_err-todo c =
    let p = err_from_is_err_and c.from_residual.result c.from_residual.ensures.1 in
    rw (p.1, p.2) (batch_fault c.args.bytes.now c.args.at c.in_err-todo.field-0.0 (count_fault IsEvent EventFault c.args.bytes.now c.args.at c.events.place c.events.left c.events.invariant.0 c.in_err-todo.field-0.0 c.events.invariant.1 c.in_err-todo.ensures))

pub returns-in-None : goal.returns-in-None
returns-in-None c =
    let k = closed IsEvent EventFault c.args.bytes.now c.args.at c.events.place c.events.left c.in_ok-todo.todo c.in_ok-todo.item c.events.invariant.0 c.events.invariant.1 c.in_ok-todo.ensures c.if-todo-eq0.true in
    let all = c.events.invariant.2.all c.in-None.is in
    (k.0, subst (λ (b : List Content). IsBatch (part c.args.bytes.now c.args.at c.in_ok-todo.item) b) (sym all) k.1, ap first_large all ∙ sym c.events.invariant.2.large_is ∙ c.in-None.is)

pub returns-in-Some : goal.returns-in-Some
returns-in-Some c =
    let k = closed IsEvent EventFault c.args.bytes.now c.args.at c.events.place c.events.left c.in_ok-todo.todo c.in_ok-todo.item c.events.invariant.0 c.events.invariant.1 c.in_ok-todo.ensures c.if-todo-eq0.true in
    (c.events.invariant.0, k.0, k.1, sym c.events.invariant.2.large_is ∙ c.in-Some.is)

pub returns-in_err-found : goal.returns-in_err-found
returns-in_err-found c =
    let p = err_from_is_err_and c.from_residual-in_err-found.result c.from_residual-in_err-found.ensures.1 in
    let o = opened IsEvent EventFault c.args.bytes.now c.args.at c.events.place c.events.left c.in_ok-todo.todo c.in_ok-todo.item c.events.invariant.0 c.events.invariant.1 c.in_ok-todo.ensures c.if-todo-eq0.false in
    rw (p.1, p.2) (batch_refusal c.args.bytes.now c.args.at c.in_err-found.field-0.0 (item_refusal IsEvent EventFault c.args.bytes.now c.args.at c.in_ok-todo.item c.in_ok-todo.todo c.events.invariant.0 c.in_err-found.field-0.0 o.0 c.if-todo-eq0.false c.in_err-found.ensures))

pub events-smaller : goal.events-smaller
events-smaller c =
    let o = opened IsEvent EventFault c.args.bytes.now c.args.at c.events.place c.events.left c.in_ok-todo.todo c.in_ok-todo.item c.events.invariant.0 c.events.invariant.1 c.in_ok-todo.ensures c.if-todo-eq0.false in
    let e = c.in_ok-found.ensures in
    let some = some_event c.args.bytes.now c.in_ok-todo.item c.in_ok-found.end e.1.0 e.0 e.1.1 in
    let first = o.1 in
    let m = e.0.1 in
    omega arith

pub events-preserved : goal.events-preserved
events-preserved c =
    let o = opened IsEvent EventFault c.args.bytes.now c.args.at c.events.place c.events.left c.in_ok-todo.todo c.in_ok-todo.item c.events.invariant.0 c.events.invariant.1 c.in_ok-todo.ensures c.if-todo-eq0.false in
    let e = c.in_ok-found.ensures in (
      c.events.invariant.0 ++ e.1.0 ∷ [],
      went IsEvent EventFault c.args.bytes.now c.args.at c.in_ok-todo.item c.in_ok-found.end c.in_ok-todo.todo c.events.invariant.0 e.1.0 o.0 c.if-todo-eq0.false e.0 e.1.1,
      c.in_ok-keep.ensures c.events.invariant.0 e.1.0 c.events.invariant.2 e.1.2,
    )

use Rattle.std.proofs.Common.{List, [], ◌∷◌, ◌++◌, ap, sym, ◌∙◌, arith}
use Rattle.event_core.specs.Content.{Header, with_header}
use Rattle.std.proofs.lemmas.Result.{err_from_is_err_and}
use Rattle.avro_binary.specs.Value.{IsText, TextFault}
use Rattle.avro_binary.specs.Items.{IsEntry, EntryFault, MapFault}
use Rattle.avro_binary.proofs.Faults.{refusal_of}
use Rattle.avro_binary.proofs.Collect.{headers_more}
use Rattle.avro_binary.proofs.Blocks.{begins, opened, closed, went, count_fault, item_fault, entry_at, key_fault, value_fault, some_text, further}
use Rattle.avro_binary.proofs.event.headers_at.Goals as goal

pub entries-init : goal.entries-init
entries-init c = ([], begins (IsEntry IsText) (EntryFault TextFault) c.args.bytes.now c.args.at c.requires, c.new-headers.ensures)

pub returns-in_err-todo : goal.returns-in_err-todo
returns-in_err-todo c =
    let p = err_from_is_err_and c.from_residual.result c.from_residual.ensures.1 in
    let r = c.entries.invariant.1 in
    rw (p.1, p.2) (refusal_of MapFault c.args.bytes.now c.args.at c.in_err-todo.field-0.0 (count_fault (IsEntry IsText) (EntryFault TextFault) c.args.bytes.now c.args.at c.entries.place c.entries.left c.entries.invariant.0 c.in_err-todo.field-0.0 r c.in_err-todo.ensures))

pub returns-then-todo-eq0 : goal.returns-then-todo-eq0
returns-then-todo-eq0 c =
    let r = c.entries.invariant.1 in
    let k = closed (IsEntry IsText) (EntryFault TextFault) c.args.bytes.now c.args.at c.entries.place c.entries.left c.in_ok-todo.todo c.in_ok-todo.item c.entries.invariant.0 r c.in_ok-todo.ensures c.if-todo-eq0.true in
    (k.0, (c.entries.invariant.0, k.1, c.entries.invariant.2))

pub returns-in_err-key : goal.returns-in_err-key
returns-in_err-key c =
    let p = err_from_is_err_and c.from_residual-in_err-key.result c.from_residual-in_err-key.ensures.1 in
    let o = opened (IsEntry IsText) (EntryFault TextFault) c.args.bytes.now c.args.at c.entries.place c.entries.left c.in_ok-todo.todo c.in_ok-todo.item c.entries.invariant.0 c.entries.invariant.1 c.in_ok-todo.ensures c.if-todo-eq0.false in
    rw (p.1, p.2) (refusal_of MapFault c.args.bytes.now c.args.at c.in_err-key.field-0.0 (item_fault (IsEntry IsText) (EntryFault TextFault) c.args.bytes.now c.args.at c.in_ok-todo.item c.in_ok-todo.todo c.entries.invariant.0 c.in_err-key.field-0.0 o.0 c.if-todo-eq0.false (key_fault TextFault c.args.bytes.now c.in_ok-todo.item c.in_err-key.field-0.0 c.in_err-key.ensures)))

pub returns-in_err-value : goal.returns-in_err-value
returns-in_err-value c =
    let p = err_from_is_err_and c.from_residual-in_err-value.result c.from_residual-in_err-value.ensures.1 in
    let o = opened (IsEntry IsText) (EntryFault TextFault) c.args.bytes.now c.args.at c.entries.place c.entries.left c.in_ok-todo.todo c.in_ok-todo.item c.entries.invariant.0 c.entries.invariant.1 c.in_ok-todo.ensures c.if-todo-eq0.false in
    let k = c.in_ok-key.ensures in
    rw (p.1, p.2) (refusal_of MapFault c.args.bytes.now c.args.at c.in_err-value.field-0.0 (item_fault (IsEntry IsText) (EntryFault TextFault) c.args.bytes.now c.args.at c.in_ok-todo.item c.in_ok-todo.todo c.entries.invariant.0 c.in_err-value.field-0.0 o.0 c.if-todo-eq0.false (value_fault TextFault c.args.bytes.now c.in_ok-todo.item c.in_ok-key.key_end c.in_ok-key.key.now c.in_err-value.field-0.0 k.0 k.1 c.in_err-value.ensures)))

pub entries-smaller : goal.entries-smaller
entries-smaller c =
    let o = opened (IsEntry IsText) (EntryFault TextFault) c.args.bytes.now c.args.at c.entries.place c.entries.left c.in_ok-todo.todo c.in_ok-todo.item c.entries.invariant.0 c.entries.invariant.1 c.in_ok-todo.ensures c.if-todo-eq0.false in
    let k = c.in_ok-key.ensures in
    let v = c.in_ok-value.ensures in
    let some = some_text c.args.bytes.now c.in_ok-todo.item c.in_ok-key.key_end c.in_ok-key.key.now k.0 k.1 in
    let first = o.1 in
    let l = v.0.0 in
    let m = v.0.1 in
    omega arith

pub entries-preserved : goal.entries-preserved
entries-preserved c =
    let o = opened (IsEntry IsText) (EntryFault TextFault) c.args.bytes.now c.args.at c.entries.place c.entries.left c.in_ok-todo.todo c.in_ok-todo.item c.entries.invariant.0 c.entries.invariant.1 c.in_ok-todo.ensures c.if-todo-eq0.false in
    let k = c.in_ok-key.ensures in
    let v = c.in_ok-value.ensures in
    let key = c.in_ok-key.key.now in
    let value = c.in_ok-value.value.now in
    let entry = entry_at IsText c.args.bytes.now c.in_ok-todo.item c.in_ok-key.key_end c.in_ok-value.value_end key value k.0 v.0 k.1 v.1 in (
      c.entries.invariant.0 ++ (key, value) ∷ [],
      went (IsEntry IsText) (EntryFault TextFault) c.args.bytes.now c.args.at c.in_ok-todo.item c.in_ok-value.value_end c.in_ok-todo.todo c.entries.invariant.0 (key, value) o.0 c.if-todo-eq0.false (further c.args.bytes.now c.in_ok-todo.item c.in_ok-key.key_end c.in_ok-value.value_end k.0 v.0) entry,
      c.in_ok-set.ensures.ok ∙ ap (λ (h : List Header). with_header h key value) c.entries.invariant.2 ∙ sym (headers_more c.entries.invariant.0 (key, value)),
    )

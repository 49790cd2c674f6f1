use Rattle.std.proofs.Common.{[], ◌∷◌, ◌++◌, arith}
use Rattle.std.proofs.lemmas.Result.{err_from_is_err_and}
use Rattle.avro_binary.specs.Value.{IsBytes, BytesFault}
use Rattle.avro_binary.specs.Items.{IsEntry, EntryFault}
use Rattle.avro_binary.specs.Reading.{part, IsPart}
use Rattle.avro_binary.proofs.Blocks.{begins, opened, closed, went, count_fault, item_fault, entry_at, key_fault, value_fault, some_text, further}
use Rattle.avro_binary.proofs.items.read_meta.Goals as goal

pub entries-init : goal.entries-init
entries-init c = ([], begins (IsEntry IsBytes) (EntryFault BytesFault) c.args.bytes.now c.args.at c.requires)

pub returns-in_err-todo : goal.returns-in_err-todo
returns-in_err-todo c =
    let p = err_from_is_err_and c.from_residual.result c.from_residual.ensures.1 in
    rw (p.1, p.2) (count_fault (IsEntry IsBytes) (EntryFault BytesFault) c.args.bytes.now c.args.at c.entries.place c.entries.left c.entries.invariant.0 c.in_err-todo.field-0.0 c.entries.invariant.1 c.in_err-todo.ensures)

pub returns-then-todo-eq0 : goal.returns-then-todo-eq0
returns-then-todo-eq0 c =
    let k = closed (IsEntry IsBytes) (EntryFault BytesFault) c.args.bytes.now c.args.at c.entries.place c.entries.left c.in_ok-todo.todo c.in_ok-todo.item c.entries.invariant.0 c.entries.invariant.1 c.in_ok-todo.ensures c.if-todo-eq0.true in
    (k.0, (c.entries.invariant.0, k.1))

pub returns-in_err-key_end : goal.returns-in_err-key_end
returns-in_err-key_end c =
    let p = err_from_is_err_and c.from_residual-in_err-key_end.result c.from_residual-in_err-key_end.ensures.1 in
    let o = opened (IsEntry IsBytes) (EntryFault BytesFault) c.args.bytes.now c.args.at c.entries.place c.entries.left c.in_ok-todo.todo c.in_ok-todo.item c.entries.invariant.0 c.entries.invariant.1 c.in_ok-todo.ensures c.if-todo-eq0.false in
    rw (p.1, p.2) (item_fault (IsEntry IsBytes) (EntryFault BytesFault) c.args.bytes.now c.args.at c.in_ok-todo.item c.in_ok-todo.todo c.entries.invariant.0 c.in_err-key_end.field-0.0 o.0 c.if-todo-eq0.false (key_fault BytesFault c.args.bytes.now c.in_ok-todo.item c.in_err-key_end.field-0.0 c.in_err-key_end.ensures))

pub returns-in_err-value_end : goal.returns-in_err-value_end
returns-in_err-value_end c =
    let p = err_from_is_err_and c.from_residual-in_err-value_end.result c.from_residual-in_err-value_end.ensures.1 in
    let o = opened (IsEntry IsBytes) (EntryFault BytesFault) c.args.bytes.now c.args.at c.entries.place c.entries.left c.in_ok-todo.todo c.in_ok-todo.item c.entries.invariant.0 c.entries.invariant.1 c.in_ok-todo.ensures c.if-todo-eq0.false in
    let k = c.in_ok-key_end.ensures in
    let key = part c.args.bytes.now c.in_ok-key_end.field-0-0 c.in_ok-key_end.key_end in
    let q : IsPart c.args.bytes.now c.in_ok-todo.item c.in_ok-key_end.key_end = (let l = k.0 in let m = k.1.0 in omega arith, k.1.1) in
    rw (p.1, p.2) (item_fault (IsEntry IsBytes) (EntryFault BytesFault) c.args.bytes.now c.args.at c.in_ok-todo.item c.in_ok-todo.todo c.entries.invariant.0 c.in_err-value_end.field-0.0 o.0 c.if-todo-eq0.false (value_fault BytesFault c.args.bytes.now c.in_ok-todo.item c.in_ok-key_end.key_end key c.in_err-value_end.field-0.0 q k.2 c.in_err-value_end.ensures))

pub entries-preserved : goal.entries-preserved
entries-preserved c =
    let o = opened (IsEntry IsBytes) (EntryFault BytesFault) c.args.bytes.now c.args.at c.entries.place c.entries.left c.in_ok-todo.todo c.in_ok-todo.item c.entries.invariant.0 c.entries.invariant.1 c.in_ok-todo.ensures c.if-todo-eq0.false in
    let k = c.in_ok-key_end.ensures in
    let v = c.in_ok-value_end.ensures in
    let key = part c.args.bytes.now c.in_ok-key_end.field-0-0 c.in_ok-key_end.key_end in
    let value = part c.args.bytes.now c.in_ok-value_end.field-0-0 c.in_ok-value_end.value_end in
    let p : IsPart c.args.bytes.now c.in_ok-todo.item c.in_ok-key_end.key_end = (let l = k.0 in let m = k.1.0 in omega arith, k.1.1) in
    let q : IsPart c.args.bytes.now c.in_ok-key_end.key_end c.in_ok-value_end.value_end = (let l = v.0 in let m = v.1.0 in omega arith, v.1.1) in
    let entry = entry_at IsBytes c.args.bytes.now c.in_ok-todo.item c.in_ok-key_end.key_end c.in_ok-value_end.value_end key value p q k.2 v.2 in
    (c.entries.invariant.0 ++ (key, value) ∷ [], went (IsEntry IsBytes) (EntryFault BytesFault) c.args.bytes.now c.args.at c.in_ok-todo.item c.in_ok-value_end.value_end c.in_ok-todo.todo c.entries.invariant.0 (key, value) o.0 c.if-todo-eq0.false (further c.args.bytes.now c.in_ok-todo.item c.in_ok-key_end.key_end c.in_ok-value_end.value_end p q) entry)

pub entries-smaller : goal.entries-smaller
entries-smaller c =
    let o = opened (IsEntry IsBytes) (EntryFault BytesFault) c.args.bytes.now c.args.at c.entries.place c.entries.left c.in_ok-todo.todo c.in_ok-todo.item c.entries.invariant.0 c.entries.invariant.1 c.in_ok-todo.ensures c.if-todo-eq0.false in
    let k = c.in_ok-key_end.ensures in
    let v = c.in_ok-value_end.ensures in
    let key = part c.args.bytes.now c.in_ok-key_end.field-0-0 c.in_ok-key_end.key_end in
    let p : IsPart c.args.bytes.now c.in_ok-todo.item c.in_ok-key_end.key_end = (let l = k.0 in let m = k.1.0 in omega arith, k.1.1) in
    let some = some_text c.args.bytes.now c.in_ok-todo.item c.in_ok-key_end.key_end key p k.2 in
    let first = o.1 in
    let l = v.0 in
    let m = v.1.0 in
    let n = v.1.1 in
    omega arith

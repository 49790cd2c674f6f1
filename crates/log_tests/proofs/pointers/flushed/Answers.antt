use Rattle.std.proofs.Common.{◌≡◌, ◌∷◌, ◌∙◌, [], ℕ, ap, arith, subst}
use Rattle.std.specs.Prelude.{IsSome}
use Rattle.flume_host.specs.Told.{WhereTold}
use Rattle.flume_host.specs.declared.names.FileName.TheVariants.{Log}
use Rattle.host_memory.specs.Words.{told_in}
use Rattle.record_form.specs.declared.record.Rec.TheVariants.{CommitPut, Put}
use Rattle.channel_log.specs.Writer.{Writer}
use Rattle.log_tests.proofs.Flushing.{is_there, room_behind, still_ready, two_pending}
use Rattle.log_tests.proofs.pointers.flushed.Goals as goal

pub append-requires-clause-room : goal.append-requires-clause-room
append-requires-clause-room c = room_behind c.in-Ok.writer c.append_put.new.self (Put 1 c.args.event.now) 21 (ap (λ (w : Writer). w.bytes) c.in-Ok.ensures.writer) c.append_put.ensures (omega (arith, c.requires.small))

pub flush-requires : goal.flush-requires
flush-requires c =
    let a = Put 1 c.args.event.now in
    let b = CommitPut 1 0 1 in
    let w0 = c.in-Ok.writer in (
      1,
      [],
      a ∷ b ∷ [],
      still_ready _ w0 c.append_put.new.self c.append.new.self a b 1 1 16 (ap (λ (w : Writer). w.file) c.in-Ok.ensures.writer) (ap (λ (w : Writer). w.gate) c.in-Ok.ensures.writer) c.append_put.ensures c.append.ensures c.in-Ok.ensures.begun,
      two_pending w0 c.append_put.new.self c.append.new.self a b (ap (λ (w : Writer). w.bytes) c.in-Ok.ensures.writer) (ap (λ (w : Writer). w.count) c.in-Ok.ensures.writer) c.append_put.ensures c.append.ensures,
    )

pub returns-in-Ok-flush : goal.returns-in-Ok-flush
returns-in-Ok-flush c =
    let a = Put 1 c.args.event.now in
    let b = CommitPut 1 0 1 in
    let w0 = c.in-Ok.writer in
    let ready = still_ready _ w0 c.append_put.new.self c.append.new.self a b 1 1 16 (ap (λ (w : Writer). w.file) c.in-Ok.ensures.writer) (ap (λ (w : Writer). w.gate) c.in-Ok.ensures.writer) c.append_put.ensures c.append.ensures c.in-Ok.ensures.begun in
    let pending = two_pending w0 c.append_put.new.self c.append.new.self a b (ap (λ (w : Writer). w.bytes) c.in-Ok.ensures.writer) (ap (λ (w : Writer). w.count) c.in-Ok.ensures.writer) c.append_put.ensures c.append.ensures in
    let file : c.append.new.self.file ≡ 1 = ap (λ (w : Writer). w.file) c.append.ensures.is ∙ (ap (λ (w : Writer). w.file) c.append_put.ensures.is ∙ ap (λ (w : Writer). w.file) c.in-Ok.ensures.writer) in
    let done = c.in-Ok-flush.ensures.flushed 1 [] (a ∷ b ∷ []) ready pending (omega arith) in
    subst (λ (n : ℕ). WhereTold (told_in c.flush.new.disk) (λ t. IsSome (t.reads (Log n)))) file (is_there _ 1 c.append.new.self.file _ _ done)

use Rattle.std.proofs.Common.{◌≡◌, ◌≤◌, ◌+◌, ℕ, List, length, true, ap, ◌∙◌, arith}
use Rattle.channel_log.specs.Writer.{Writer}
use Rattle.channel_log.proofs.Pending.{is_frame, length-sealed, sealed}
use Rattle.channel_log.proofs.writer.LogWriter.flush.Goals as goal

pub write_frame-requires-clause-ready : goal.write_frame-requires-clause-ready
write_frame-requires-clause-ready g c =
    let r = c.requires in
    let file : c.self.inside.number ≡ c.args.self.now.file = ap (λ (w : Writer). w.file) c.self.view_is in
    let gate : c.self.inside.gate ≡ c.args.self.now.gate = ap (λ (w : Writer). w.gate) c.self.view_is in
    let count : c.self.inside.count ≡ c.args.self.now.count = ap (λ (w : Writer). w.count) c.self.view_is in
    let bytes : c.self.inside.frame.items ≡ c.args.self.now.bytes = ap (λ (w : Writer). w.bytes) c.self.view_is in
    let ready = rw (← file, ← gate) at r.3 in
    let some : 1 ≤ length r.2 = omega (arith, r.4.counted, count, c.if-self-eq0.false) in
    (r.0, r.1, r.2, ready, is_frame c.args.self.now r.2 r.4 some (omega (arith, count)), sealed c.args.self.now r.2 c.self.inside.frame.items c.deref.result.now c.self.inside.count r.4 bytes count (c.deref.ensures.value ∙ c.seal.ensures.items))

pub returns-in-Ok-clause-any_moment : goal.returns-in-Ok-clause-any_moment
returns-in-Ok-clause-any_moment g c = λ birth frames records ready pending some.
    let file : c.self.inside.number ≡ c.args.self.now.file = ap (λ (w : Writer). w.file) c.self.view_is in
    let gate : c.self.inside.gate ≡ c.args.self.now.gate = ap (λ (w : Writer). w.gate) c.self.view_is in
    let count : c.self.inside.count ≡ c.args.self.now.count = ap (λ (w : Writer). w.count) c.self.view_is in
    let bytes : c.self.inside.frame.items ≡ c.args.self.now.bytes = ap (λ (w : Writer). w.bytes) c.self.view_is in
    let here = rw (← file, ← gate) at ready in
    let done = c.in-Ok.ensures.any_moment birth frames records here (is_frame c.args.self.now records pending some (omega (arith, count))) (sealed c.args.self.now records c.self.inside.frame.items c.deref.result.now c.self.inside.count pending bytes count (c.deref.ensures.value ∙ c.seal.ensures.items)) in
    rw (← file) done

pub returns-in-Err-clause-any_moment : goal.returns-in-Err-clause-any_moment
returns-in-Err-clause-any_moment g c = λ birth frames records ready pending some.
    let file : c.self.inside.number ≡ c.args.self.now.file = ap (λ (w : Writer). w.file) c.self.view_is in
    let gate : c.self.inside.gate ≡ c.args.self.now.gate = ap (λ (w : Writer). w.gate) c.self.view_is in
    let count : c.self.inside.count ≡ c.args.self.now.count = ap (λ (w : Writer). w.count) c.self.view_is in
    let bytes : c.self.inside.frame.items ≡ c.args.self.now.bytes = ap (λ (w : Writer). w.bytes) c.self.view_is in
    let here = rw (← file, ← gate) at ready in
    let done = c.in-Err.ensures.any_moment birth frames records here (is_frame c.args.self.now records pending some (omega (arith, count))) (sealed c.args.self.now records c.self.inside.frame.items c.deref.result.now c.self.inside.count pending bytes count (c.deref.ensures.value ∙ c.seal.ensures.items)) in
    rw (← file) done

pub returns-in-Ok-clause-flushed : goal.returns-in-Ok-clause-flushed
returns-in-Ok-clause-flushed g c = λ birth frames records ready pending some.
    let file : c.self.inside.number ≡ c.args.self.now.file = ap (λ (w : Writer). w.file) c.self.view_is in
    let gate : c.self.inside.gate ≡ c.args.self.now.gate = ap (λ (w : Writer). w.gate) c.self.view_is in
    let count : c.self.inside.count ≡ c.args.self.now.count = ap (λ (w : Writer). w.count) c.self.view_is in
    let bytes : c.self.inside.frame.items ≡ c.args.self.now.bytes = ap (λ (w : Writer). w.bytes) c.self.view_is in
    let here = rw (← file, ← gate) at ready in
    let done = c.in-Ok.ensures.flushed birth frames records here (is_frame c.args.self.now records pending some (omega (arith, count))) (sealed c.args.self.now records c.self.inside.frame.items c.deref.result.now c.self.inside.count pending bytes count (c.deref.ensures.value ∙ c.seal.ensures.items)) in
    let size : length c.deref.result.now ≡ c.len.result = omega (arith, ap length c.deref.ensures.value, c.len.ensures) in
    rw (← file, ← size) done

pub returns-in-Ok-clause-writer : goal.returns-in-Ok-clause-writer
returns-in-Ok-clause-writer g c = λ some.
    let size : c.len.result ≡ length c.self.inside.frame.items + 6 = omega (arith, c.len.ensures, length-sealed c.self.inside.frame.items c.seal.new.frame.items c.self.inside.count c.seal.ensures.items) in
    let offset : c.self.inside.gate + c.len.result ≡ c.self.inside.gate + length c.self.inside.frame.items + 6 = omega (arith, size) in
    let after : ℕ → List ℕ → Writer = λ (n : ℕ) (b : List ℕ). record { file = c.self.inside.number; gate = n; max_file = c.self.inside.max_file; started = true; bytes = b; count = 0; kept = c.self.inside.window } in
    rw (← c.self.view_is) (ap (λ (n : ℕ). after n c.clear.new.self.items) offset ∙ ap (λ (b : List ℕ). after (c.self.inside.gate + length c.self.inside.frame.items + 6) b) c.clear.ensures.items)

use Rattle.std.proofs.Common.{◌∙◌, ap, refl}
use Rattle.channel_log.specs.Writer.{Writer}
use Rattle.record_form.proofs.Pointed.{front}
use Rattle.channel_log.proofs.Pointed.{found_waiting}
use Rattle.channel_log.proofs.writer.LogWriter.waiting.Goals as goal

pub returns-clause-found : goal.returns-clause-found
returns-clause-found c =
    found_waiting c.deref.result.now c.self.inside.gate c.args.self.now c.args.p.now c.event_in.result
    (c.deref.ensures.value ∙ ap (λ (w : Writer). w.bytes) c.self.view_is)
    (ap (λ (w : Writer). w.gate) c.self.view_is)
    (c.event_in.ensures.found (front c.args.p.now) refl refl)

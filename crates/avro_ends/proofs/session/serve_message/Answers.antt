use Rattle.std.proofs.Common.{◌≡◌, ◌∙◌, ◌∷◌, [], None, Ok, Err, ap, List, ℕ}
use Rattle.avro_frame.specs.Pack.{pack}
use Rattle.avro_ends.proofs.Messages.{breaks_as, events_serve, events_serve_by, replied, sent_as}
use Rattle.avro_ends.proofs.session.serve_message.Goals as goal

pub returns-in-Ok-write_all-clause-serves : goal.returns-in-Ok-write_all-clause-serves
returns-in-Ok-write_all-clause-serves g c =
    let answers = rw (c.as_slice.ensures.value, c.in-Ok-Reply.field-0-is) at c.in-Ok-Reply.ensures.answers in
    let bytes : c.as_slice-in-Ok-Reply-2.result.now ≡ pack c.args.message.serial (c.in-Ok-Reply.payload.items ∷ []) = c.as_slice-in-Ok-Reply-2.ensures.value ∙ c.in-Ok.ensures ∙ ap (λ (l : List ℕ). pack c.args.message.serial (l ∷ [])) c.as_slice-in-Ok-Reply.ensures.value in
    (None, c.in-Ok-Reply.payload.items, replied _ _ _ _ c.args.message.serial _ c.in-Ok-Reply.payload answers, sent_as _ _ _ _ bytes c.in-Ok-write_all.ensures.ok)

pub returns-in-Ok-Reply-clause-serves : goal.returns-in-Ok-Reply-clause-serves
returns-in-Ok-Reply-clause-serves g c =
    let answers = rw (c.as_slice.ensures.value, c.in-Ok-Reply.field-0-is) at c.in-Ok-Reply.ensures.answers in
    let bytes : c.as_slice-in-Ok-Reply-2.result.now ≡ pack c.args.message.serial (c.in-Ok-Reply.payload.items ∷ []) = c.as_slice-in-Ok-Reply-2.ensures.value ∙ c.in-Ok.ensures ∙ ap (λ (l : List ℕ). pack c.args.message.serial (l ∷ [])) c.as_slice-in-Ok-Reply.ensures.value in
    (None, c.in-Ok-Reply.payload.items, replied _ _ _ _ c.args.message.serial _ c.in-Ok-Reply.payload answers, breaks_as _ _ _ _ bytes c.in-Err.ensures.part)

pub returns-in-Ok-serve_events-clause-serves : goal.returns-in-Ok-serve_events-clause-serves
returns-in-Ok-serve_events-clause-serves g c =
    let answers = rw (c.as_slice.ensures.value, c.in-Ok-Events.field-0-is) at c.in-Ok-Events.ensures.answers in
    let serves = rw c.as_slice-in-Ok-Events.ensures.value at c.in-Ok-serve_events.ensures.serves in
    events_serve _ _ _ _ _ _ _ c.args.message.serial _ c.in-Ok-Events.front c.in-Ok-Events.batch (Ok tt) answers serves

pub returns-in-Ok-Events-clause-serves : goal.returns-in-Ok-Events-clause-serves
returns-in-Ok-Events-clause-serves g c =
    let answers = rw (c.as_slice.ensures.value, c.in-Ok-Events.field-0-is) at c.in-Ok-Events.ensures.answers in
    events_serve_by _ _ _ _ _ _ _ c.args.message.serial _ c.in-Ok-Events.front c.in-Ok-Events.batch (Err c.in-Err-serve_events.end) c.as_slice-in-Ok-Events.result.now c.as_slice-in-Ok-Events.ensures.value answers c.in-Err-serve_events.ensures.serves

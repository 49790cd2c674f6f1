use Rattle.std.proofs.Common.{◌≡◌}
use Rattle.line_session.proofs.Going.{cause_broke, cause_same, flushed, kept_none, not_flushed}
use Rattle.std.proofs.lemmas.List.Elements.{All-nil}
use Rattle.line_session.proofs.session.serve_lines.Goals as goal

pub returns-in-Ok-clause-served : goal.returns-in-Ok-clause-served
returns-in-Ok-clause-served g c =
    let s = c.serve_all-end in
    let before = g.K.Sink.took s.new.sink in
    let after = g.K.Sink.took c.flush.new.self in
    flushed _ _ _ _ _ (g.S.Source.left s.new.source) s.new.store before after s.result s.ensures.served (kept_none before after c.flush.ensures.bytes)

pub returns-in-Ok-clause-cause : goal.returns-in-Ok-clause-cause
returns-in-Ok-clause-cause g c = cause_same c.serve_all-end.result _ _ _ _ _ c.serve_all-end.ensures.cause c.in-Ok.ensures.cause.well

pub returns-in-Err-clause-served : goal.returns-in-Err-clause-served
returns-in-Err-clause-served g c =
    let s = c.serve_all-end in
    let before = g.K.Sink.took s.new.sink in
    let after = g.K.Sink.took c.flush.new.self in
    not_flushed _ _ _ _ _ (g.S.Source.left s.new.source) s.new.store before after s.result (record { short = c.requires.max.0; unbroken = All-nil (λ b. b ≡ 10 → ⊥) }) s.ensures.served (kept_none before after c.flush.ensures.bytes)

pub returns-in-Err-clause-cause : goal.returns-in-Err-clause-cause
returns-in-Err-clause-cause g c = cause_broke c.serve_all-end.result _ _ _ _ _ c.serve_all-end.ensures.cause c.flush.ensures.cause.later c.in-Err.ensures.cause.failed

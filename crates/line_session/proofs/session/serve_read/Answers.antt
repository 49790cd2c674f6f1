use Rattle.std.proofs.Common.{rules, [], ◌≤◌, length, take, inl, arith}
use Rattle.std.proofs.KnownBytes.{Consumes-nil}
use Rattle.line_session.specs.declared.session.SessionEnd.TheVariants.{WriteFault}
use Rattle.line_session.proofs.Going.{answered, breaks_then, ends_between, flush_goes, kept_none, line_begun, line_ends}
use Rattle.line_session.proofs.session.serve_read.Goals as goal

pub returns-then-is_err-clause-breaks : goal.returns-then-is_err-clause-breaks
returns-then-is_err-clause-breaks g c =
    let before = g.K.Sink.took c.args.sink.now in
    let after = g.K.Sink.took c.flush.new.self in
    let goes = flush_goes _ _ _ _ c.args.store.now before after _ (kept_none before after c.flush.ensures.bytes) in
    ([], (Consumes-nil (g.S.Source.left c.args.source.now), omega arith), tt, ends_between _ _ _ _ goes WriteFault (inl (answered _ _ _ _ goes, c.requires.partial)))

pub returns-in-Err-serve_piece-clause-breaks : goal.returns-in-Err-serve_piece-clause-breaks
returns-in-Err-serve_piece-clause-breaks g c =
    let end = c.in-Err-serve_piece.end in
    let kind = c.in-Err-serve_piece.ensures.kind in
    let piece = take c.in-Ok.n c.read.new.into in
    let fits : length piece ≤ c.args.room = search rules in
    let before = g.K.Sink.took c.args.sink.now in
    let after = g.K.Sink.took c.flush.new.self in
    let goes = flush_goes _ _ _ _ c.args.store.now before after _ (kept_none before after c.flush.ensures.bytes) in (
      piece,
      (c.in-Ok.ensures.bytes.0, fits),
      line_ends end piece (g.S.Source.left c.read.new.self) kind,
      breaks_then _ _ _ _ (line_begun end kind) goes c.in-Err-serve_piece.ensures.breaks,
    )

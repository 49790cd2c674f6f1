use Rattle.std.proofs.Common.{[], arith}
use Rattle.avro_frame.specs.Pack.{IsPart, InHead}
use Rattle.avro_ends.proofs.Feeding.{feeds_all}
use Rattle.avro_ends.proofs.Listening.{cuts_at, piece_part}
use Rattle.avro_ends.proofs.hear.cut_piece.Goals as goal

none : IsPart []
none = InHead (omega arith)

pub returns-in-Ok-default-Some : goal.returns-in-Ok-default-Some
returns-in-Ok-default-Some c =
    let feeds = rw (c.in-Ok-default-Some.is, c.in-Ok-default-Some.field-0-1-is) at c.feed.ensures.feeds in
    let all = feeds_all _ _ _ _ _ c.no_pack_within.ensures.part none c.requires.opened feeds in
    cuts_at _ _ _ _ _ all.pack

pub returns-in-Ok-default-None : goal.returns-in-Ok-default-None
returns-in-Ok-default-None c =
    let feeds = rw (c.in-Ok-default-None.is, c.in-Ok-default-None.field-0-1-is) at c.feed.ensures.feeds in
    piece_part _ _ _ _ c.requires.opened feeds

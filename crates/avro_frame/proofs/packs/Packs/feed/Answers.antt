use Rattle.std.proofs.Common.{ap, arith}
use Rattle.avro_frame.specs.Feed.{PackState}
use Rattle.avro_frame.proofs.packs.Packs.feed.Goals as goal

pub returns-clause-room : goal.returns-clause-room
returns-clause-room c = λ bytes is some fits. c.feed_pending.ensures.room (omega (arith, some, fits, ap (λ (s : PackState). s.room) c.self.view_is))

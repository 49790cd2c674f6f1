use Rattle.avro_frame.proofs.OneFeed.{one_feed_lem}
use Rattle.avro_frame.proofs.packs.one_feed.Goals as goal

pub returns : goal.returns
returns c = one_feed_lem

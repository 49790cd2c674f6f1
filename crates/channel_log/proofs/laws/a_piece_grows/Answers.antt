use Rattle.channel_log.proofs.Keeping.{piece_grows}
use Rattle.channel_log.proofs.laws.a_piece_grows.Goals as goal

pub returns : goal.returns
returns c = piece_grows

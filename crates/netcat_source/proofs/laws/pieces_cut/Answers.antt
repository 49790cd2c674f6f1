use Rattle.netcat_source.proofs.Pieces.{feeding_cuts, any_pieces}
use Rattle.netcat_source.proofs.laws.pieces_cut.Goals as goal

pub returns-clause-whole : goal.returns-clause-whole
returns-clause-whole c = feeding_cuts

pub returns-clause-same : goal.returns-clause-same
returns-clause-same c = any_pieces

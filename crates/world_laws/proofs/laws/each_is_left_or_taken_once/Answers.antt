use Rattle.world_laws.proofs.Once.{left_or_taken}
use Rattle.world_laws.proofs.laws.each_is_left_or_taken_once.Goals as goal

pub returns : goal.returns
returns c = λ w n channel number c e held has put. left_or_taken c (held.numbers n channel c has) number e put

use Rattle.world_laws.proofs.Reaching.{each_stands}
use Rattle.world_laws.proofs.laws.acknowledged_is_kept.Goals as goal

pub returns : goal.returns
returns c = λ w n place ack held are is. each_stands (λ v m other. Unit {0}) w n place ack held are is (λ channel m at c other has among acked. tt)

use Rattle.std.proofs.Common.{Err}
use Rattle.avro_ends.proofs.Delivering.{exchange_failed, exchanged_by}
use Rattle.avro_ends.proofs.exchange.exchange.Goals as goal

pub returns-in-Err-answer_to-clause-exchanged : goal.returns-in-Err-answer_to-clause-exchanged
returns-in-Err-answer_to-clause-exchanged g c = exchanged_by _ _ _ (Err c.in-Err-answer_to.e) _ _ _ c.in-Ok.ensures.ok c.write_all.ensures.waited c.in-Err-answer_to.ensures.answered

pub returns-in-Err-clause-exchanged : goal.returns-in-Err-clause-exchanged
returns-in-Err-clause-exchanged g c = exchange_failed _ _ _ _ _ c.in-Err.ensures.part c.write_all.ensures.waited

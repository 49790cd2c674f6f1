use Rattle.std.proofs.Common.{List, ℕ, subst, true, false}
use Rattle.std.specs.Prelude.{Ok}
use Rattle.avro_hop.specs.Parameters.{CallsAt}
use Rattle.avro_hop.proofs.Greeting.{later}
use Rattle.avro_hop.proofs.Lengths.{answer_bounded}
use Rattle.avro_hop.proofs.hop.Hop.answer.Goals as goal

pub returns-then-self-clause-bounds : goal.returns-then-self-clause-bounds
returns-then-self-clause-bounds c =
    answer_bounded true c.args.message.now c.call_at.result true (later c.args.message.now c.call_at.result (subst (λ (x : List ℕ). CallsAt x c.args.message.now 0 c.call_at.result) c.new.ensures.items c.call_at.ensures))

pub returns-clause-bounds : goal.returns-clause-bounds
returns-clause-bounds c = answer_bounded false c.args.message.now (Ok c.in_ok-asked.asked) c.in_ok-asked.greeted c.in_ok-asked.ensures

use Rattle.shared_channel.proofs.Porting.{staged_take, unstaged_take, all_seen_back}
use Rattle.shared_channel.proofs.shared.Shared.finish_takes.Goals as goal

pub returns-in-Ok-clause-calls : goal.returns-in-Ok-clause-calls
returns-in-Ok-clause-calls g c =
    staged_take g.C.Channel.stands g.C.Channel.tells g.C.Channel.moment c.args.pass.now.view c.stage_take.new.pass.view c.settle-sure.new.pass.view c.args.pass.now.number c.stage_take.new.pass.number c.args.txn c.in-Ok.ticket c.settle-sure.result _ c.in-Ok.ensures.call c.in-Ok.ensures.same.1 c.settle-sure.ensures.settles c.in_doubt_unless.ensures

pub returns-in-Err-clause-calls : goal.returns-in-Err-clause-calls
returns-in-Err-clause-calls g c =
    unstaged_take g.C.Channel.stands g.C.Channel.tells g.C.Channel.moment c.args.pass.now.view c.stage_take.new.pass.view c.rollback_take.new.pass.view c.args.pass.now.number c.stage_take.new.pass.number c.args.txn c.in-Err.refused.txn c.in-Err.refused.cause c.rollback_take.result c.in-Err.ensures.call c.in-Err.ensures.same.1 c.in-Err.ensures.back c.rollback_take.ensures.call

pub returns-in-Err-clause-all : goal.returns-in-Err-clause-all
returns-in-Err-clause-all g c = all_seen_back g.C.Channel.stands g.C.Channel.tells g.C.Channel.moment c.rollback_take.result c.stage_take.new.pass.view c.rollback_take.new.pass.view c.stage_take.new.pass.number _ _ c.rollback_take.ensures.call

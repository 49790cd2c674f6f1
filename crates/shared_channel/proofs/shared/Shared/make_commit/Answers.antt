use Rattle.std.proofs.Common.{rules, Ok, Err}
use Rattle.shared_channel.proofs.Turning.{commit_flushed, commit_unstaged}
use Rattle.shared_channel.proofs.shared.Shared.make_commit.Goals as goal

pub returns-in-Ok-make_flush : goal.returns-in-Ok-make_flush
returns-in-Ok-make_flush g c = commit_flushed g.C.Channel.stands g.C.Channel.tells _ g.C.Channel.moment (λ r. g.K.KindOfTxn.stages c.args.txn r) c.args.txn c.in-Ok.ticket (Ok c.in-Ok-make_flush.field-0) _ _ _ c.requires (search rules) c.in-Ok.ensures.tries c.in-Ok-make_flush.ensures

pub returns-in-Err-make_flush : goal.returns-in-Err-make_flush
returns-in-Err-make_flush g c = commit_flushed g.C.Channel.stands g.C.Channel.tells _ g.C.Channel.moment (λ r. g.K.KindOfTxn.stages c.args.txn r) c.args.txn c.in-Ok.ticket (Err c.in-Err-make_flush.field-0) _ _ _ c.requires (search rules) c.in-Ok.ensures.tries c.in-Err-make_flush.ensures

pub returns-in-Err : goal.returns-in-Err
returns-in-Err g c = commit_unstaged g.C.Channel.stands g.C.Channel.tells _ g.C.Channel.moment (λ r. g.K.KindOfTxn.stages c.args.txn r) c.args.txn c.in-Err.refused.cause c.in-Err.refused.txn _ _ c.requires (search rules) c.in-Err.ensures.tries c.in-Err.ensures.back

use Rattle.std.proofs.Common.{inl, inr, List, [], ◌∷◌, ◌++◌, Ok, Err, ℕ, refl, ap, subst}
use Rattle.channel_face.specs.Machine.{StageTake, Flush}
use Rattle.channel_face.specs.History.{Said}
use Rattle.channel_face.specs.declared.replies.CommitRefused.TheVariants.{Stage}
use Rattle.flume_host.specs.Causes.{Rose}
use Rattle.channel_face.proofs.Adding.{adds_then}
use Rattle.channel_face.proofs.Doubt.{flush_fault_behind, take_staged_whole}
use Rattle.channel_face.proofs.channel.Channel.commit_take.Goals as goal

pub returns-in-Ok-flush-clause-calls : goal.returns-in-Ok-flush-clause-calls
returns-in-Ok-flush-clause-calls g c =
    let stands = g.Self.Channel.stands in
    let one : List Said = record { call = StageTake c.args.txn (Ok c.in-Ok.ticket); moment = g.Self.Channel.moment c.stage_take.new.self } ∷ [] in
    let two : List Said = record { call = Flush (Ok c.in-Ok-flush.field-0); moment = g.Self.Channel.moment c.flush.new.self } ∷ [] in (
      one ++ two,
      adds_then (stands c.args.self.now) (stands c.stage_take.new.self) (stands c.flush.new.self) one two c.in-Ok.ensures.step c.in-Ok-flush.ensures.step,
      inr (c.in-Ok.ticket, Ok c.in-Ok-flush.field-0, refl, refl),
    )

pub returns-in-Err-flush-clause-calls : goal.returns-in-Err-flush-clause-calls
returns-in-Err-flush-clause-calls g c =
    let stands = g.Self.Channel.stands in
    let one : List Said = record { call = StageTake c.args.txn (Ok c.in-Ok.ticket); moment = g.Self.Channel.moment c.stage_take.new.self } ∷ [] in
    let two : List Said = record { call = Flush (Err c.in-Err-flush.field-0); moment = g.Self.Channel.moment c.flush.new.self } ∷ [] in (
      one ++ two,
      adds_then (stands c.args.self.now) (stands c.stage_take.new.self) (stands c.flush.new.self) one two c.in-Ok.ensures.step c.in-Err-flush.ensures.step,
      inr (c.in-Ok.ticket, Err c.in-Err-flush.field-0, refl, refl),
    )

pub returns-in-Err-clause-calls : goal.returns-in-Err-clause-calls
returns-in-Err-clause-calls g c =
    let one : List Said = record { call = StageTake c.args.txn (Err c.in-Err.refused.cause); moment = g.Self.Channel.moment c.stage_take.new.self } ∷ [] in
    (one, c.in-Err.ensures.step, inl (c.in-Err.refused.cause, refl, ap (λ (t : _). Err (Stage (record { txn = t; cause = c.in-Err.refused.cause }))) c.in-Err.ensures.back))

pub returns-in-Err-flush-clause-doubt : goal.returns-in-Err-flush-clause-doubt
returns-in-Err-flush-clause-doubt g c = λ start h here _.
    let ch = g.Self.Channel in
    let is = flush_fault_behind (ch.tells c.stage_take.new.self) (ch.tells c.flush.new.self) (ch.stands c.args.self.now) (ch.stands c.stage_take.new.self) (ch.stands c.flush.new.self) _ c.in-Err-flush.field-0 _ _ c.in-Ok.ensures.step c.in-Err-flush.ensures.step
    (g.met.Self.Channel.is_run c.stage_take.new.self) (g.met.Self.Channel.is_run c.flush.new.self) (take_staged_whole (ch.tells c.stage_take.new.self) c.args.txn c.in-Ok.ticket) start h here in
    subst (λ (n : ℕ). Rose n (ch.faults c.flush.new.self)) c.in-Ok.ensures.faults (c.in-Err-flush.ensures.fault (ap Err is))

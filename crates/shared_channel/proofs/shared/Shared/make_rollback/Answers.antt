use Rattle.std.proofs.Common.{true, refl, arith}
use Rattle.shared_channel.specs.Calls.{step}
use Rattle.shared_channel.proofs.Keeping.{rolled, room, stale}
use Rattle.shared_channel.proofs.Turning.{makes_kept, makes_none_by}
use Rattle.shared_channel.proofs.shared.Shared.make_rollback.Goals as goal

pub count-requires-clause-turn : goal.count-requires-clause-turn
count-requires-clause-turn g c = (c.requires.1.0, room g.C.Channel.stands g.C.Channel.tells g.met.C.Channel.is_run c.roll_back-ended.ensures.counts _ _ _ _ _ _ c.roll_back-ended.ensures.call c.requires.1.3 c.if-not-ended.false, c.requires.1.1)

pub overflow_add-holder : goal.overflow_add-holder
overflow_add-holder g c = let l = room g.C.Channel.stands g.C.Channel.tells g.met.C.Channel.is_run c.roll_back-ended.ensures.counts _ _ _ _ _ _ c.roll_back-ended.ensures.call c.requires.1.3 c.if-not-ended.false in let e = c.requires.3 in omega arith

pub returns-then-not-ended : goal.returns-then-not-ended
returns-then-not-ended g c = let none = stale g.C.Channel.stands g.C.Channel.tells g.met.C.Channel.is_run c.roll_back-ended.ensures.counts _ _ _ _ _ _ c.roll_back-ended.ensures.call c.requires.1.3 c.if-not-ended.true in (makes_none_by g.C.Channel.stands g.C.Channel.tells _ c.args.holder.now _ c.requires none.0, (λ _. none.1))

pub returns : goal.returns
returns g c =
    let h = c.args.holder.now in
    let m = g.C.Channel.moment c.roll_back-ended.new.channel in (
      makes_kept g.C.Channel.stands g.C.Channel.tells _ (step h.by (g.K.KindOfTxn.rolls_back c.args.txn true) m) _ h _ c.requires (rolled g.C.Channel.stands g.C.Channel.tells g.met.C.Channel.is_run c.roll_back-ended.ensures.counts _ _ _ _ _ _ c.roll_back-ended.ensures.call c.requires.1.3 c.if-not-ended.false h.by) c.count.ensures.same.0 refl refl
          (λ i. step h.by (g.K.KindOfTxn.rolls_back (record { life = c.life-life.ensures i; number = c.number-number.ensures i }) true) m) (c.count.ensures.call, c.count.ensures.making),
      (λ is. absurd (cc)),
    )

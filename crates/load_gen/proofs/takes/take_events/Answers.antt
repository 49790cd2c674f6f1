use Rattle.std.proofs.Common.{◌≡◌, ◌+◌, ◌++◌, ◌∷◌, [], List, refl, sym, ap, ◌∙◌, arith, length, Ok}
use Rattle.event_core.specs.Content.{Content}
use Rattle.load_gen.specs.Counted.{AreTakenUpTo, Feeds}
use Rattle.load_gen.proofs.Composing.{given_all}
use Rattle.load_gen.proofs.Making.{makes_as, makes_none}
use Rattle.load_gen.proofs.Taking.{Took, feeds_more, feeds_none, feeds_not, take_last, take_more, take_no}
use Rattle.load_gen.proofs.takes.take_events.Goals as goal
use Rattle.load_gen.proofs.takes.take_events.Goals.{else-kept, then-kept}

pub loop-count-init : goal.loop-count-init
loop-count-init g c = record {
  takes = makes_none c.args.pass.now.number c.args.pass.now.view (Took g.C.Channel.stands g.C.Channel.tells g.C.Channel.moment c.args.txn.now c.args.kept 0 c.args.tally.now c.args.tally.now) ([], refl, refl, feeds_none c.args.kept c.args.tally.now);
  most = omega arith;
  token = refl;
  table = refl;
  number = refl;
}

pub returns-in-None-clause-takes : goal.returns-in-None-clause-takes
returns-in-None-clause-takes g c =
    let inv = c.loop-count.invariant in
    let x = c.take.new.pass.view in
    take_last g.C.Channel.stands g.C.Channel.tells g.C.Channel.moment c.args.pass.now.view c.loop-count.pass.view x c.args.pass.now.number c.loop-count.pass.number c.args.txn.now c.loop-count.txn c.args.kept c.loop-count.count (length x.seen) c.args.tally.now c.loop-count.tally c.in-Ok.taken inv.takes inv.number inv.token
    c.in-Ok.ensures.call c.in-None.is (omega arith)

pub returns-in-Err-clause-takes : goal.returns-in-Err-clause-takes
returns-in-Err-clause-takes g c =
    let inv = c.loop-count.invariant in
    take_no g.C.Channel.stands g.C.Channel.tells g.C.Channel.moment c.args.pass.now.view c.loop-count.pass.view c.take.new.pass.view c.args.pass.now.number c.loop-count.pass.number c.args.txn.now c.loop-count.txn c.args.kept c.loop-count.count c.args.tally.now c.loop-count.tally c.in-Err.refused inv.takes inv.number inv.token c.in-Err.ensures.call
    (omega arith)

pub returns-clause-takes : goal.returns-clause-takes
returns-clause-takes g c =
    let v = c.args.pass.now.view in
    let w = c.loop-count.pass.view in
    let inv = c.loop-count.invariant in
    let token = c.args.txn.now in
    let count = c.loop-count.count in
    let t = c.args.tally.now in
    let u = c.loop-count.tally in
    let all : count ≡ 50 = let most = inv.most in omega arith in
    makes_as c.args.pass.now.number v w (Took g.C.Channel.stands g.C.Channel.tells g.C.Channel.moment token c.args.kept count t u) (AreTakenUpTo (length w.seen) token c.args.kept t u (Ok count)) inv.takes
    (λ a p. (p.0, p.2, given_all token p.0 a 50 (sym p.2 ∙ all) p.1, p.3))

pub loop-count-preserved : goal.loop-count-preserved
loop-count-preserved g c =
    let inv = c.loop-count.invariant in
    let t = c.args.tally.now in
    let u = c.loop-count.tally in
    let u' = c.if-kept.tally in
    let e : Content = c.in-Some.event in
    let feeds : (events : List Content) → Feeds c.args.kept events t u → Feeds c.args.kept (events ++ e ∷ []) t u' = λ events f. elim c.if-kept.branch [
      | then-kept w ↦ feeds_more c.args.kept events e t u u' w.if-kept.true f (rw w.tally-is w.add_line.ensures.same) (rw w.tally-is (rw (w.body.ensures ∙ ap (λ (x : Content). x.body) c.in-Some.event-is) at w.add_line.ensures.digest))
      | else-kept w ↦ feeds_not c.args.kept events e t u u' w.if-kept.false f w.tally-is
    ] in
    record {
      takes = take_more g.C.Channel.stands g.C.Channel.tells g.C.Channel.moment c.args.pass.now.view c.loop-count.pass.view c.take.new.pass.view c.args.pass.now.number c.loop-count.pass.number c.args.txn.now c.loop-count.txn c.args.kept c.loop-count.count (c.loop-count.count + 1) t u u' c.in-Ok.taken e inv.takes inv.number inv.token
          c.in-Ok.ensures.call c.in-Some.is refl feeds;
      most = omega arith;
      token = c.in-Ok.ensures.token ∙ inv.token;
      table = c.in-Ok.ensures.same.0 ∙ inv.table;
      number = c.in-Ok.ensures.same.1 ∙ inv.number;
    }

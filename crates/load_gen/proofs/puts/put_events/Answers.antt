use Rattle.std.proofs.Common.{◌≡◌, ◌+◌, ◌++◌, ◌∷◌, [], refl, ◌∙◌, ap, sym, arith, length}
use Rattle.event_core.specs.Content.{Content}
use Rattle.load_gen.specs.Events.{event, events_from}
use Rattle.load_gen.specs.Runs.{ArePut}
use Rattle.load_gen.proofs.Making.{makes_none}
use Rattle.load_gen.proofs.Parting.{events_at, next_event, put_more, put_no, put_none}
use Rattle.load_gen.proofs.puts.put_events.Goals as goal

pub loop-init : goal.loop-init
loop-init g c = record {
  puts = makes_none c.args.pass.now.number c.args.pass.now.view (ArePut c.args.txn.now (events_from c.args.events.now.n c.args.events.now.next 0)) refl;
  token = refl;
  table = refl;
  number = refl;
  n = refl;
  next = omega arith;
}

pub returns-in_default-clause-puts : goal.returns-in_default-clause-puts
returns-in_default-clause-puts g c =
    let n = c.args.events.now.n in
    let i = c.args.events.now.next in
    let done = c.loop.counter in
    let cut = events_at n i done c.args.count (omega arith) in
    put_none c.args.pass.now.view c.loop.pass.view c.args.pass.now.number (length c.loop.pass.view.seen) c.args.txn.now (events_from n i c.args.count) (events_from n i done) cut.0 (event n (i + done)) c.loop.invariant.puts cut.1

pub returns-in-Err-clause-puts : goal.returns-in-Err-clause-puts
returns-in-Err-clause-puts g c =
    let n = c.args.events.now.n in
    let i = c.args.events.now.next in
    let done = c.loop.counter in
    let all = events_from n i c.args.count in
    let inv = c.loop.invariant in
    let cut = events_at n i done c.args.count (omega arith) in
    let e : Content = c.in-Ok.event in
    let e_is : e ≡ event n (i + done) = c.in-Ok.ensures.event ∙ (λ k. event (inv.n k) (inv.next k)) in
    put_no g.C.Channel.stands g.C.Channel.tells g.C.Channel.moment c.args.pass.now.view c.loop.pass.view c.put.new.pass.view c.args.pass.now.number c.loop.pass.number c.args.txn.now c.loop.txn all (events_from n i done) cut.0 e c.in-Err.refused inv.puts inv.number inv.token c.in-Err.ensures.call
    (cut.1 ∙ ap (λ (x : Content). events_from n i done ++ x ∷ cut.0) (sym e_is))

pub loop-preserved : goal.loop-preserved
loop-preserved g c =
    let n = c.args.events.now.n in
    let i = c.args.events.now.next in
    let done = c.loop.counter in
    let inv = c.loop.invariant in
    let e : Content = c.in-Ok.event in
    let e_is : e ≡ event n (i + done) = c.in-Ok.ensures.event ∙ (λ k. event (inv.n k) (inv.next k)) in
    record {
      puts = put_more g.C.Channel.stands g.C.Channel.tells g.C.Channel.moment c.args.pass.now.view c.loop.pass.view c.put.new.pass.view c.args.pass.now.number c.loop.pass.number c.args.txn.now c.loop.txn (events_from n i done) (events_from n i (done + 1)) e c.in_default-put.field-0 inv.puts inv.number inv.token c.in_default-put.ensures.call
          (next_event n i done ∙ ap (λ (x : Content). events_from n i done ++ x ∷ []) (sym e_is));
      token = c.in_default-put.ensures.token ∙ inv.token;
      table = c.in_default-put.ensures.same.0 ∙ inv.table;
      number = c.in_default-put.ensures.same.1 ∙ inv.number;
      n = c.in-Ok.ensures.same ∙ inv.n;
      next = let one = c.in-Ok.ensures.next in let here = inv.next in omega (arith, one, here);
    }

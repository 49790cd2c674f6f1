use Rattle.std.proofs.Common.{◌≡◌, ◌-◌, ℕ, Err, ◌∙◌, arith, length, min, subst}
use Rattle.load_gen.specs.Calls.{Makes}
use Rattle.load_gen.specs.Events.{events_from}
use Rattle.load_gen.specs.Parts.{ArePutUpTo}
use Rattle.load_gen.specs.Runs.{ArePut}
use Rattle.load_gen.proofs.Parting.{batch_back, batch_ends, batch_unbegun}
use Rattle.load_gen.proofs.puts.put_batch.Goals as goal

pub returns-in-Err-clause-calls : goal.returns-in-Err-clause-calls
returns-in-Err-clause-calls g c =
    let n = c.args.events.now.n in
    let i = c.args.events.now.next in
    batch_unbegun g.C.Channel.stands g.C.Channel.tells g.C.Channel.moment c.args.pass.now.view c.begin_put.new.pass.view c.args.pass.now.number (events_from n i (min 100 (n - i))) c.in-Err.refused c.in-Err.ensures.call

pub returns-in-Ok-put_events-clause-calls : goal.returns-in-Ok-put_events-clause-calls
returns-in-Ok-put_events-clause-calls g c =
    let n = c.args.events.now.n in
    let i = c.args.events.now.next in
    let v = c.args.pass.now.view in
    let w = c.begin_put.new.pass.view in
    let x = c.put_events.new.pass.view in
    let y = c.commit_puts.new.pass.view in
    let token = c.in-Ok.txn in
    let one = c.in-Ok.ensures.same.1 in
    let two = c.in-Ok-put_events.ensures.same.1 ∙ one in
    let count : c.min-count.result ≡ min 100 (n - i) = let l = c.left.ensures in let m = c.min-count.ensures in omega (arith, l, m) in
    batch_ends g.C.Channel.stands g.C.Channel.tells g.C.Channel.moment v w x y c.args.pass.now.number c.begin_put.new.pass.number c.put_events.new.pass.number token c.put_events.new.txn (events_from n i (min 100 (n - i))) c.commit_puts.result c.in-Ok.ensures.call one
    (subst (λ (m : ℕ). Makes c.begin_put.new.pass.number w x (ArePut token (events_from n i m))) count c.in-Ok-put_events.ensures.puts) two c.in-Ok-put_events.ensures.token c.commit_puts.ensures.calls

pub returns-in-Err-put_events-clause-calls : goal.returns-in-Err-put_events-clause-calls
returns-in-Err-put_events-clause-calls g c =
    let n = c.args.events.now.n in
    let i = c.args.events.now.next in
    let v = c.args.pass.now.view in
    let w = c.begin_put.new.pass.view in
    let x = c.put_events.new.pass.view in
    let y = c.rollback_put.new.pass.view in
    let token = c.in-Ok.txn in
    let why = c.in-Err-put_events.refused in
    let one = c.in-Ok.ensures.same.1 in
    let two = c.in-Err-put_events.ensures.same.1 ∙ one in
    let count : c.min-count.result ≡ min 100 (n - i) = let l = c.left.ensures in let m = c.min-count.ensures in omega (arith, l, m) in
    batch_back g.C.Channel.stands g.C.Channel.tells g.C.Channel.moment v w x y c.args.pass.now.number c.begin_put.new.pass.number c.put_events.new.pass.number c.rollback_put.result token c.put_events.new.txn (events_from n i (min 100 (n - i))) why c.in-Ok.ensures.call one
    (subst (λ (m : ℕ). Makes c.begin_put.new.pass.number w x (ArePutUpTo (length x.seen) token (events_from n i m) (Err why))) count c.in-Err-put_events.ensures.puts) two c.in-Err-put_events.ensures.token c.rollback_put.ensures.call

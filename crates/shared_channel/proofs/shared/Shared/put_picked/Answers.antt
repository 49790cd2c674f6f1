use Rattle.std.proofs.Common.{◌≡◌, ◌+◌, ℕ, List, take, drop, get_or, slice_get, Some, refl, ap, ◌∙◌, subst}
use Rattle.std.proofs.lemmas.List.{take_all}
use Rattle.std.proofs.lemmas.Option.{slice_get-get_or}
use Rattle.event_core.specs.Content.{Content}
use Rattle.channel_face.specs.Faces.{ArePut, picked_events}
use Rattle.channel_face.proofs.Grammar.{picked_next, picked_split}
use Rattle.shared_channel.specs.Ports.{WentBy}
use Rattle.shared_channel.proofs.Porting.{puts_none, put_one, put_refused}
use Rattle.shared_channel.proofs.shared.Shared.put_picked.Goals as goal

pub loop-place-init : goal.loop-place-init
loop-place-init g c = record { puts = puts_none c.args.pass.now.number c.args.pass.now.view c.args.txn.now; token = refl; table = refl; number = refl }

pub loop-place-preserved : goal.loop-place-preserved
loop-place-preserved g c =
    let batch = c.args.batch.now in
    let picked = c.args.picked.now in
    let i = c.loop-place.place-index in
    let place : ℕ = get_or picked i 0 in
    let event = c.get.result.now in
    let at : slice_get picked i ≡ Some place = slice_get-get_or picked i 0 c.loop-place-test.true in
    record {
      puts = put_one g.C.Channel.stands g.C.Channel.tells g.C.Channel.moment c.args.pass.now.view c.loop-place.pass.view c.put.new.pass.view c.args.pass.now.number c.loop-place.pass.number c.args.txn.now c.loop-place.txn (picked_events batch (take i picked)) (picked_events batch (take (i + 1) picked)) event c.in_default.field-0 c.loop-place.invariant.puts c.in_default.ensures.call c.loop-place.invariant.number c.loop-place.invariant.token
          (picked_next batch picked i place event at c.get.ensures);
      token = c.in_default.ensures.token ∙ c.loop-place.invariant.token;
      table = c.in_default.ensures.same.0 ∙ c.loop-place.invariant.table;
      number = c.in_default.ensures.same.1 ∙ c.loop-place.invariant.number;
    }

pub returns-clause-puts : goal.returns-clause-puts
returns-clause-puts g c =
    let batch = c.args.batch.now in
    let picked = c.args.picked.now in
    let i = c.loop-place.place-index in
    subst (λ (l : List Content). WentBy c.args.pass.now.number c.args.pass.now.view c.loop-place.pass.view (λ earlier. ArePut c.args.txn.now l)) (ap (λ (l : List ℕ). picked_events batch l) (take_all i picked c.loop-place-test.false)) c.loop-place.invariant.puts

pub returns-in-Err-clause-puts : goal.returns-in-Err-clause-puts
returns-in-Err-clause-puts g c =
    let batch = c.args.batch.now in
    let picked = c.args.picked.now in
    let i = c.loop-place.place-index in
    let place : ℕ = get_or picked i 0 in
    let event = c.get.result.now in
    let at : slice_get picked i ≡ Some place = slice_get-get_or picked i 0 c.loop-place-test.true in
    put_refused g.C.Channel.stands g.C.Channel.tells g.C.Channel.moment c.args.pass.now.view c.loop-place.pass.view c.put.new.pass.view c.args.pass.now.number c.loop-place.pass.number c.args.txn.now c.loop-place.txn (picked_events batch (take i picked)) (picked_events batch picked) (picked_events batch (drop (i + 1) picked)) event c.in-Err.refused c.loop-place.invariant.puts c.in-Err.ensures.call c.loop-place.invariant.number c.loop-place.invariant.token
    (picked_split batch picked i place event at c.get.ensures)

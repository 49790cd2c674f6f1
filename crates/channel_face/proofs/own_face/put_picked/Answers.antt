use Rattle.std.proofs.Common.{◌≡◌, ◌+◌, ℕ, List, take, drop, get_or, slice_get, Some, refl, ap, ◌∙◌}
use Rattle.std.proofs.lemmas.List.{take_all}
use Rattle.std.proofs.lemmas.Option.{slice_get-get_or}
use Rattle.channel_face.specs.Faces.{picked_events}
use Rattle.channel_face.specs.OwnCalls.{continues_none, continues_then}
use Rattle.channel_face.proofs.Going.{continues_one}
use Rattle.channel_face.proofs.Grammar.{puts_none, put_one, put_refused, puts_as, picked_next, picked_split}
use Rattle.channel_face.proofs.own_face.put_picked.Goals as goal

pub loop-place-init : goal.loop-place-init
loop-place-init g c = record { puts = puts_none (g.C.Channel.stands c.args.channel.now) c.args.txn.now; kept = continues_none (g.C.Channel.stands c.args.channel.now); same = refl }

pub loop-place-preserved : goal.loop-place-preserved
loop-place-preserved g c =
    let a = g.C.Channel.stands c.args.channel.now in
    let b = g.C.Channel.stands c.loop-place.channel in
    let d = g.C.Channel.stands c.put.new.self in
    let batch = c.args.batch.now in
    let picked = c.args.picked.now in
    let i = c.loop-place.place-index in
    let place : ℕ = get_or picked i 0 in
    let event = c.get.result.now in
    let at : slice_get picked i ≡ Some place = slice_get-get_or picked i 0 c.loop-place-test.true in
    record {
      puts = put_one (g.C.Channel.tells c.put.new.self) a b d c.args.txn.now c.loop-place.txn (picked_events batch (take i picked)) (picked_events batch (take (i + 1) picked)) event c.in_default.field-0 (g.C.Channel.moment c.put.new.self) c.loop-place.invariant.puts c.in_default.ensures.step (g.met.C.Channel.is_run c.put.new.self) c.loop-place.invariant.same
          (picked_next batch picked i place event at c.get.ensures);
      kept = continues_then a b d c.loop-place.invariant.kept (continues_one b d _ _ c.in_default.ensures.step);
      same = c.in_default.ensures.same ∙ c.loop-place.invariant.same;
    }

pub returns-clause-puts : goal.returns-clause-puts
returns-clause-puts g c =
    let batch = c.args.batch.now in
    let picked = c.args.picked.now in
    let i = c.loop-place.place-index in
    puts_as (g.C.Channel.stands c.args.channel.now) (g.C.Channel.stands c.loop-place.channel) c.args.txn.now (picked_events batch (take i picked)) (picked_events batch picked) (ap (λ (l : List ℕ). picked_events batch l) (take_all i picked c.loop-place-test.false)) c.loop-place.invariant.puts

pub returns-in-Err-clause-puts : goal.returns-in-Err-clause-puts
returns-in-Err-clause-puts g c =
    let a = g.C.Channel.stands c.args.channel.now in
    let b = g.C.Channel.stands c.loop-place.channel in
    let d = g.C.Channel.stands c.put.new.self in
    let batch = c.args.batch.now in
    let picked = c.args.picked.now in
    let i = c.loop-place.place-index in
    let place : ℕ = get_or picked i 0 in
    let event = c.get.result.now in
    let at : slice_get picked i ≡ Some place = slice_get-get_or picked i 0 c.loop-place-test.true in
    put_refused (g.C.Channel.tells c.put.new.self) a b d c.args.txn.now c.loop-place.txn (picked_events batch (take i picked)) (picked_events batch picked) (picked_events batch (drop (i + 1) picked)) event c.in-Err.refused (g.C.Channel.moment c.put.new.self) c.loop-place.invariant.puts c.in-Err.ensures.step (g.met.C.Channel.is_run c.put.new.self) c.loop-place.invariant.same
    (picked_split batch picked i place event at c.get.ensures)

pub returns-in-Err-clause-kept : goal.returns-in-Err-clause-kept
returns-in-Err-clause-kept g c =
    let b = g.C.Channel.stands c.loop-place.channel in
    let d = g.C.Channel.stands c.put.new.self in
    continues_then (g.C.Channel.stands c.args.channel.now) b d c.loop-place.invariant.kept (continues_one b d _ _ c.in-Err.ensures.step)

use Rattle.std.proofs.Common.{◌≡◌, ◌∙◌, List, set, ap, sym, subst, true}
use Rattle.std.proofs.lemmas.List.{get_or_default}
use Rattle.std.specs.List.{insert}
use Rattle.shared_channel.specs.Passes.{Known}
use Rattle.sink_worker.specs.Rounds.{told}
use Rattle.channel_lock.specs.Calls.{has}
use Rattle.two_channels.specs.Shares.{table_of}
use Rattle.run_settling.specs.Draining.{IsDrainedAt, IsDrainedHome}
use Rattle.run_settling.proofs.Chaining.{drained_set, put_back}
use Rattle.run_settling.proofs.draining.drain_at.Goals as goal

pub drain_through-end-requires-clause-table : goal.drain_through-end-requires-clause-table
drain_through-end-requires-clause-table g c =
    let homes = c.args.homes.now.items in
    let place = c.args.worker.channel in
    let home = c.remove-home.result in
    let share = c.index-shares-place in
    let at = c.requires.homes.each place home c.requires.worker.0 in
    ap (λ (k : Known). k.table_id) c.remove-home.ensures.value ∙ at.here share.result ∙ ap table_of (sym share.is)

pub drain_through-end-requires-clause-own : goal.drain_through-end-requires-clause-own
drain_through-end-requires-clause-own g c =
    subst (λ (k : Known). has k.view.numbers k.number ≡ true) (sym c.remove-home.ensures.value) (c.requires.own c.args.worker.channel c.remove-home.result c.requires.worker.0)

pub drain_through-end-requires-clause-number : goal.drain_through-end-requires-clause-number
drain_through-end-requires-clause-number g c =
    subst (λ (k : Known). has k.view.numbers c.args.worker.port.number ≡ true) (sym c.remove-home.ensures.value) (c.requires.worker.1 c.remove-home.result)

pub returns : goal.returns
returns g c =
    let homes = c.args.homes.now.items in
    let w = c.args.worker in
    let home = c.remove-home.result in
    let drained = c.drain_through-end in
    let below = c.requires.worker.0 in
    let sink = told g.S.EventSink.delivers g.S.EventSink.faults in
    let set_in : c.insert.new.self.items ≡ set homes w.channel drained.result.pass = c.in-Ok.ensures.items ∙ ap (λ (l : List Known). insert l w.channel drained.result.pass) c.remove-home.ensures.items ∙ put_back homes w.channel drained.result.pass below in
    subst (λ (l : List Known). IsDrainedAt sink g.C.Clock.moments w homes drained.result.end drained.result.sink l) (sym set_in)
    (drained_set sink g.C.Clock.moments w homes drained.result.end drained.result.sink drained.result.pass below
    (λ d. subst (λ (k : Known). IsDrainedHome sink g.C.Clock.moments w k drained.result.end drained.result.sink drained.result.pass) (c.remove-home.ensures.value ∙ get_or_default homes w.channel home d below) drained.ensures))

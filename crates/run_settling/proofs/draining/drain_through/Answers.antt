use Rattle.std.proofs.Common.{◌≡◌, ◌∙◌, ℕ, List, ap, subst, sym, true}
use Rattle.shared_channel.specs.Passes.{Known}
use Rattle.sink_worker.specs.Rounds.{told}
use Rattle.channel_lock.specs.Calls.{has}
use Rattle.run_settling.specs.Draining.{under}
use Rattle.run_settling.proofs.Chaining.{drained_under, turned_to}
use Rattle.run_settling.proofs.draining.drain_through.Goals as goal

pub returns : goal.returns
returns g c =
    let home = c.args.home in
    let n = c.args.worker.port.number in
    let first = c.turn_to.new.self in
    let drained = c.drain_home-end in
    let last = drained.result.pass in
    let turned : first ≡ under n home = turned_to home first n c.turn_to.result c.turn_to.ensures.own c.requires.number c.turn_to.ensures.same c.turn_to.ensures.number in
    let mine : has last.view.numbers home.number ≡ true = subst (λ (l : List ℕ). has l home.number ≡ true) (sym (drained.ensures.later.numbers ∙ ap (λ (k : Known). k.view.numbers) turned)) c.requires.own in
    let again = c.turn_to-2 in
    let own : again.new.self ≡ under home.number last = subst (λ (k : ℕ). again.new.self ≡ under k last) c.number-own.ensures
    (turned_to last again.new.self c.number-own.result again.result again.ensures.own (subst (λ (k : ℕ). has last.view.numbers k ≡ true) (sym c.number-own.ensures) mine) again.ensures.same again.ensures.number) in
    drained_under (told g.S.EventSink.delivers g.S.EventSink.faults) g.C.Clock.moments c.args.worker drained.result.end drained.result.sink (g.C.Clock.moments drained.result.clock)
    home first last again.new.self turned own drained.ensures.later drained.ensures.track drained.ensures.none

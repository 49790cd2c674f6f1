use Rattle.std.proofs.Common.{◌∙◌, ap, sym, Some}
use Rattle.world_laws.specs.World.{Work}
use Rattle.hop_core.specs.contracts.work.Work.{the_view}
use Rattle.hop_core.proofs.Live.{changed_at, alive_there}
use Rattle.hop_core.proofs.work.set_entries.Goals as goal

pub returns-in-Some : goal.returns-in-Some
returns-in-Some c = λ a alive.
    let at = c.index-works-place in
    changed_at c.args.works.now c.args.number at.result (the_view c.work.inside) a (λ (x : Work). record x { entries = c.args.entries.items }) c.if-place-works.true at.is (at.is ∙ (c.in-Some.is ∙ ap (λ (x : Work). Some x) (sym c.work.view_is))) alive

pub returns-in_default : goal.returns-in_default
returns-in_default c = λ a alive.
    let at = c.index-works-place in
    alive_there c.args.works.now c.args.number at.result a c.if-place-works.true at.is (at.is ∙ c.in_default.is) alive

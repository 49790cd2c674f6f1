use Rattle.std.proofs.Common.{◌∙◌, ap, sym, Option}
use Rattle.std.specs.List.{slice_set}
use Rattle.std.proofs.lemmas.List.Edits.{map_over_more}
use Rattle.world_laws.specs.World.{Work}
use Rattle.hop_core.specs.Ending.{unless_from}
use Rattle.hop_core.proofs.Live.{works_left, map_all}
use Rattle.hop_core.proofs.work.end_works.Goals as goal

pub loop-number-preserved : goal.loop-number-preserved
loop-number-preserved c =
    let l = c.loop-number in
    let at = c.index-works-number in
    let f : Option Work → Option Work = unless_from c.args.channel c.args.place in
    ap (λ (x : Option Work). slice_set l.works l.number x) (c.end_work_from.ensures ∙ ap f (sym at.is)) ∙ map_over_more f c.args.works.now l.works l.number at.result c.loop-number-test.true l.invariant at.is

pub returns : goal.returns
returns c = map_all (unless_from c.args.channel c.args.place) c.args.works.now c.loop-number.works c.loop-number.number c.loop-number.invariant c.loop-number-test.false ∙ sym (works_left c.args.channel c.args.place c.args.works.now)

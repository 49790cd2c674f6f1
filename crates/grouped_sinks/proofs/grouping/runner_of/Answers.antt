use Rattle.std.proofs.Common.{◌≡◌, ◌∙◌, ◌<◌, ◌∷◌, ℕ, List, [], Some, length, get_or, set, slice_get, refl, sym, ap, subst}
use Rattle.std.proofs.lemmas.Option.{slice_get_read}
use Rattle.agent_sinks.specs.declared.sink.AgentSink.{AgentSink}
use Rattle.grouped_sinks.specs.Picks.{ArePicked, KeepsOthers}
use Rattle.grouped_sinks.specs.Rows.{AreBelow}
use Rattle.grouped_sinks.proofs.Picking.{alone_frame, group_frame, keeps_set, one_is, zips_length}
use Rattle.grouped_sinks.proofs.grouping.runner_of.Goals as goal

pub of-run-requires : goal.of-run-requires
of-run-requires g c =
    let S = AgentSink g.row.R.Denot g.row.A.Denot g.row.B.Denot in
    let row = c.args.row.now in
    sym (zips_length (λ (p : ℕ) (s : S). slice_get c.args.sinks.now p ≡ Some s) c.as_slice-places.result.now c.take_sinks.new.members.items c.take_sinks.ensures.picked)
    ∙ ap length c.as_slice-places.ensures.value
    ∙ group_frame c.args.groups.now row.group (length row.places.items) c.args.frame c.in-Group.schedule c.in-Group.room c.in-Group.random c.in-Group.is c.requires.frame

pub returns-in-Alone-clause-picked : goal.returns-in-Alone-clause-picked
returns-in-Alone-clause-picked g c =
    let S = AgentSink g.row.R.Denot g.row.A.Denot g.row.B.Denot in
    let row = c.args.row.now in
    let sinks = c.args.sinks.now in
    let places = c.as_slice-places.result.now in
    let p = get_or places 0 0 in
    let is = c.as_slice-places.ensures.value in
    let one : places ≡ p ∷ [] = one_is places (ap length is ∙ alone_frame c.args.groups.now row.group (length row.places.items) c.args.frame c.in-Alone.is c.requires.frame) in
    let low : p < length sinks = (subst (AreBelow (length sinks)) (sym is ∙ one) c.requires.within).0 in
    let here : slice_get sinks p ≡ Some c.replace.result =
    slice_get_read sinks (length sinks) p c.index-sinks-places.result refl low c.index-sinks-places.is ∙ ap (λ (s : S). Some s) (c.index-sinks-places.is ∙ sym c.replace.ensures.value) in
    subst (λ (l : List ℕ). ArePicked sinks l (c.replace.result ∷ [])) (sym one ∙ is) (here, tt)

pub returns-in-Alone-clause-others : goal.returns-in-Alone-clause-others
returns-in-Alone-clause-others g c =
    let row = c.args.row.now in
    let sinks = c.args.sinks.now in
    let places = c.as_slice-places.result.now in
    let p = get_or places 0 0 in
    let is = c.as_slice-places.ensures.value in
    let one : places ≡ p ∷ [] = one_is places (ap length is ∙ alone_frame c.args.groups.now row.group (length row.places.items) c.args.frame c.in-Alone.is c.requires.frame) in
    subst (λ (l : List ℕ). KeepsOthers l sinks (set sinks p c.replace.new.dest)) (sym one ∙ is) (keeps_set sinks p c.replace.new.dest)

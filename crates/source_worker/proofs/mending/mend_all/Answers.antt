use Rattle.std.proofs.Common.{◌≡◌, ◌∙◌, ◌++◌, [], ◌∷◌, length, set, refl, sym, ap, arith, length-set}
use Rattle.source_put.specs.declared.intake.Intake.{Intake}
use Rattle.source_worker.specs.Rounds.{MendsPort, any_refused}
use Rattle.source_worker.proofs.Mended.{all_mended, mends_all, one_mended, refused_err, refused_ok}
use Rattle.source_worker.proofs.mending.mend_all.Goals as goal
use Rattle.source_worker.proofs.mending.mend_all.Goals.{then-is_err, else-is_err}

pub loop-place-init : goal.loop-place-init
loop-place-init g c = record {
  answers = [];
  left = mends_all (MendsPort g.F.Face.own g.F.Face.saw g.F.Face.seen g.F.Face.kept g.F.MendFace.on_disk) c.args.intake.now.ports;
  refused = refl;
  as_many = refl;
  same = refl;
}

pub port-requires : goal.port-requires
port-requires g c =
    let same : length c.loop-place.intake.ports ≡ length c.args.intake.now.ports = c.loop-place.invariant.as_many in
    omega (arith, c.loop-place-test.true, c.port_count-place-end.ensures, same)

pub loop-place-preserved : goal.loop-place-preserved
loop-place-preserved g c =
    let i = c.loop-place.invariant in
    let same : length c.loop-place.intake.ports ≡ length c.args.intake.now.ports = i.as_many in
    let is : c.if-is_err.refused ≡ any_refused (i.answers ++ c.mend.result ∷ []) =
    elim c.if-is_err.branch [
      | then-is_err w ↦ refused_err i.answers c.mend.result c.if-is_err.refused w.refused-is (sym c.is_err.ensures.value ∙ w.if-is_err.true)
      | else-is_err w ↦ refused_ok i.answers c.mend.result c.if-is_err.refused (w.refused-is ∙ i.refused) (sym c.is_err.ensures.value ∙ w.if-is_err.false)
    ] in
    record {
      answers = i.answers ++ c.mend.result ∷ [];
      left = one_mended (MendsPort g.F.Face.own g.F.Face.saw g.F.Face.seen g.F.Face.kept g.F.MendFace.on_disk) c.args.intake.now.ports c.loop-place.intake.ports c.loop-place.place c.port.result.now c.mend.new.face
          (omega (arith, c.loop-place-test.true, c.port_count-place-end.ensures, same)) c.port.ensures.value i.answers c.mend.result i.left (record { later = c.mend.ensures.seen; same = c.mend.ensures.kept; calls = c.mend.ensures.calls });
      refused = is;
      as_many = length-set c.loop-place.intake.ports c.loop-place.place c.mend.new.face ∙ same;
      same = ap (λ (p : Intake g.row.F.Denot g.row.B.Denot). record p { ports = set c.loop-place.intake.ports c.loop-place.place c.mend.new.face }) i.same;
    }

pub returns-clause-mends : goal.returns-clause-mends
returns-clause-mends g c =
    let i = c.loop-place.invariant in
    let same : length c.loop-place.intake.ports ≡ length c.args.intake.now.ports = i.as_many in (
      i.answers,
      all_mended (MendsPort g.F.Face.own g.F.Face.saw g.F.Face.seen g.F.Face.kept g.F.MendFace.on_disk) c.args.intake.now.ports c.loop-place.intake.ports c.loop-place.place i.answers (omega (arith, c.loop-place-test.false, c.port_count-place-end.ensures, same)) i.left,
      i.refused,
    )

pub returns-clause-same : goal.returns-clause-same
returns-clause-same g c = c.loop-place.invariant.same

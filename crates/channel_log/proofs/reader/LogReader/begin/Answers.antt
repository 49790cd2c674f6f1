use Rattle.std.proofs.Common.{refl, sym, subst, Option, ℕ}
use Rattle.std.proofs.lemmas.Result.{err_from_is_err_and}
use Rattle.flume_host.specs.Told.{Told}
use Rattle.channel_log.specs.Reader.{HasFile, IsBirthOf}
use Rattle.channel_log.proofs.Begins.{begin_bad, begins_full, begun_is, drops_then, drops_else, not_bad, size_is}
use Rattle.channel_log.proofs.reader.LogReader.begin.Goals as goal
use Rattle.channel_log.proofs.reader.LogReader.begin.Goals.{then-birth-eq-BEGUN, else-birth-eq-BEGUN}

pub returns-in_err-birth-clause-bad : goal.returns-in_err-birth-clause-bad
returns-in_err-birth-clause-bad g c =
    let p = err_from_is_err_and c.from_residual.result c.from_residual.ensures.1 in
    rw (p.1, p.2) (begin_bad _ _ c.args.number c.in-Ok.size _ c.in-Ok.ensures.same (λ bytes has. size_is _ c.args.number c.in-Ok.size bytes has c.in-Ok.ensures.length) c.in_err-birth.ensures.bad)

pub returns-after-birth-eq-BEGUN-clause-remains : goal.returns-after-birth-eq-BEGUN-clause-remains
returns-after-birth-eq-BEGUN-clause-remains g c = λ bytes content has holds at.
    let long = size_is _ c.args.number c.in-Ok.size bytes has c.in-Ok.ensures.length in
    let here : HasFile (g.D.Disk.told c.len.new.self) c.args.number bytes = subst (λ (o : Option Told). HasFile o c.args.number bytes) (sym c.in-Ok.ensures.same) has in
    let b = subst (λ (o : Option ℕ). IsBirthOf o c.args.number bytes) c.in-Some.is (c.in_ok-birth.ensures.birth bytes here long) in
    begins_full _ c.args.number c.in-Some.birth bytes content b refl refl c.new-read.ensures.items at long holds

pub returns-after-birth-eq-BEGUN-clause-drops : goal.returns-after-birth-eq-BEGUN-clause-drops
returns-after-birth-eq-BEGUN-clause-drops g c = λ bytes content has holds.
    let long = size_is _ c.args.number c.in-Ok.size bytes has c.in-Ok.ensures.length in
    let here : HasFile (g.D.Disk.told c.len.new.self) c.args.number bytes = subst (λ (o : Option Told). HasFile o c.args.number bytes) (sym c.in-Ok.ensures.same) has in
    let b = subst (λ (o : Option ℕ). IsBirthOf o c.args.number bytes) c.in-Some.is (c.in_ok-birth.ensures.birth bytes here long) in
    let begun = begun_is c.args.number c.in-Some.birth bytes content b holds in
    elim c.if-birth-eq-BEGUN.branch [
      | then-birth-eq-BEGUN w ↦ drops_then c.if-birth-eq-BEGUN.result c.args.at c.in-Some.birth content w.result-is w.if-birth-eq-BEGUN.true begun
      | else-birth-eq-BEGUN w ↦ drops_else c.if-birth-eq-BEGUN.result c.args.at c.in-Some.birth content w.result-is w.if-birth-eq-BEGUN.false begun
    ]

pub returns-after-birth-eq-BEGUN-clause-tested : goal.returns-after-birth-eq-BEGUN-clause-tested
returns-after-birth-eq-BEGUN-clause-tested g c = λ bytes has holds.
    let long = size_is _ c.args.number c.in-Ok.size bytes has c.in-Ok.ensures.length in
    let here : HasFile (g.D.Disk.told c.len.new.self) c.args.number bytes = subst (λ (o : Option Told). HasFile o c.args.number bytes) (sym c.in-Ok.ensures.same) has in
    let b = subst (λ (o : Option ℕ). IsBirthOf o c.args.number bytes) c.in-Some.is (c.in_ok-birth.ensures.birth bytes here long) in
    not_bad c.args.number c.in-Some.birth bytes b holds

use Rattle.std.proofs.Common.{◌∙◌}
use Rattle.std.proofs.lemmas.Result.{err_from_is_err_and}
use Rattle.flume_host.specs.Folder.{Files}
use Rattle.checkpoint_reading.specs.Draft.{OpenGive, live_text}
use Rattle.checkpoint_reading.specs.Fields.{End, Gives, ListsGive, Outcome}
use Rattle.checkpoint_reading.specs.Opens.{TakenGive}
use Rattle.checkpoint_reading.specs.Reader.{Goes}
use Rattle.checkpoint_reading.proofs.AtEnd.{fresh_itself, lists_bad, lists_of, some_txn}
use Rattle.checkpoint_reading.proofs.Stepping.{err_is, faults_before, goes_then, same_then}
use Rattle.checkpoint_reading.proofs.whole.read_text.Goals as goal

pub read_live-requires-clause-fresh : goal.read_live-requires-clause-fresh
read_live-requires-clause-fresh g c = fresh_itself c.in_ok-place.place c.in_ok-place.next c.in-Ok.draft c.in-Ok.ensures

pub read_puts-requires-clause-some : goal.read_puts-requires-clause-some
read_puts-requires-clause-some g c = some_txn c.in_ok-place.place c.in_ok-place.next c.in-Ok.draft c.read_live.new.draft c.in-Ok.ensures c.read_live.ensures.of c.in_ok-place.ensures.some

pub read_takes-requires-clause-puts : goal.read_takes-requires-clause-puts
read_takes-requires-clause-puts g c = (c.in_ok-read_puts.ensures.read.0, c.in_ok-read_puts.ensures.read.1)

pub returns-in_err-read_live-clause-bad : goal.returns-in_err-read_live-clause-bad
returns-in_err-read_live-clause-bad g c =
    let p = err_from_is_err_and c.from_residual-in_err-read_live.result c.from_residual-in_err-read_live.ensures.1 in
    err_is _ _ p.0 _ p.1 p.2 (faults_before _ _ c.args.reader.now c.read_head.new.reader Gives (λ (files : Files) (o : Outcome). ListsGive files o c.in_ok-place.place c.in_ok-place.next) _ c.read_head.ensures.same c.read_head.ensures.file c.in_ok-place.ensures.goes
    (lists_bad _ c.read_head.new.reader c.in_ok-place.place c.in_ok-place.next c.in-Ok.draft _ c.in-Ok.ensures c.in_err-read_live.ensures.bad))

pub returns-in_err-read_puts-clause-bad : goal.returns-in_err-read_puts-clause-bad
returns-in_err-read_puts-clause-bad g c =
    let f2 = same_then c.args.reader.now c.read_head.new.reader c.read_live.new.reader c.read_head.ensures.file c.read_live.ensures.file in
    let g2 : Goes _ c.args.reader.now c.read_live.new.reader Gives (λ (files : Files) (o : Outcome). OpenGive files o (live_text c.read_live.new.draft)) =
    goes_then _ _ c.args.reader.now c.read_head.new.reader c.read_live.new.reader Gives (λ (files : Files) (o : Outcome). ListsGive files o c.in_ok-place.place c.in_ok-place.next) (λ (files : Files) (o : Outcome). OpenGive files o (live_text c.read_live.new.draft))
    c.read_head.ensures.same c.in_ok-place.ensures.goes (lists_of _ c.read_head.new.reader c.read_live.new.reader c.in_ok-place.place c.in_ok-place.next c.in-Ok.draft (λ (files : Files) (o : Outcome). OpenGive files o (live_text c.read_live.new.draft)) c.in-Ok.ensures c.in_ok-read_live.ensures.goes) in
    let p = err_from_is_err_and c.from_residual-in_err-read_puts.result c.from_residual-in_err-read_puts.ensures.1 in
    err_is _ _ p.0 _ p.1 p.2 (faults_before _ _ c.args.reader.now c.read_live.new.reader Gives (λ (files : Files) (o : Outcome). OpenGive files o (live_text c.read_live.new.draft)) _ (c.read_live.ensures.same ∙ c.read_head.ensures.same) f2 g2 c.in_err-read_puts.ensures.bad)

pub returns-in_err-read_takes-clause-bad : goal.returns-in_err-read_takes-clause-bad
returns-in_err-read_takes-clause-bad g c =
    let text = c.in_ok-read_puts.ensures.read.0 in
    let f2 = same_then c.args.reader.now c.read_head.new.reader c.read_live.new.reader c.read_head.ensures.file c.read_live.ensures.file in
    let f3 = same_then c.args.reader.now c.read_live.new.reader c.read_puts.new.reader f2 c.read_puts.ensures.file in
    let s2 = c.read_live.ensures.same ∙ c.read_head.ensures.same in
    let g2 : Goes _ c.args.reader.now c.read_live.new.reader Gives (λ (files : Files) (o : Outcome). OpenGive files o (live_text c.read_live.new.draft)) =
    goes_then _ _ c.args.reader.now c.read_head.new.reader c.read_live.new.reader Gives (λ (files : Files) (o : Outcome). ListsGive files o c.in_ok-place.place c.in_ok-place.next) (λ (files : Files) (o : Outcome). OpenGive files o (live_text c.read_live.new.draft))
    c.read_head.ensures.same c.in_ok-place.ensures.goes (lists_of _ c.read_head.new.reader c.read_live.new.reader c.in_ok-place.place c.in_ok-place.next c.in-Ok.draft (λ (files : Files) (o : Outcome). OpenGive files o (live_text c.read_live.new.draft)) c.in-Ok.ensures c.in_ok-read_live.ensures.goes) in
    let g3 : Goes _ c.args.reader.now c.read_puts.new.reader Gives (λ (files : Files) (o : Outcome). TakenGive files o text) =
    goes_then _ _ c.args.reader.now c.read_live.new.reader c.read_puts.new.reader Gives (λ (files : Files) (o : Outcome). OpenGive files o (live_text c.read_live.new.draft)) (λ (files : Files) (o : Outcome). TakenGive files o text) s2 g2 c.in_ok-read_puts.ensures.read.2 in
    let p = err_from_is_err_and c.from_residual-in_err-read_takes.result c.from_residual-in_err-read_takes.ensures.1 in
    err_is _ _ p.0 _ p.1 p.2 (faults_before _ _ c.args.reader.now c.read_puts.new.reader Gives (λ (files : Files) (o : Outcome). TakenGive files o text) _ (c.read_puts.ensures.same ∙ s2) f3 g3 (c.in_err-read_takes.ensures.bad text c.in_ok-read_puts.ensures.read.1))

pub returns-clause-read : goal.returns-clause-read
returns-clause-read g c =
    let text = c.in_ok-read_puts.ensures.read.0 in
    let taken = c.in_ok-read_takes.ensures.read text c.in_ok-read_puts.ensures.read.1 in
    let s2 = c.read_live.ensures.same ∙ c.read_head.ensures.same in
    let g2 : Goes _ c.args.reader.now c.read_live.new.reader Gives (λ (files : Files) (o : Outcome). OpenGive files o (live_text c.read_live.new.draft)) =
    goes_then _ _ c.args.reader.now c.read_head.new.reader c.read_live.new.reader Gives (λ (files : Files) (o : Outcome). ListsGive files o c.in_ok-place.place c.in_ok-place.next) (λ (files : Files) (o : Outcome). OpenGive files o (live_text c.read_live.new.draft))
    c.read_head.ensures.same c.in_ok-place.ensures.goes (lists_of _ c.read_head.new.reader c.read_live.new.reader c.in_ok-place.place c.in_ok-place.next c.in-Ok.draft (λ (files : Files) (o : Outcome). OpenGive files o (live_text c.read_live.new.draft)) c.in-Ok.ensures c.in_ok-read_live.ensures.goes) in
    let g3 : Goes _ c.args.reader.now c.read_puts.new.reader Gives (λ (files : Files) (o : Outcome). TakenGive files o text) =
    goes_then _ _ c.args.reader.now c.read_live.new.reader c.read_puts.new.reader Gives (λ (files : Files) (o : Outcome). OpenGive files o (live_text c.read_live.new.draft)) (λ (files : Files) (o : Outcome). TakenGive files o text) s2 g2 c.in_ok-read_puts.ensures.read.2 in (
      taken.0,
      taken.1,
      goes_then _ _ c.args.reader.now c.read_puts.new.reader c.read_takes.new.reader Gives (λ (files : Files) (o : Outcome). TakenGive files o text) (λ (files : Files) (o : Outcome). End taken.0 o) (c.read_puts.ensures.same ∙ s2) g3 taken.2,
    )

pub read_head-requires-clause-known : goal.read_head-requires-clause-known
read_head-requires-clause-known g c = c.new-known.ensures _

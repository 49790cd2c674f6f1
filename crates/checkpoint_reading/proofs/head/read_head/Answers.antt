use Rattle.std.proofs.Common.{◌∙◌}
use Rattle.std.proofs.lemmas.Result.{err_from_is_err_and}
use Rattle.flume_host.specs.Folder.{Files}
use Rattle.checkpoint_reading.specs.Fields.{FormGives, Gives, ListsGive, NumbersGive, OffsetGives, Outcome, PlaceGives, TxnGives}
use Rattle.checkpoint_reading.specs.Reader.{Goes}
use Rattle.checkpoint_reading.proofs.Stepping.{err_is, faults_before, goes_then, same_then}
use Rattle.checkpoint_reading.proofs.head.read_head.Goals as goal

pub returns-in_err-read_form-clause-bad : goal.returns-in_err-read_form-clause-bad
returns-in_err-read_form-clause-bad g c =
    let s1 = c.read_text.ensures.same in
    let f1 = c.read_text.ensures.file in
    let g1 : Goes _ c.args.reader.now c.read_text.new.reader Gives FormGives = c.in_ok-read_text.ensures.goes in
    let p = err_from_is_err_and c.from_residual-in_err-read_form.result c.from_residual-in_err-read_form.ensures.1 in
    err_is _ _ p.0 _ p.1 p.2 (faults_before _ _ c.args.reader.now c.read_text.new.reader Gives FormGives _ s1 f1 g1 c.in_err-read_form.ensures.bad)

pub returns-in_err-number-clause-bad : goal.returns-in_err-number-clause-bad
returns-in_err-number-clause-bad g c =
    let s1 = c.read_text.ensures.same in
    let f1 = c.read_text.ensures.file in
    let g1 : Goes _ c.args.reader.now c.read_text.new.reader Gives FormGives = c.in_ok-read_text.ensures.goes in
    let s2 = c.read_form.ensures.same ∙ s1 in
    let f2 = same_then c.args.reader.now c.read_text.new.reader c.read_form.new.reader f1 c.read_form.ensures.file in
    let g2 : Goes _ c.args.reader.now c.read_form.new.reader Gives PlaceGives = goes_then _ _ c.args.reader.now c.read_text.new.reader c.read_form.new.reader Gives FormGives PlaceGives s1 g1 c.in_ok-read_form.ensures.goes in
    let p = err_from_is_err_and c.from_residual-in_err-number.result c.from_residual-in_err-number.ensures.1 in
    err_is _ _ p.0 _ p.1 p.2 (faults_before _ _ c.args.reader.now c.read_form.new.reader Gives PlaceGives _ s2 f2 g2 c.in_err-number.ensures.bad)

pub returns-in_err-place-clause-bad : goal.returns-in_err-place-clause-bad
returns-in_err-place-clause-bad g c =
    let s1 = c.read_text.ensures.same in
    let f1 = c.read_text.ensures.file in
    let g1 : Goes _ c.args.reader.now c.read_text.new.reader Gives FormGives = c.in_ok-read_text.ensures.goes in
    let s2 = c.read_form.ensures.same ∙ s1 in
    let f2 = same_then c.args.reader.now c.read_text.new.reader c.read_form.new.reader f1 c.read_form.ensures.file in
    let g2 : Goes _ c.args.reader.now c.read_form.new.reader Gives PlaceGives = goes_then _ _ c.args.reader.now c.read_text.new.reader c.read_form.new.reader Gives FormGives PlaceGives s1 g1 c.in_ok-read_form.ensures.goes in
    let s3 = c.read_file.ensures.same ∙ s2 in
    let f3 = same_then c.args.reader.now c.read_form.new.reader c.read_file.new.reader f2 c.read_file.ensures.file in
    let g3 : Goes _ c.args.reader.now c.read_file.new.reader Gives (λ (files : Files) (o : Outcome). OffsetGives files o c.in_ok-number.number) = goes_then _ _ c.args.reader.now c.read_form.new.reader c.read_file.new.reader Gives PlaceGives (λ (files : Files) (o : Outcome). OffsetGives files o c.in_ok-number.number) s2 g2 c.in_ok-number.ensures.goes in
    let p = err_from_is_err_and c.from_residual-in_err-place.result c.from_residual-in_err-place.ensures.1 in
    err_is _ _ p.0 _ p.1 p.2 (faults_before _ _ c.args.reader.now c.read_file.new.reader Gives (λ (files : Files) (o : Outcome). OffsetGives files o c.in_ok-number.number) _ s3 f3 g3 c.in_err-place.ensures.bad)

pub returns-in_err-next_number-clause-bad : goal.returns-in_err-next_number-clause-bad
returns-in_err-next_number-clause-bad g c =
    let s1 = c.read_text.ensures.same in
    let f1 = c.read_text.ensures.file in
    let g1 : Goes _ c.args.reader.now c.read_text.new.reader Gives FormGives = c.in_ok-read_text.ensures.goes in
    let s2 = c.read_form.ensures.same ∙ s1 in
    let f2 = same_then c.args.reader.now c.read_text.new.reader c.read_form.new.reader f1 c.read_form.ensures.file in
    let g2 : Goes _ c.args.reader.now c.read_form.new.reader Gives PlaceGives = goes_then _ _ c.args.reader.now c.read_text.new.reader c.read_form.new.reader Gives FormGives PlaceGives s1 g1 c.in_ok-read_form.ensures.goes in
    let s3 = c.read_file.ensures.same ∙ s2 in
    let f3 = same_then c.args.reader.now c.read_form.new.reader c.read_file.new.reader f2 c.read_file.ensures.file in
    let g3 : Goes _ c.args.reader.now c.read_file.new.reader Gives (λ (files : Files) (o : Outcome). OffsetGives files o c.in_ok-number.number) = goes_then _ _ c.args.reader.now c.read_form.new.reader c.read_file.new.reader Gives PlaceGives (λ (files : Files) (o : Outcome). OffsetGives files o c.in_ok-number.number) s2 g2 c.in_ok-number.ensures.goes in
    let s4 = c.read_offset.ensures.same ∙ s3 in
    let f4 = same_then c.args.reader.now c.read_file.new.reader c.read_offset.new.reader f3 c.read_offset.ensures.file in
    let g4 : Goes _ c.args.reader.now c.read_offset.new.reader Gives (λ (files : Files) (o : Outcome). NumbersGive files o c.in_ok-place.place) = goes_then _ _ c.args.reader.now c.read_file.new.reader c.read_offset.new.reader Gives (λ (files : Files) (o : Outcome). OffsetGives files o c.in_ok-number.number) (λ (files : Files) (o : Outcome). NumbersGive files o c.in_ok-place.place) s3 g3 c.in_ok-place.ensures.goes in
    let p = err_from_is_err_and c.from_residual-in_err-next_number.result c.from_residual-in_err-next_number.ensures.1 in
    err_is _ _ p.0 _ p.1 p.2 (faults_before _ _ c.args.reader.now c.read_offset.new.reader Gives (λ (files : Files) (o : Outcome). NumbersGive files o c.in_ok-place.place) _ s4 f4 g4 c.in_err-next_number.ensures.bad)

pub returns-in_err-next-clause-bad : goal.returns-in_err-next-clause-bad
returns-in_err-next-clause-bad g c =
    let s1 = c.read_text.ensures.same in
    let f1 = c.read_text.ensures.file in
    let g1 : Goes _ c.args.reader.now c.read_text.new.reader Gives FormGives = c.in_ok-read_text.ensures.goes in
    let s2 = c.read_form.ensures.same ∙ s1 in
    let f2 = same_then c.args.reader.now c.read_text.new.reader c.read_form.new.reader f1 c.read_form.ensures.file in
    let g2 : Goes _ c.args.reader.now c.read_form.new.reader Gives PlaceGives = goes_then _ _ c.args.reader.now c.read_text.new.reader c.read_form.new.reader Gives FormGives PlaceGives s1 g1 c.in_ok-read_form.ensures.goes in
    let s3 = c.read_file.ensures.same ∙ s2 in
    let f3 = same_then c.args.reader.now c.read_form.new.reader c.read_file.new.reader f2 c.read_file.ensures.file in
    let g3 : Goes _ c.args.reader.now c.read_file.new.reader Gives (λ (files : Files) (o : Outcome). OffsetGives files o c.in_ok-number.number) = goes_then _ _ c.args.reader.now c.read_form.new.reader c.read_file.new.reader Gives PlaceGives (λ (files : Files) (o : Outcome). OffsetGives files o c.in_ok-number.number) s2 g2 c.in_ok-number.ensures.goes in
    let s4 = c.read_offset.ensures.same ∙ s3 in
    let f4 = same_then c.args.reader.now c.read_file.new.reader c.read_offset.new.reader f3 c.read_offset.ensures.file in
    let g4 : Goes _ c.args.reader.now c.read_offset.new.reader Gives (λ (files : Files) (o : Outcome). NumbersGive files o c.in_ok-place.place) = goes_then _ _ c.args.reader.now c.read_file.new.reader c.read_offset.new.reader Gives (λ (files : Files) (o : Outcome). OffsetGives files o c.in_ok-number.number) (λ (files : Files) (o : Outcome). NumbersGive files o c.in_ok-place.place) s3 g3 c.in_ok-place.ensures.goes in
    let s5 = c.read_number.ensures.same ∙ s4 in
    let f5 = same_then c.args.reader.now c.read_offset.new.reader c.read_number.new.reader f4 c.read_number.ensures.file in
    let g5 : Goes _ c.args.reader.now c.read_number.new.reader Gives (λ (files : Files) (o : Outcome). TxnGives files o c.in_ok-place.place c.in_ok-next_number.next_number) = goes_then _ _ c.args.reader.now c.read_offset.new.reader c.read_number.new.reader Gives (λ (files : Files) (o : Outcome). NumbersGive files o c.in_ok-place.place) (λ (files : Files) (o : Outcome). TxnGives files o c.in_ok-place.place c.in_ok-next_number.next_number) s4 g4 c.in_ok-next_number.ensures.goes in
    let p = err_from_is_err_and c.from_residual-in_err-next.result c.from_residual-in_err-next.ensures.1 in
    err_is _ _ p.0 _ p.1 p.2 (faults_before _ _ c.args.reader.now c.read_number.new.reader Gives (λ (files : Files) (o : Outcome). TxnGives files o c.in_ok-place.place c.in_ok-next_number.next_number) _ s5 f5 g5 c.in_err-next.ensures.bad)

pub returns-clause-goes : goal.returns-clause-goes
returns-clause-goes g c =
    let s1 = c.read_text.ensures.same in
    let f1 = c.read_text.ensures.file in
    let g1 : Goes _ c.args.reader.now c.read_text.new.reader Gives FormGives = c.in_ok-read_text.ensures.goes in
    let s2 = c.read_form.ensures.same ∙ s1 in
    let f2 = same_then c.args.reader.now c.read_text.new.reader c.read_form.new.reader f1 c.read_form.ensures.file in
    let g2 : Goes _ c.args.reader.now c.read_form.new.reader Gives PlaceGives = goes_then _ _ c.args.reader.now c.read_text.new.reader c.read_form.new.reader Gives FormGives PlaceGives s1 g1 c.in_ok-read_form.ensures.goes in
    let s3 = c.read_file.ensures.same ∙ s2 in
    let f3 = same_then c.args.reader.now c.read_form.new.reader c.read_file.new.reader f2 c.read_file.ensures.file in
    let g3 : Goes _ c.args.reader.now c.read_file.new.reader Gives (λ (files : Files) (o : Outcome). OffsetGives files o c.in_ok-number.number) = goes_then _ _ c.args.reader.now c.read_form.new.reader c.read_file.new.reader Gives PlaceGives (λ (files : Files) (o : Outcome). OffsetGives files o c.in_ok-number.number) s2 g2 c.in_ok-number.ensures.goes in
    let s4 = c.read_offset.ensures.same ∙ s3 in
    let f4 = same_then c.args.reader.now c.read_file.new.reader c.read_offset.new.reader f3 c.read_offset.ensures.file in
    let g4 : Goes _ c.args.reader.now c.read_offset.new.reader Gives (λ (files : Files) (o : Outcome). NumbersGive files o c.in_ok-place.place) = goes_then _ _ c.args.reader.now c.read_file.new.reader c.read_offset.new.reader Gives (λ (files : Files) (o : Outcome). OffsetGives files o c.in_ok-number.number) (λ (files : Files) (o : Outcome). NumbersGive files o c.in_ok-place.place) s3 g3 c.in_ok-place.ensures.goes in
    let s5 = c.read_number.ensures.same ∙ s4 in
    let f5 = same_then c.args.reader.now c.read_offset.new.reader c.read_number.new.reader f4 c.read_number.ensures.file in
    let g5 : Goes _ c.args.reader.now c.read_number.new.reader Gives (λ (files : Files) (o : Outcome). TxnGives files o c.in_ok-place.place c.in_ok-next_number.next_number) = goes_then _ _ c.args.reader.now c.read_offset.new.reader c.read_number.new.reader Gives (λ (files : Files) (o : Outcome). NumbersGive files o c.in_ok-place.place) (λ (files : Files) (o : Outcome). TxnGives files o c.in_ok-place.place c.in_ok-next_number.next_number) s4 g4 c.in_ok-next_number.ensures.goes in
    let s6 = c.read_txn.ensures.same ∙ s5 in
    let f6 = same_then c.args.reader.now c.read_number.new.reader c.read_txn.new.reader f5 c.read_txn.ensures.file in
    let g6 : Goes _ c.args.reader.now c.read_txn.new.reader Gives (λ (files : Files) (o : Outcome). ListsGive files o c.in_ok-place.place c.in_ok-next.next) = goes_then _ _ c.args.reader.now c.read_number.new.reader c.read_txn.new.reader Gives (λ (files : Files) (o : Outcome). TxnGives files o c.in_ok-place.place c.in_ok-next_number.next_number) (λ (files : Files) (o : Outcome). ListsGive files o c.in_ok-place.place c.in_ok-next.next) s5 g5 c.in_ok-next.ensures.goes in
    g6

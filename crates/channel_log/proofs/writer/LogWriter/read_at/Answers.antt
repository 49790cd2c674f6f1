use Rattle.std.proofs.Common.{List, ℕ, refl, subst, sym}
use Rattle.channel_log.specs.Pointers.{FoundAt}
use Rattle.channel_log.specs.Window.{IsBelow, IsPieceOf}
use Rattle.channel_log.specs.Writer.{Writer}
use Rattle.record_form.proofs.Pointed.{front}
use Rattle.channel_log.proofs.Pointed.{found_kept}
use Rattle.channel_log.proofs.writer.LogWriter.read_at.Goals as goal

pub returns-clause-found : goal.returns-clause-found
returns-clause-found g c = λ t is part piece below elsewhere.
    let p = c.args.p.now in
    let kept = subst (λ (w : Writer). IsPieceOf w.kept part) (sym c.self.view_is) piece in
    let end = subst (λ (n : ℕ). IsBelow t p.file n (part p.file)) (sym c.end_for-end.ensures) below in
    let found = c.in-Ok.ensures.found t is part kept end in
    let read = subst (λ (l : List ℕ). FoundAt l (front p) c.event_in.result) c.bytes_from.ensures (c.event_in.ensures.found (front p) refl refl) in
    found_kept c.find_put.new.self part c.in-Ok.place p c.event_in.result found.0 c.in-Ok.ensures.place.0 c.in-Ok.ensures.place.1 c.in-Ok.ensures.within found.1 read

pub returns-clause-kept : goal.returns-clause-kept
returns-clause-kept g c = λ t is part piece below.
    let p = c.args.p.now in
    let kept = subst (λ (w : Writer). IsPieceOf w.kept part) (sym c.self.view_is) piece in
    let end = subst (λ (n : ℕ). IsBelow t p.file n (part p.file)) (sym c.end_for-end.ensures) below in
    (c.in-Ok.ensures.found t is part kept end).0

use Rattle.std.proofs.Common.{◌≡◌, ◌≤◌, ◌∷◌, ◌∙◌, drop, take, length, arith, ap, sym, subst}
use Rattle.std.proofs.lemmas.List.{length-take}
use Rattle.channel_log.specs.Reader.{AreRecords, Reader, closing}
use Rattle.channel_log.proofs.Given.{next_held}
use Rattle.channel_log.proofs.Standing.{ends_or_holds}
use Rattle.channel_log.proofs.reader.LogReader.give_outline.Goals as goal

pub invariant_of-self : goal.invariant_of-self
invariant_of-self c =
    let i = c.self.invariant in
    let place = c.self.inside.place in
    let stop = c.self.inside.stop in
    let read = c.self.inside.read.items in
    let frame = take stop c.deref.result.now in
    let same : frame ≡ take stop read = ap (take stop) c.deref.ensures.value in
    let long : length (take stop read) ≡ stop = omega (arith, i.known, length-take stop read) in
    let below : c.outline_at-outline.result.1 ≤ length frame = c.outline_at-outline.ensures.within in
    let within : c.outline_at-outline.result.1 ≤ stop = omega (arith, below, ap length same, long) in
    let are : AreRecords (drop place (take stop read)) = subst AreRecords (sym (ap (λ (r : Reader). r.held) c.self.view_is)) c.requires in
    record {
      within = within;
      known = i.known;
      held = ends_or_holds read c.outline_at-outline.result.1 stop i.known (next_held (take stop read) place c.outline_at-outline.result.1 are (omega (arith, within, long)) (λ first records count framed each counted split.
          let here : drop place frame ≡ closing (first ∷ records) count = ap (drop place) same ∙ split in
          ap (drop c.outline_at-outline.result.1) (sym same) ∙ (c.outline_at-outline.ensures.given first records count framed each counted here).2));
      fits = omega (arith, i.fits, within, c.outline_at-outline.ensures.above);
      low = i.low;
      some = i.some;
    }

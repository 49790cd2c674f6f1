use Rattle.std.proofs.Common.{◌≡◌, ◌∙◌, [], ◌+◌, ◌<◌, ℕ, List, length, length-set, length-append, ap, drop, slice_get, Some, get_or, arith}
use Rattle.std.proofs.lemmas.Option.{slice_get-get_or}
use Rattle.event_core.specs.Content.{Content}
use Rattle.event_core.specs.declared.journal.Entry.{Entry}
use Rattle.event_core.specs.declared.journal.Entry.TheVariants.{Takes}
use Rattle.event_core.specs.Journal.{taken_numbers, put_events, numbered}
use Rattle.channel_face.specs.Machine.{entries}
use Rattle.txn_core.specs.Sound.{puts_in, without_puts}
use Rattle.txn_core.proofs.Taken.{moved_one, puts_from_length, rest_same, takes_stay}
use Rattle.channel_face.proofs.Within.{length-numbered}
use Rattle.txn_core.proofs.settle.move_puts.Goals as goal

pub move_at-number-requires : goal.move_at-number-requires
move_at-number-requires c = record {
  place = omega (arith, c.loop-place-test.true, c.loop-place.invariant.long, c.len-place-end.ensures);
  fits = λ o is. let fit = puts_from_length c.loop-place.staged.items c.loop-place.place o is in
      let numbers = c.loop-place.invariant.numbers in (omega (arith, c.loop-place.invariant.room, fit), omega (arith, c.requires.numbers, numbers, fit));
}

pub loop-place-preserved : goal.loop-place-preserved
loop-place-preserved c =
    let was = c.loop-place.invariant in
    let place = c.loop-place.place in
    let es = c.loop-place.staged.items in
    let es' = c.move_at-number.new.staged.items in
    let items = c.loop-place.items.items in
    let items' = c.move_at-number.new.items.items in
    let number = c.loop-place.number in
    let number' = c.move_at-number.result in
    let said = c.move_at-number.ensures in
    let in_range : place < length es = omega (arith, c.loop-place-test.true, was.long, c.len-place-end.ensures) in
    let o : ℕ × Entry = get_or es place (0, Takes []) in
    let at : slice_get es place ≡ Some o = slice_get-get_or es place (0, Takes []) in_range in
    let m = said.moved o at in
    let rest : put_events (entries (drop (place + 1) es')) ≡ put_events (entries (drop (place + 1) es)) = rest_same es es' place o m.2 in
    let fewer = puts_from_length es place o at in
    let same : length (put_events (entries (drop (place + 1) es'))) ≡ length (put_events (entries (drop (place + 1) es))) = ap (λ (l : List Content). length l) rest in
    let longer : length items' ≡ length items + length (puts_in o.1) = ap (λ (l : List (ℕ × Content)). length l) m.0 ∙ (length-append items (numbered number (puts_in o.1)) ∙ ap (λ (n : ℕ). length items + n) (length-numbered number (puts_in o.1))) in
    record {
      items = moved_one es es' items items' number number' place o at m.0 m.1 m.2 ∙ was.items;
      numbers = omega (arith, was.numbers, m.1, fewer, same);
      room = omega (arith, was.room, longer, fewer, same, said.capacity);
      grown = omega (arith, was.grown, said.capacity);
      takes = ap (λ (l : List (ℕ × Entry)). taken_numbers (entries l)) m.2 ∙ (takes_stay es place o at ∙ was.takes);
      same = said.staged_capacity ∙ was.same;
      long = ap (λ (l : List (ℕ × Entry)). length l) m.2 ∙ (length-set es place (o.0, without_puts o.1) ∙ was.long);
    }

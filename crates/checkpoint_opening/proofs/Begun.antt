-- Where a folder begins is a start.
use Rattle.std.proofs.Common.{◌≡◌, ◌≤◌, ◌+◌, ◌++◌, ◌∷◌, [], ℕ, List, map, Bool, true, false, refl, sym, ◌∙◌, ap, subst, arith}
use Rattle.flume_host.specs.Folder.{Files}
use Rattle.event_core.specs.Content.{Content}
use Rattle.event_core.specs.Journal.{is_among}
use Rattle.record_form.specs.declared.record.Pointer.{Pointer}
use Rattle.channel_face.specs.Machine.{entry_of}
use Rattle.channel_face.specs.Sound.{Rising}
use Rattle.channel_face.proofs.Numbers.{base_rising}
use Rattle.channel_replay.specs.Recover.{empty_start}
use Rattle.channel_replay.specs.Start.{AreApart, IsStart, Start}
use Rattle.channel_replay.proofs.Among.{differ}
use Rattle.checkpoint.specs.Right.{all_of, number_of}
use Rattle.checkpoint.specs.Says.{listed_at}
use Rattle.checkpoint.specs.Stands.{IsOrdered}
use Rattle.checkpoint.specs.Text.{CheckText, Rise}
use Rattle.checkpoint_recovery.specs.Recovers.{Front, From, Means}
use Rattle.ring_replay.specs.Indexing.{Places}
use Rattle.checkpoint_replay.specs.Checked.{LivePlaced}
use Rattle.checkpoint_replay.proofs.CheckPlaces.{PlacesOf, places_of, right_ordered}
use Rattle.checkpoint_replay.proofs.Opened.{Has, each_has, keys_apart, listed_among, not_above, once_there, open_keys, open_some, takes_listed}
use Rattle.checkpoint_opening.specs.Laws.{BeginsAreStarts}

live_rises : (places : Places) (low high : ℕ) (live : List (ℕ × Pointer)) (items : List (ℕ × Content)) → LivePlaced places live items → Rise low high live → low ≤ high → Rising low items high
live_rises places low high [] [] are rise within = within
live_rises places low high [] (item ∷ items) are rise within = absurd are
live_rises places low high (l ∷ live) [] are rise within = absurd are
live_rises places low high (l ∷ live) (item ∷ items) are rise within =
    (omega (arith, rise.0, are.0), subst (λ (n : ℕ). Rising (n + 1) items high) are.0 (live_rises places (l.0 + 1) high live items are.2 rise.2 (omega (arith, rise.1))))

module _ (files : Files) (c : CheckText) (start : Start) (means : Means files c start) where
  at : PlacesOf files c start.base.items start.opened
  at = places_of files c start.base.items start.opened means.right

  are : IsOrdered c
  are = right_ordered files c start.base.items start.opened means.right

  apart_keys : AreApart (map number_of c.puts ++ map number_of c.takes)
  apart_keys = keys_apart 1 c.next.txn c.puts c.takes are.put_txns are.take_txns are.apart

  has : (t : ℕ) → Has at.places (entry_of t start.opened) (listed_at t c.puts) (listed_at t c.takes)
  has t = each_has at.places c.puts c.takes start.opened t at.opens are.some_puts are.some_takes apart_keys

  not_taken : (t n : ℕ) → c.next.number ≤ n → is_among (listed_at t c.takes) n ≡ false
  not_taken t n more = from (is_among (listed_at t c.takes) n) refl
    where
      from : (b : Bool) → is_among (listed_at t c.takes) n ≡ b → b ≡ false
      from false is = refl
      from true is = absurd (differ (sym (once_there (map number_of c.live) (all_of c.takes) n are.held (listed_among t n c.takes is)) ∙ not_above 0 c.next.number n c.live are.numbers more))

  means_start : IsStart start
  means_start = record {
    base = base_rising start.base (subst (λ (n : ℕ). Rising 0 start.base.items n) (sym means.number) (live_rises at.places 0 c.next.number c.live start.base.items at.live are.numbers (omega arith)));
    apart = subst AreApart (sym (open_keys at.places c.puts c.takes start.opened at.opens)) apart_keys;
    some = open_some at.places c.puts c.takes start.opened at.opens are.some_puts are.some_takes;
    earlier = λ t n more. ap (λ (l : List ℕ). is_among l n) (takes_listed at.places (entry_of t start.opened) (listed_at t c.puts) (listed_at t c.takes) (has t)) ∙ not_taken t n (omega (arith, more, means.number));
  }

-- nothing is left or open at the front
empty_is : IsStart empty_start
empty_is = record { base = base_rising empty_start.base (omega arith); apart = tt; some = tt; earlier = λ t n more. refl }

-- where a folder begins, its numbers rise and its takes are of earlier ones
pub begins_are_starts : BeginsAreStarts
begins_are_starts files start found (Front none empty all) = subst IsStart (sym empty) empty_is
begins_are_starts files start found (From n c newest check from) = means_start files c start check.means

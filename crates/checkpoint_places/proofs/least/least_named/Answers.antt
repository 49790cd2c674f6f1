use Rattle.std.proofs.Common.{◌^◌, ℕ, List, map, ap, arith, subst, sym}
use Rattle.std.specs.List.{AllByRecursion}
use Rattle.record_form.specs.declared.record.Pointer.{Pointer}
use Rattle.checkpoint.specs.Says.{live_at}
use Rattle.checkpoint.specs.declared.place.Place.{Place}
use Rattle.checkpoint.specs.Text.{Rise}
use Rattle.checkpoint_places.proofs.Lowest.{FileFrom, LiveFrom, all_entries, all_listed, all_maps}
use Rattle.checkpoint_places.proofs.least.least_named.Goals as goal

pub returns-clause-names : goal.returns-clause-names
returns-clause-names c = λ next text says rise.
    let least = c.least_open.result in
    let live = c.least_left-left.ensures.each next.number (subst (λ (l : List (ℕ × Pointer)). Rise 0 next.number l) says.live rise) in
    record {
      place = omega (arith, c.least_open.ensures.below, c.least_left-left.ensures.below, ap (λ (p : Place). p.file) says.place_is);
      live = subst (λ (l : List (ℕ × Pointer)). AllByRecursion (λ k. LiveFrom least k) l) (sym says.live) (all_maps (λ k. LiveFrom c.least_left-left.result k) (λ k. LiveFrom least k) (map live_at c.args.ring.now.live) (λ k low. omega (arith, low, c.least_open.ensures.below)) live);
      puts = all_entries (λ p. FileFrom least p) 0 (2 ^ 64) text.puts says.puts.rise (λ txn more. subst (λ (ps : List Pointer). AllByRecursion (λ p. FileFrom least p) ps) (sym (says.puts.each txn)) (c.least_open.ensures.each txn));
    }

pub returns-clause-least : goal.returns-clause-least
returns-clause-least c = λ next text other says names.
    c.least_open.ensures.least other
    (c.least_left-left.ensures.least other (omega (arith, names.place, ap (λ (p : Place). p.file) says.place_is)) (subst (λ (l : List (ℕ × Pointer)). AllByRecursion (λ k. LiveFrom other k) l) says.live names.live))
    (λ txn. subst (λ (ps : List Pointer). AllByRecursion (λ p. FileFrom other p) ps) (says.puts.each txn) (all_listed (λ p. FileFrom other p) txn text.puts names.puts))

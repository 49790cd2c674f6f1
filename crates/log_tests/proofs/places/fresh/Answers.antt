use Rattle.std.proofs.Common.{[], List, ap, arith, refl, subst, sym, true}
use Rattle.event_ring.specs.Slots.{Index, Left}
use Rattle.channel_face.specs.History.{Opening}
use Rattle.channel_face.specs.declared.replies.Kind.TheVariants.{File}
use Rattle.channel_face.specs.declared.replies.Limits.{Limits}
use Rattle.channel_face.proofs.Numbers.{base_rising}
use Rattle.channel_places.specs.Looks.{LookLeft, Numbers}
use Rattle.log_tests.proofs.places.fresh.Goals as goal

pub open-requires-clause-left : goal.open-requires-clause-left
open-requires-clause-left c = (
  [],
  [],
  subst (λ (l : List Left). LookLeft [] [] l []) (sym (ap (λ (r : Index). r.live) c.in_ok-ring.ensures)) tt,
  base_rising (record { items = []; first = 0 }) (omega arith),
)

pub returns : goal.returns
returns c =
    let limits : Limits = record { capacity = c.args.capacity; txn_capacity = 10; max_file = 1000 } in
    let o : Opening = record { rules = record { kind = File; limits = limits }; base = record { items = []; first = 0 }; txn = 1; faults = 0; from = 0; tells = true } in
    let left = subst (λ (l : List Left). LookLeft [] [] l []) (sym (ap (λ (r : Index). r.live) c.in_ok-ring.ensures)) tt in
    let looks = c.in_ok-held.ensures.looks [] [] o refl refl refl left (base_rising (record { items = []; first = 0 }) (omega arith)) in
    (ap (λ (n : Numbers). n.rules.limits.capacity) looks.numbers, ap (λ (n : Numbers). n.life) looks.numbers)

use Rattle.std.proofs.Common.{◌≡◌, ◌<◌, ◌^◌, ap, arith}
use Rattle.open_table.specs.Tables.{open_at}
use Rattle.channel_face.specs.Machine.{entry_of}
use Rattle.channel_places.specs.Looks.{Numbers, Places}
use Rattle.channel_places.specs.View.{places_of}
use Rattle.channel_places.proofs.Keeping.{few_open}
use Rattle.channel_places.proofs.places.Held.table.Goals as goal

pub returns-clause-few : goal.returns-clause-few
returns-clause-few c =
    let i = c.self.invariant in
    let p : Places = places_of c.self.inside in
    let limit : p.numbers.rules.limits.txn_capacity ≡ i.state.rules.limits.txn_capacity = ap (λ (n : Numbers). n.rules.limits.txn_capacity) i.looks.numbers in
    let low : i.state.rules.limits.txn_capacity < 2 ^ 32 = omega (arith, limit) in
    rw (← c.self.view_is) (λ txn. few_open i.known i.state.rules.limits.txn_capacity (open_at p.opened txn) (entry_of txn i.state.opened) (i.looks.opened txn) (i.lists txn) low)

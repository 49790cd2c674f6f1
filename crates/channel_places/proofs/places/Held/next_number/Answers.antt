use Rattle.std.proofs.Common.{ap, arith, subst, sym}
use Rattle.channel_places.specs.Looks.{Looks, Numbers, Places}
use Rattle.channel_places.specs.View.{places_of}
use Rattle.channel_places.proofs.Looking.{staged_length}
use Rattle.channel_places.proofs.places.Held.next_number.Goals as goal

pub returns-clause-next : goal.returns-clause-next
returns-clause-next c = λ settled known s looks.
    let p : Places = places_of c.self.inside in
    let here : Looks settled known p s = subst (λ (q : Places). Looks settled known q s) (sym c.self.view_is) looks in
    omega (arith, c.self.invariant.staged_puts_are, staged_length known p.staged s.staged here.staged, ap (λ (n : Numbers). n.first) here.numbers)

use Rattle.std.proofs.Common.{◌∙◌, subst, sym}
use Rattle.channel_places.specs.Looks.{Looks, Places}
use Rattle.channel_places.specs.View.{places_of}
use Rattle.channel_places.proofs.Looking.{staged_length}
use Rattle.channel_places.proofs.places.Held.puts_staged.Goals as goal

pub returns : goal.returns
returns c = λ settled known s looks.
    let here : Looks settled known (places_of c.self.inside) s = subst (λ (q : Places). Looks settled known q s) (sym c.self.view_is) looks in
    c.self.invariant.staged_puts_are ∙ staged_length known (places_of c.self.inside).staged s.staged here.staged

use Rattle.std.proofs.Common.{◌∙◌, subst, sym}
use Rattle.channel_places.specs.Looks.{Looks, Places}
use Rattle.channel_places.specs.View.{places_of}
use Rattle.channel_places.proofs.Looking.{size_is}
use Rattle.channel_places.proofs.places.Held.size.Goals as goal

pub returns : goal.returns
returns c = λ settled known s looks.
    let p : Places = places_of c.self.inside in
    c.len.ensures ∙ size_is settled known p s (subst (λ (q : Places). Looks settled known q s) (sym c.self.view_is) looks)

use Rattle.std.proofs.Common.{◌∙◌, ap}
use Rattle.channel_face.specs.Machine as face
use Rattle.channel_places.specs.Looks.{Numbers, eventless}
use Rattle.channel_places.proofs.places.Held.settled.Goals as goal

pub returns : goal.returns
returns c = λ settled known s looks. c.settled_by_numbers.ensures ∙ ap (λ (n : Numbers). face.settled (eventless n) c.args.ticket.now) looks.numbers

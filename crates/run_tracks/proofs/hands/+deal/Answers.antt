use Rattle.std.proofs.Common.{◌≡◌, ◌∙◌, ◌+◌, ◌++◌, [], ◌∷◌, ℕ, List, length, ap, sym, subst, arith}
use Rattle.std.proofs.lemmas.List.{append_assoc, length-append}
use Rattle.shared_channel.specs.Passes.{Known}
use Rattle.run_tracks.specs.Deals.{Deals, Suffice, hands_of}
use Rattle.run_tracks.proofs.Handing.{first_some, first_there, still_enough}
use Rattle.run_tracks.proofs.hands.+deal.Goals as goal

pub draw-requires-clause-there : goal.draw-requires-clause-there
draw-requires-clause-there t c =
    first_there c.args.hands.now c.in-Some.first.now c.in-Some.rest.now (subst (Suffice (hands_of c.args.hands.now)) c.in-Some.ensures.cases.0 c.requires.enough)

pub draw-requires-clause-some : goal.draw-requires-clause-some
draw-requires-clause-some t c =
    first_some (hands_of c.args.hands.now) c.in-Some.first.now c.in-Some.rest.now (subst (Suffice (hands_of c.args.hands.now)) c.in-Some.ensures.cases.0 c.requires.enough)

pub deal-requires : goal.deal-requires
deal-requires t c =
    let enough = subst (Suffice (hands_of c.args.hands.now)) c.in-Some.ensures.cases.0 c.requires.enough in
    let many = ap length c.in-Some.ensures.cases.0 in
    let d = c.decreases in
    let one : length c.push_reserved.new.self.items ≡ length c.args.ports.now.items + 1 = ap length c.push_reserved.ensures.items ∙ length-append c.args.ports.now.items (c.draw.result ∷ []) in
    let room = c.requires.room in
    let cap = c.push_reserved.ensures.capacity in
    (omega arith, (still_enough (hands_of c.args.hands.now) (hands_of c.draw.new.hands) c.in-Some.first.now c.in-Some.rest.now c.draw.result enough c.draw.ensures, omega arith))

pub returns : goal.returns
returns t c =
    let rest = c.deal.ensures.dealt in
    let items = rest.1 ∙ ap (λ (l : List Known). l ++ rest.0) c.push_reserved.ensures.items ∙ append_assoc c.args.ports.now.items (c.draw.result ∷ []) rest.0 in
    let D : List ℕ → _ = λ places. Deals (hands_of c.args.hands.now) places (c.draw.result ∷ rest.0) (hands_of c.deal.new.hands) in
    record { dealt = (c.draw.result ∷ rest.0, items, subst D (sym c.in-Some.ensures.cases.0) (hands_of c.draw.new.hands, c.draw.ensures, rest.2)) }

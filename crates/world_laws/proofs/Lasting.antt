-- What no step takes back.
use Rattle.std.proofs.Common.{◌≡◌, ◌++◌, ◌∷◌, [], ℕ, List, Option, Some, None, refl, sym, ◌∙◌, ap, subst}
use Rattle.std.proofs.lemmas.List.{append-nil, append_assoc}
use Rattle.world_laws.specs.World.{Channel, Node, World}
use Rattle.world_laws.specs.Steps.{Step, happens, next, run}
use Rattle.world_laws.specs.Held.{Held}
use Rattle.world_laws.specs.Stays.{ChannelGoesOn, NodeGoesOn, GoesOn}
use Rattle.world_laws.proofs.Moving.{Moved, Went, moves, node_after, sent_by}
use Rattle.world_laws.proofs.Staying.{goes, all_go, required_same, acks_stay, outputs_stay, node_goes}
use Rattle.world_laws.proofs.Keeping.{step_holds}

-- two lists, one after the other
behind : {A : Type 0} (xs ys zs more rest : List A) → ys ≡ xs ++ more → zs ≡ ys ++ rest → zs ≡ xs ++ (more ++ rest)
behind xs ys zs more rest one two = two ∙ (ap (λ (l : List _). l ++ rest) one ∙ append_assoc xs more rest)

channel_same : (c : Channel) → ChannelGoesOn c c
channel_same c = record { journal = ([], sym (append-nil c.journal)); later = refl; last = refl }

channel_then : (b c d : Channel) → ChannelGoesOn b c → ChannelGoesOn c d → ChannelGoesOn b d
channel_then b c d one two = record {
  journal = (one.journal.0 ++ two.journal.0, behind b.journal c.journal d.journal one.journal.0 two.journal.0 one.journal.1 two.journal.1);
  later = two.later ∙ one.later;
  last = two.last ∙ one.last;
}

node_same : (node : Node) → NodeGoesOn node node
node_same node = record {
  required = refl;
  acks = λ place ack is. is;
  outputs = λ place events is. is;
  channels = λ place c is. (c, is, channel_same c);
}

node_then : (a b c : Node) → NodeGoesOn a b → NodeGoesOn b c → NodeGoesOn a c
node_then a b c one two = record {
  required = two.required ∙ one.required;
  acks = λ place ack is. two.acks place ack (one.acks place ack is);
  outputs = λ place events is. two.outputs place events (one.outputs place events is);
  channels = λ place x is.
      let y = one.channels place x is in
      let z = two.channels place y.0 y.1 in
      (z.0, z.1, channel_then x y.0 z.0 y.2 z.2);
}

-- a node goes on in each move
node_moves : (w : World) (n : ℕ) (old : Node) (m : Moved w n old) → NodeGoesOn old (node_after m)
node_moves w n old m = record {
  required = required_same w n old m;
  acks = acks_stay w n old m;
  outputs = outputs_stay w n old m;
  channels = λ place c is. goes ChannelGoesOn old.channels (node_after m).channels (all_go ChannelGoesOn w n old m channel_same
      (λ c d added b. record { journal = (b.settled, b.journal); later = b.later; last = b.last })
      (λ c d cut r. record { journal = (r.settled, r.journal); later = r.later; last = r.last })) place c is;
}

world_same : (w : World) → GoesOn w w
world_same w = record { sent = ([], sym (append-nil w.sent)); nodes = λ n node is. (node, is, node_same node) }

world_then : (u v w : World) → GoesOn u v → GoesOn v w → GoesOn u w
world_then u v w one two = record {
  sent = (one.sent.0 ++ two.sent.0, behind u.sent v.sent w.sent one.sent.0 two.sent.0 one.sent.1 two.sent.1);
  nodes = λ n node is.
      let x = one.nodes n node is in
      let y = two.nodes n x.0 x.1 in
      (y.0, y.1, node_then node x.0 y.0 x.2 y.2);
}

-- a world goes on in each move of a node
world_moves : (w new : World) → Went w new → GoesOn w new
world_moves w new went = subst (GoesOn w) went.is (record {
  sent = (sent_by went.move, refl);
  nodes = λ n node is. node_goes (NodeGoesOn node) w went.n went.old (node_after went.move) went.here
      (λ on. node_then node went.old (node_after went.move) on (node_moves w went.n went.old went.move)) n node is (node_same node);
})

step_goes_on : (w : World) (step : Step) → Held w → GoesOn w (next w (happens w step))
step_goes_on w step held = from (happens w step) refl
  where
    from : (x : Option World) → happens w step ≡ x → GoesOn w (next w x)
    from None is = world_same w
    from (Some new) is = world_moves w new (moves w step new held is)

-- Over every list of steps nothing is taken back.
pub run_goes_on : (w : World) (steps : List Step) → Held w → GoesOn w (run w steps)
run_goes_on w [] held = world_same w
run_goes_on w (step ∷ steps) held =
    world_then w (next w (happens w step)) (run (next w (happens w step)) steps) (step_goes_on w step held)
    (run_goes_on (next w (happens w step)) steps (step_holds w step held))

-- The world that a plan begins with is new.
use Rattle.std.proofs.Common.{◌≡◌, ℕ, zero, suc, [], ◌∷◌, List, map, Some, refl, subst, true}
use Rattle.std.specs.List.{slice_get}
use Rattle.world_laws.specs.New.{IsNew, IsNewNode, IsNewChannel}
use Rattle.channel_face.specs.declared.replies.Kind.TheVariants.{File as OnFile}
use Rattle.hop_core.specs.Start.{new_channel, new_node, new_world}
use Rattle.hop_core.specs.declared.plan.WorldChannel.{WorldChannel}
use Rattle.hop_core.specs.declared.plan.WorldNode.{WorldNode}
use Rattle.hop_core.specs.declared.plan.WorldPlan.{WorldPlan}

-- what is true of each that is made is true of those that are there
each_made : {A B : Type 0} (f : A → B) (P : B → Type 0) → ((x : A) → P (f x)) → (xs : List A) (i : ℕ) (y : B) → slice_get (map f xs) i ≡ Some y → P y
each_made f P holds [] i y is = absurd (cc)
each_made f P holds (x ∷ xs) zero y is = (let same : f x ≡ y = cc in subst P same (holds x))
each_made f P holds (x ∷ xs) (suc i) y is = each_made f P holds xs i y is

channel_is_new : (plan : WorldChannel) → IsNewChannel (new_channel plan)
channel_is_new plan = record {
  start = record { rules = record { kind = OnFile; limits = plan.limits }; base = record { items = []; first = 0 }; txn = 1; faults = 0; from = 0; tells = true };
  empty = refl;
  kind = refl;
  state = refl;
  journal = refl;
  named = refl;
}

node_is_new : (plan : WorldNode) → IsNewNode (new_node plan)
node_is_new plan = record {
  acks = refl;
  outputs = refl;
  works = refl;
  attempts = refl;
  channels = λ place c is. each_made new_channel IsNewChannel channel_is_new plan.channels.items place c is;
}

-- the world of a plan has nothing sent, and all of its nodes are new
pub world_is_new : (plan : WorldPlan) → IsNew (new_world plan)
world_is_new plan = record {
  sent = refl;
  nodes = λ n node is. each_made new_node IsNewNode node_is_new plan.nodes.items n node is;
}

-- Where the world begins.
use Rattle.std.specs.Prelude.{◌≡◌, ℕ, [], slice_get, Some}
use Rattle.channel_face.specs.History.{Opening, opening}
use Rattle.channel_face.specs.declared.replies.Kind.TheVariants.{File as OnFile}
use Rattle.world_laws.specs.World.{World, Node, Channel}
use Rattle.world_laws.specs.Held.{AtNode, nothing}

-- a file channel that was opened with nothing in it, and of which nothing was called
pub record IsNewChannel (c : Channel) : Type 0 where
  pub start : Opening
  pub empty : start.base ≡ nothing
  pub kind : start.rules.kind ≡ OnFile
  pub state : c.state ≡ opening start
  pub journal : c.journal ≡ []
  pub named : c.named ≡ []

-- an agent with new channels and nothing else
pub record IsNewNode (node : Node) : Type 0 where
  pub acks : node.acks ≡ []
  pub outputs : node.outputs ≡ []
  pub works : node.works ≡ []
  pub attempts : node.attempts ≡ []
  pub channels : (place : ℕ) (c : Channel) → slice_get node.channels place ≡ Some c → IsNewChannel c

-- a world of such agents, in which nothing was sent
pub record IsNew (w : World) : Type 0 where
  pub sent : w.sent ≡ []
  pub nodes : (n : ℕ) (node : Node) → AtNode w n node → IsNewNode node

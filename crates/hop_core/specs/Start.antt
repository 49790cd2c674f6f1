-- The world that a plan begins with.
use Rattle.std.specs.Prelude.{[], map, true}
use Rattle.channel_face.specs.History.{opening}
use Rattle.channel_face.specs.declared.replies.Kind.TheVariants.{File as OnFile}
use Rattle.world_laws.specs.World.{Channel, Node, World}
use Rattle.hop_core.specs.declared.plan.WorldChannel.{WorldChannel}
use Rattle.hop_core.specs.declared.plan.WorldNode.{WorldNode}
use Rattle.hop_core.specs.declared.plan.WorldPlan.{WorldPlan}

-- a channel of these limits, with nothing in it
abbrev pub new_channel : WorldChannel → Channel
new_channel plan = record {
  state = opening (record {
    rules = record { kind = OnFile; limits = plan.limits };
    base = record { items = []; first = 0 };
    txn = 1;
    faults = 0;
    from = 0;
    tells = true;
  });
  journal = [];
  named = [];
  later = plan.later.items;
  last = plan.last;
}

-- a node with such channels and nothing else
abbrev pub new_node : WorldNode → Node
new_node plan = record {
  required = map (λ pair. (pair.0, pair.1.items)) plan.required.items;
  channels = map new_channel plan.channels.items;
  acks = [];
  outputs = [];
  works = [];
  attempts = [];
}

-- a world of such nodes, in which nothing was sent
abbrev pub new_world : WorldPlan → World
new_world plan = record { nodes = map new_node plan.nodes.items; sent = [] }

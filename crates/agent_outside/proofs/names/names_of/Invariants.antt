use Rattle.std.proofs.Common.{◌≡◌, take}
use Rattle.std.specs.List.{AllZip}
use Rattle.agent_outside.specs.Names.{AreTold}
use Rattle.agent_outside.proofs.names.names_of.Given as goal

abbrev pub invariant-loop-source : goal.invariant-loop-source
invariant-loop-source g l = record {
  told : AllZip (AreTold (g.H.Host.state l.fn.host).name (g.H.Host.state l.fn.host).address) (take l.source-index l.sources) l.names.items;
  state : g.H.Host.state l.host ≡ g.H.Host.state l.fn.host;
  folders : g.H.Host.folders l.host ≡ g.H.Host.folders l.fn.host;
}

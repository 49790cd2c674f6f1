use Rattle.std.proofs.Common.{◌≡◌, take}
use Rattle.agent_outside.specs.Listening.{IsFresh, ListenersOpened}
use Rattle.agent_outside.proofs.listeners.open_listeners.Given as goal

abbrev pub invariant-loop-place : goal.invariant-loop-place
invariant-loop-place g l = record {
  opened : ListenersOpened (IsFresh g.H.Listener.Listener.told g.H.Listener.Listener.endpoint g.H.Listener.Listener.waits g.H.Listener.Listener.faults) l.sources (take l.place-index l.places) (g.H.Host.state l.fn.host) (g.H.Host.state l.host) l.listeners.items;
  folders : g.H.Host.folders l.host ≡ g.H.Host.folders l.fn.host;
}

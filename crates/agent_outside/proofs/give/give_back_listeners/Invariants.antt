use Rattle.std.proofs.Common.{◌≡◌, length}
use Rattle.flume_host.specs.HostState.{HostState}
use Rattle.agent_outside.specs.Ends.{AreOfSources, AreOut, ListenersBack, come_back, ends_of}
use Rattle.agent_outside.proofs.give.give_back_listeners.Given as goal

abbrev pub invariant-loop-listener : goal.invariant-loop-listener
invariant-loop-listener g l = record {
  of : AreOfSources g.H.Listener.Listener.endpoint l.sources l.left.items;
  out : AreOut (ends_of (come_back g.H.Listener.Listener.told g.H.Listener.Listener.waits g.H.Listener.Listener.faults l.sources l.left.items)) (g.H.Host.state l.host).listeners;
  rest : (end : HostState) → ListenersBack (come_back g.H.Listener.Listener.told g.H.Listener.Listener.waits g.H.Listener.Listener.faults l.sources l.left.items) (g.H.Host.state l.host) end
      → ListenersBack (come_back g.H.Listener.Listener.told g.H.Listener.Listener.waits g.H.Listener.Listener.faults l.sources l.fn.listeners.items) (g.H.Host.state l.fn.host) end;
  folders : g.H.Host.folders l.host ≡ g.H.Host.folders l.fn.host;
}

abbrev pub decreases-loop-listener : goal.decreases-loop-listener
decreases-loop-listener g l = length l.left.items

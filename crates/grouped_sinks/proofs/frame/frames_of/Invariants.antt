use Rattle.std.proofs.Common.{◌≡◌, take}
use Rattle.grouped_sinks.specs.Frames.{IsFrameOf}
use Rattle.grouped_sinks.specs.Rows.{Zips}
use Rattle.grouped_sinks.proofs.frame.frames_of.Given as goal

abbrev pub invariant-loop-row : goal.invariant-loop-row
invariant-loop-row g l = record {
  frames : Zips (IsFrameOf l.groups) (take l.row-index l.rows) l.frames.items;
  state : g.H.Host.state l.host ≡ g.H.Host.state l.fn.host;
  folders : g.H.Host.folders l.host ≡ g.H.Host.folders l.fn.host;
}

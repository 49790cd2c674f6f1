use Rattle.std.proofs.Common.{take}
use Rattle.run_tracks.specs.Places.{Zips}
use Rattle.run_settling.specs.Draining.{HasRoom}
use Rattle.run_working.proofs.rooms.rooms_of_lines.Given as goal

abbrev pub invariant-loop-job : goal.invariant-loop-job
invariant-loop-job g l = Zips (λ job room. HasRoom job.ports.items room) (take l.job-index l.jobs) l.rooms.items

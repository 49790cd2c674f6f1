use Rattle.std.proofs.Common.{◌≡◌, ◌<◌, take}
use Rattle.run_tracks.specs.Deals.{count_of}
use Rattle.run_opening.proofs.wishes.users_of.Given as goal

abbrev pub invariant-loop-used : goal.invariant-loop-used
invariant-loop-used l = record {
  counted : l.users ≡ count_of l.place (take l.used-index l.uses);
  few : l.users < 4_294_967_295;
}

use Rattle.std.proofs.Common.{refl}
use Rattle.run_tracks.specs.Deals.{hands_of}
use Rattle.run_opening.proofs.Staffing.{ports_dealt}
use Rattle.run_opening.proofs.staff.staff_listener.Goals as goal

pub returns-clause-dealt : goal.returns-clause-dealt
returns-clause-dealt g c = (ports_dealt (hands_of c.args.hands.now) (hands_of c.deal.new.hands) _ _ _ _ c.as_slice.ensures.value c.requires.room.none c.deal.ensures.dealt).0

pub returns-clause-of : goal.returns-clause-of
returns-clause-of g c = record {
  channels = refl;
  many = (ports_dealt (hands_of c.args.hands.now) (hands_of c.deal.new.hands) _ _ _ _ c.as_slice.ensures.value c.requires.room.none c.deal.ensures.dealt).1;
  plan = refl;
  selector = refl;
  host = refl;
  rules = refl;
}

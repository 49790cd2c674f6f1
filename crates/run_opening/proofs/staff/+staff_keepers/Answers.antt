use Rattle.std.proofs.Common.{rules, ◌≡◌, ◌∙◌, ◌+◌, List, [], ◌∷◌, length, map, refl, sym, ap, subst, arith}
use Rattle.std.proofs.lemmas.List.{length-append}
use Rattle.shared_channel.specs.Passes.{Known}
use Rattle.keep_worker.specs.declared.worker.KeepWorker.{KeepWorker}
use Rattle.run_tracks.specs.Deals.{DealsEach, hands_of}
use Rattle.run_tracks.specs.Places.{Zips}
use Rattle.run_tracks.proofs.Handing.{first_some, first_there}
use Rattle.run_tracks.proofs.Homing.{zips_length, zips_push}
use Rattle.run_opening.specs.Staff.{IsKeepOf, keep_channels, keep_ports}
use Rattle.run_opening.specs.declared.seats.KeepSeat.{KeepSeat}
use Rattle.run_opening.proofs.Staffing.{deals_last, keeps_left, last_keep, suffice_front}
use Rattle.run_opening.proofs.staff.+staff_keepers.Goals as goal

pub staff_keepers-requires : goal.staff_keepers-requires
staff_keepers-requires g t c κs within =
    let e = c.in-Some.ensures.items in
    let enough = last_keep (hands_of c.args.hands.now) c.args.seats.items c.pop.new.self.items c.in-Some.seat e c.requires.enough in
    let many : length c.args.seats.items ≡ length c.pop.new.self.items + 1 = ap length e ∙ length-append c.pop.new.self.items (c.in-Some.seat ∷ []) in
    let r = c.requires.room in
    let d = c.decreases in
    (omega arith, (within, (suffice_front (hands_of c.args.hands.now) (map (λ (s : KeepSeat g.row.C.Denot). s.channel) c.pop.new.self.items) (c.in-Some.seat.channel ∷ []) enough, (c.requires.none, omega arith))))

pub draw-port-requires-clause-there : goal.draw-port-requires-clause-there
draw-port-requires-clause-there g t c =
    first_there c.staff_keepers.new.hands c.in-Some.seat.channel []
    (keeps_left (hands_of c.args.hands.now) (hands_of c.staff_keepers.new.hands) c.args.seats.items c.pop.new.self.items c.in-Some.seat c.staff_keepers.new.jobs.items c.in-Some.ensures.items c.requires.enough c.staff_keepers.ensures.of c.staff_keepers.ensures.dealt)

pub draw-port-requires-clause-some : goal.draw-port-requires-clause-some
draw-port-requires-clause-some g t c =
    first_some (hands_of c.staff_keepers.new.hands) c.in-Some.seat.channel []
    (keeps_left (hands_of c.args.hands.now) (hands_of c.staff_keepers.new.hands) c.args.seats.items c.pop.new.self.items c.in-Some.seat c.staff_keepers.new.jobs.items c.in-Some.ensures.items c.requires.enough c.staff_keepers.ensures.of c.staff_keepers.ensures.dealt)

pub returns-clause-dealt : goal.returns-clause-dealt
returns-clause-dealt g t c =
    let J = KeepWorker Known g.row.C.Denot in
    subst (λ (jobs : List J). DealsEach (keep_channels {C = g.row.C.Denot}) (keep_ports {C = g.row.C.Denot}) (hands_of c.args.hands.now) jobs (hands_of c.draw-port.new.hands))
    (sym c.push_reserved.ensures.items)
    (deals_last (keep_channels {C = g.row.C.Denot}) (keep_ports {C = g.row.C.Denot}) (hands_of c.args.hands.now) c.staff_keepers.new.jobs.items _ (hands_of c.staff_keepers.new.hands) (hands_of c.draw-port.new.hands) c.staff_keepers.ensures.dealt (hands_of c.draw-port.new.hands, c.draw-port.ensures, refl))

pub returns-clause-of : goal.returns-clause-of
returns-clause-of g t c =
    let S = KeepSeat g.row.C.Denot in
    let J = KeepWorker Known g.row.C.Denot in
    subst (λ (x : List S × List J). Zips (IsKeepOf {C = g.row.C.Denot}) x.0 x.1) (λ i. (sym c.in-Some.ensures.items i, sym c.push_reserved.ensures.items i))
    (zips_push (IsKeepOf {C = g.row.C.Denot}) c.pop.new.self.items c.staff_keepers.new.jobs.items c.in-Some.seat _ c.staff_keepers.ensures.of (record { channel = refl; interval = refl }))

pub push_reserved-requires : goal.push_reserved-requires
push_reserved-requires g t c =
    let many : length c.pop.new.self.items ≡ length c.staff_keepers.new.jobs.items = zips_length (IsKeepOf {C = g.row.C.Denot}) c.pop.new.self.items c.staff_keepers.new.jobs.items c.staff_keepers.ensures.of in
    let e : length c.args.seats.items ≡ length c.pop.new.self.items + 1 = ap length c.in-Some.ensures.items ∙ length-append c.pop.new.self.items (c.in-Some.seat ∷ []) in
    let room = c.requires.room in
    let kept = c.staff_keepers.ensures.room in
    first_of (omega arith, search (rules, arith))

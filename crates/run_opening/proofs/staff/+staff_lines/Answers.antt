use Rattle.std.proofs.Common.{rules, ◌≡◌, ◌∙◌, ◌+◌, List, [], ◌∷◌, flat_map, length, Some, sym, ap, subst, arith}
use Rattle.std.proofs.lemmas.List.{length-append}
use Rattle.std.proofs.lemmas.List.Elements.{All-pop}
use Rattle.shared_channel.specs.Passes.{Known}
use Rattle.line_worker.specs.declared.worker.LineWorker.{LineWorker}
use Rattle.agent_drafts.specs.Drafts.{TakesLines}
use Rattle.run_tracks.specs.Deals.{DealsEach, hands_of}
use Rattle.run_tracks.specs.Places.{Zips}
use Rattle.run_tracks.proofs.Homing.{zips_length, zips_push}
use Rattle.run_opening.specs.Staff.{IsLineOf, IsRoomy, line_channels, line_ports, seat_channels}
use Rattle.run_opening.specs.declared.seats.Seat.{Seat}
use Rattle.run_opening.proofs.Staffing.{deals_last, last_seat, lines_left, suffice_front}
use Rattle.run_opening.proofs.staff.+staff_lines.Goals as goal

pub staff_lines-requires : goal.staff_lines-requires
staff_lines-requires g t c κs within =
    let S = Seat g.row.K.Denot g.row.C.Denot in
    let e = c.in-Some.ensures.items in
    let enough = last_seat (hands_of c.args.hands.now) c.args.seats.items c.pop.new.self.items c.in-Some.seat e c.requires.enough in
    let rooms = All-pop (λ (s : S). IsRoomy s) c.args.seats.items c.pop.new.self.items (Some c.in-Some.seat) e c.requires.rooms in
    let lines = All-pop (λ (s : S). TakesLines s.draft.rules) c.args.seats.items c.pop.new.self.items (Some c.in-Some.seat) e c.requires.lines in
    let many : length c.args.seats.items ≡ length c.pop.new.self.items + 1 = ap length e ∙ length-append c.pop.new.self.items (c.in-Some.seat ∷ []) in
    let others : length c.args.talks.items ≡ length c.pop-2.new.self.items + 1 = ap length c.in-Some-pop.ensures.items ∙ length-append c.pop-2.new.self.items (c.in-Some-pop.talk ∷ []) in
    let r = c.requires.room in
    let s = c.requires.talks in
    let d = c.decreases in
    (omega arith, (within.0, (within.1.0, (within.1.1.0, (within.1.1.1, (omega arith, (rooms.0, (lines.0, (suffice_front (hands_of c.args.hands.now) (flat_map (λ (s : S). seat_channels s) c.pop.new.self.items) (seat_channels c.in-Some.seat) enough, (c.requires.none, omega arith))))))))))

pub staff_line-requires-clause-room : goal.staff_line-requires-clause-room
staff_line-requires-clause-room g t c =
    let S = Seat g.row.K.Denot g.row.C.Denot in
    (All-pop (λ (s : S). IsRoomy s) c.args.seats.items c.pop.new.self.items (Some c.in-Some.seat) c.in-Some.ensures.items c.requires.rooms).1

pub staff_line-requires-clause-lines : goal.staff_line-requires-clause-lines
staff_line-requires-clause-lines g t c =
    let S = Seat g.row.K.Denot g.row.C.Denot in
    (All-pop (λ (s : S). TakesLines s.draft.rules) c.args.seats.items c.pop.new.self.items (Some c.in-Some.seat) c.in-Some.ensures.items c.requires.lines).1

pub staff_line-requires-clause-enough : goal.staff_line-requires-clause-enough
staff_line-requires-clause-enough g t c =
    lines_left (hands_of c.args.hands.now) (hands_of c.staff_lines.new.hands) c.args.seats.items c.pop.new.self.items c.in-Some.seat c.staff_lines.new.jobs.items c.in-Some.ensures.items c.requires.enough c.staff_lines.ensures.of c.staff_lines.ensures.dealt

pub returns-clause-dealt : goal.returns-clause-dealt
returns-clause-dealt g t c =
    let J = LineWorker Known g.row.I.Denot g.row.O.Denot g.row.C.Denot g.row.K.Denot in
    subst (λ (jobs : List J). DealsEach (λ (j : J). line_channels j) (λ (j : J). line_ports j) (hands_of c.args.hands.now) jobs (hands_of c.staff_line.new.hands))
    (sym c.push_reserved.ensures.items)
    (deals_last (λ (j : J). line_channels j) (λ (j : J). line_ports j) (hands_of c.args.hands.now) c.staff_lines.new.jobs.items c.staff_line.result (hands_of c.staff_lines.new.hands) (hands_of c.staff_line.new.hands) c.staff_lines.ensures.dealt c.staff_line.ensures.dealt)

pub returns-clause-of : goal.returns-clause-of
returns-clause-of g t c =
    let J = LineWorker Known g.row.I.Denot g.row.O.Denot g.row.C.Denot g.row.K.Denot in
    let S = Seat g.row.K.Denot g.row.C.Denot in
    subst (λ (x : List S × List J). Zips (λ (s : S) (j : J). IsLineOf s j) x.0 x.1) (λ i. (sym c.in-Some.ensures.items i, sym c.push_reserved.ensures.items i))
    (zips_push (λ (s : S) (j : J). IsLineOf s j) c.pop.new.self.items c.staff_lines.new.jobs.items c.in-Some.seat c.staff_line.result c.staff_lines.ensures.of c.staff_line.ensures.of)

pub push_reserved-requires : goal.push_reserved-requires
push_reserved-requires g t c =
    let J = LineWorker Known g.row.I.Denot g.row.O.Denot g.row.C.Denot g.row.K.Denot in
    let S = Seat g.row.K.Denot g.row.C.Denot in
    let many : length c.pop.new.self.items ≡ length c.staff_lines.new.jobs.items = zips_length (λ (s : S) (j : J). IsLineOf s j) c.pop.new.self.items c.staff_lines.new.jobs.items c.staff_lines.ensures.of in
    let e : length c.args.seats.items ≡ length c.pop.new.self.items + 1 = ap length c.in-Some.ensures.items ∙ length-append c.pop.new.self.items (c.in-Some.seat ∷ []) in
    let room = c.requires.room in
    let kept = c.staff_lines.ensures.room in
    first_of (omega arith, search (rules, arith))

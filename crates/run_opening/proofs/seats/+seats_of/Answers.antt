use Rattle.std.proofs.Common.{rules, ◌≡◌, ◌≤◌, ℕ, All, length, sym, subst}
use Rattle.std.proofs.lemmas.List.Elements.{All-push}
use Rattle.std.specs.Vec.{vec_capacity}
use Rattle.run_opening.specs.Staff.{IsRoomy}
use Rattle.run_opening.specs.declared.seats.Seat.{Seat}
use Rattle.run_opening.proofs.seats.+seats_of.Goals as goal

pub returns-clause-room : goal.returns-clause-room
returns-clause-room g t c =
    let S = Seat g.row.K.Denot g.row.H-Clock.Denot in
    let Is = λ (seat : S). IsRoomy seat in
    let seat : S = record { draft = c.in-Some.draft; ports = c.in_ok-ports.ports; clock = c.clock-clock.result } in
    let many : c.len.result ≡ length c.in-Some.draft.channels.items = search rules in
    let one : Is seat = record { none = c.in_ok-ports.ensures.items; room = subst (λ (n : ℕ). n ≤ vec_capacity c.in_ok-ports.ports) many c.in_ok-ports.ensures.capacity } in
    subst (All Is) (sym c.in_ok-push.ensures.items) (All-push Is c.in_ok-seats.seats.items seat c.in_ok-seats.ensures.room one)

use Rattle.std.proofs.Common.{◌∙◌, ℕ, Option, refl, sym, subst}
use Rattle.flume_host.specs.Causes.{Rose}
use Rattle.source_put.specs.Tries.{Puts}
use Rattle.source_worker.specs.Rounds.{Makes, MendsInto, MendsPort, Round, Session, WorksBy}
use Rattle.source_worker.specs.Workers.{heard_of, stood}
use Rattle.source_worker.proofs.Works.{WorkedSo, by_same, worked_last, worked_more, worked_none}
use Rattle.source_worker.proofs.service.Service.serve_until.Goals as goal

pub loop-init : goal.loop-init
loop-init g c =
    let old = c.args.self.now in
    let heard = heard_of g.N.Listens.told g.N.Listens.faults g.N.Listens.waits in
    let Sessions = Session c.args.rules.now (Puts g.F.Face.own g.F.Face.saw g.F.Face.seen g.F.Face.kept) old.intake.selector g.B.Interceptor.intercepts old.intake.host in
    let Mends = MendsInto (MendsPort g.F.Face.own g.F.Face.saw g.F.Face.seen g.F.Face.kept g.F.MendFace.on_disk) in
    (tt, tt, worked_none Sessions Mends old.built (stood old.intake (g.C.Clock.moments c.args.clock.now) (heard c.args.listener.now) old.due), refl, refl, refl, refl, λ s. s, refl)

pub returns-then-is_stopped-clause-works : goal.returns-then-is_stopped-clause-works
returns-then-is_stopped-clause-works g c =
    let old = c.args.self.now in
    let i = c.loop.invariant in
    let one = c.round-found in
    let heard = heard_of g.N.Listens.told g.N.Listens.faults g.N.Listens.waits in
    let Put = Puts g.F.Face.own g.F.Face.saw g.F.Face.seen g.F.Face.kept in
    let Sessions = Session c.args.rules.now Put old.intake.selector g.B.Interceptor.intercepts old.intake.host in
    let Mends = MendsInto (MendsPort g.F.Face.own g.F.Face.saw g.F.Face.seen g.F.Face.kept g.F.MendFace.on_disk) in
    let start = stood old.intake (g.C.Clock.moments c.args.clock.now) (heard c.args.listener.now) old.due in
    let now = stood c.loop.self.intake (g.C.Clock.moments c.loop.clock) (heard c.loop.listener) c.loop.self.due in
    let next = stood one.new.self.intake (g.C.Clock.moments one.new.clock) (heard one.new.listener) one.new.self.due in
    let round : Round = record { found = one.result; mends = one.ensures.makes.0 } in
    let made : Makes Sessions Mends round now next = by_same Put g.B.Interceptor.intercepts c.args.rules.now Mends _ _ _ _ round now next i.3 i.4 one.ensures.makes.1 in
    worked_last Sessions Mends old.built start now next round i.2 made (λ is. one.ensures.unserved (i.5 ∙ is))

pub returns-then-is_stopped-clause-settled : goal.returns-then-is_stopped-clause-settled
returns-then-is_stopped-clause-settled g c = λ s. c.round-found.ensures.settled (c.loop.invariant.7 s)

pub returns-then-is_stopped-clause-endpoint : goal.returns-then-is_stopped-clause-endpoint
returns-then-is_stopped-clause-endpoint g c = c.round-found.ensures.endpoint ∙ c.loop.invariant.8

pub returns-then-is_stopped-clause-stop : goal.returns-then-is_stopped-clause-stop
returns-then-is_stopped-clause-stop g c =
    subst (λ (n : ℕ). Rose n (g.H.Halt.yes c.round-found.new.halt)) c.loop.invariant.6 (c.round-found.ensures.stop.rose (c.is_stopped.ensures.yes c.if-is_stopped.true))

pub returns-then-asked-clause-works : goal.returns-then-asked-clause-works
returns-then-asked-clause-works g c =
    let old = c.args.self.now in
    let i = c.loop.invariant in
    let one = c.round-found in
    let heard = heard_of g.N.Listens.told g.N.Listens.faults g.N.Listens.waits in
    let Put = Puts g.F.Face.own g.F.Face.saw g.F.Face.seen g.F.Face.kept in
    let Sessions = Session c.args.rules.now Put old.intake.selector g.B.Interceptor.intercepts old.intake.host in
    let Mends = MendsInto (MendsPort g.F.Face.own g.F.Face.saw g.F.Face.seen g.F.Face.kept g.F.MendFace.on_disk) in
    let start = stood old.intake (g.C.Clock.moments c.args.clock.now) (heard c.args.listener.now) old.due in
    let now = stood c.loop.self.intake (g.C.Clock.moments c.loop.clock) (heard c.loop.listener) c.loop.self.due in
    let next = stood one.new.self.intake (g.C.Clock.moments one.new.clock) (heard one.new.listener) one.new.self.due in
    let round : Round = record { found = one.result; mends = one.ensures.makes.0 } in
    let made : Makes Sessions Mends round now next = by_same Put g.B.Interceptor.intercepts c.args.rules.now Mends _ _ _ _ round now next i.3 i.4 one.ensures.makes.1 in
    worked_last Sessions Mends old.built start now next round i.2 made (λ is. one.ensures.unserved (i.5 ∙ is))

pub returns-then-asked-clause-settled : goal.returns-then-asked-clause-settled
returns-then-asked-clause-settled g c = λ s. c.round-found.ensures.settled (c.loop.invariant.7 s)

pub returns-then-asked-clause-endpoint : goal.returns-then-asked-clause-endpoint
returns-then-asked-clause-endpoint g c = c.round-found.ensures.endpoint ∙ c.loop.invariant.8

pub returns-then-asked-clause-stop : goal.returns-then-asked-clause-stop
returns-then-asked-clause-stop g c =
    subst (λ (n : ℕ). Rose n (g.H.Halt.yes c.asked.new.self)) (c.round-found.ensures.stop.same (c.is_stopped.ensures.no c.if-is_stopped.false) ∙ c.loop.invariant.6) (c.asked.ensures.cause c.if-asked.true)

pub returns-then-rest-clause-works : goal.returns-then-rest-clause-works
returns-then-rest-clause-works g c =
    let old = c.args.self.now in
    let i = c.loop.invariant in
    let one = c.round-found in
    let heard = heard_of g.N.Listens.told g.N.Listens.faults g.N.Listens.waits in
    let Put = Puts g.F.Face.own g.F.Face.saw g.F.Face.seen g.F.Face.kept in
    let Sessions = Session c.args.rules.now Put old.intake.selector g.B.Interceptor.intercepts old.intake.host in
    let Mends = MendsInto (MendsPort g.F.Face.own g.F.Face.saw g.F.Face.seen g.F.Face.kept g.F.MendFace.on_disk) in
    let start = stood old.intake (g.C.Clock.moments c.args.clock.now) (heard c.args.listener.now) old.due in
    let now = stood c.loop.self.intake (g.C.Clock.moments c.loop.clock) (heard c.loop.listener) c.loop.self.due in
    let next = stood one.new.self.intake (g.C.Clock.moments one.new.clock) (heard one.new.listener) one.new.self.due in
    let round : Round = record { found = one.result; mends = one.ensures.makes.0 } in
    let made : Makes Sessions Mends round now next = by_same Put g.B.Interceptor.intercepts c.args.rules.now Mends _ _ _ _ round now next i.3 i.4 one.ensures.makes.1 in
    subst (λ (m : Option (ℕ → ℕ)). WorksBy Sessions Mends old.built start (stood one.new.self.intake m (heard one.new.listener) one.new.self.due)) (sym c.rest.ensures.moments)
    (worked_last Sessions Mends old.built start now next round i.2 made (λ is. one.ensures.unserved (i.5 ∙ is)))

pub returns-then-rest-clause-settled : goal.returns-then-rest-clause-settled
returns-then-rest-clause-settled g c = λ s. c.round-found.ensures.settled (c.loop.invariant.7 s)

pub returns-then-rest-clause-endpoint : goal.returns-then-rest-clause-endpoint
returns-then-rest-clause-endpoint g c = c.round-found.ensures.endpoint ∙ c.loop.invariant.8

pub returns-then-rest-clause-stop : goal.returns-then-rest-clause-stop
returns-then-rest-clause-stop g c =
    subst (λ (n : ℕ). Rose n (g.H.Halt.yes c.rest.new.halt)) (c.asked.ensures.still c.if-asked.false ∙ c.round-found.ensures.stop.same (c.is_stopped.ensures.no c.if-is_stopped.false) ∙ c.loop.invariant.6) (c.rest.ensures.stop c.if-rest.true)

pub loop-preserved : goal.loop-preserved
loop-preserved g c =
    let old = c.args.self.now in
    let i = c.loop.invariant in
    let one = c.round-found in
    let heard = heard_of g.N.Listens.told g.N.Listens.faults g.N.Listens.waits in
    let Put = Puts g.F.Face.own g.F.Face.saw g.F.Face.seen g.F.Face.kept in
    let Sessions = Session c.args.rules.now Put old.intake.selector g.B.Interceptor.intercepts old.intake.host in
    let Mends = MendsInto (MendsPort g.F.Face.own g.F.Face.saw g.F.Face.seen g.F.Face.kept g.F.MendFace.on_disk) in
    let start = stood old.intake (g.C.Clock.moments c.args.clock.now) (heard c.args.listener.now) old.due in
    let now = stood c.loop.self.intake (g.C.Clock.moments c.loop.clock) (heard c.loop.listener) c.loop.self.due in
    let next = stood one.new.self.intake (g.C.Clock.moments one.new.clock) (heard one.new.listener) one.new.self.due in
    let round : Round = record { found = one.result; mends = one.ensures.makes.0 } in
    let made : Makes Sessions Mends round now next = by_same Put g.B.Interceptor.intercepts c.args.rules.now Mends _ _ _ _ round now next i.3 i.4 one.ensures.makes.1 in
    let going = c.is_stopped.ensures.no c.if-is_stopped.false in (
      tt,
      tt,
      subst (λ (m : Option (ℕ → ℕ)). WorkedSo Sessions Mends old.built start (stood one.new.self.intake m (heard one.new.listener) one.new.self.due)) (sym c.rest.ensures.moments)
          (worked_more Sessions Mends old.built start now next round i.2 made going (λ is. one.ensures.unserved (i.5 ∙ is))),
      one.ensures.same.0 ∙ i.3,
      one.ensures.same.1 ∙ i.4,
      one.ensures.same.2 ∙ i.5,
      c.rest.ensures.still c.if-rest.false ∙ c.asked.ensures.still c.if-asked.false ∙ one.ensures.stop.same going ∙ i.6,
      λ s. one.ensures.settled (i.7 s),
      one.ensures.endpoint ∙ i.8,
    )

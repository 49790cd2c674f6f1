use Rattle.std.proofs.Common.{rules, ◌≡◌, ◌∙◌, ◌≤◌, ◌+◌, List, [], ◌∷◌, length, Some, sym, ap, subst, arith}
use Rattle.std.proofs.lemmas.List.{length-append}
use Rattle.std.proofs.lemmas.List.Elements.{All-pop}
use Rattle.std.specs.Vec.{vec_capacity}
use Rattle.std.specs.declared.alloc.Global.{Global}
use Rattle.std.specs.declared.vec.Vec.{Vec}
use Rattle.shared_channel.specs.Passes.{Known}
use Rattle.line_worker.specs.declared.worker.LineWorker.{LineWorker}
use Rattle.two_channels.specs.Shares.{table_of}
use Rattle.two_channels.specs.declared.port.EitherPort.{EitherPort}
use Rattle.run_tracks.specs.Places.{Zips}
use Rattle.run_tracks.proofs.Homing.{zips-append, zips_length, zips_none, zips_push}
use Rattle.run_staff.specs.Ports.{AreLinePorts}
use Rattle.run_working.specs.Opened.{IsLineOpened}
use Rattle.run_settling.specs.Draining.{HasRoom}
use Rattle.run_working.proofs.ports.+open_lines.Goals as goal

pub open_lines-requires : goal.open_lines-requires
open_lines-requires g t c κs within =
    let J = LineWorker Known g.row.I.Denot g.row.O.Denot g.row.C.Denot g.row.K.Denot in
    let Room = Vec (EitherPort g.row.R.Denot g.row.A.Denot g.row.B.Denot) Global in
    let P = λ (job : J). AreLinePorts (table_of {A = g.row.A.Denot} {B = g.row.B.Denot}) c.args.shares.now (λ (p : Known). p) job in
    let H = λ (job : J) (room : Room). HasRoom job.ports.items room in
    let all = All-pop P c.args.jobs.items c.pop.new.self.items (Some c.in-Some.job) c.in-Some.ensures.items c.requires.jobs in
    let zips = zips-append H c.pop.new.self.items c.pop-2.new.self.items c.in-Some.job c.in-Some-pop.room
    (subst (λ (x : List J × List Room). Zips H x.0 x.1) (λ i. (c.in-Some.ensures.items i, c.in-Some-pop.ensures.items i)) c.requires.rooms) in
    let e : length c.args.jobs.items ≡ length c.pop.new.self.items + 1 = ap length c.in-Some.ensures.items ∙ length-append c.pop.new.self.items (c.in-Some.job ∷ []) in
    let room : length c.pop.new.self.items ≤ vec_capacity c.args.workers.now = let r = c.requires.room in omega arith in
    let d = c.decreases in
    (omega arith, (within.0, (within.1.0, (within.1.1.0, (within.1.1.1.0, (within.1.1.1.1.0, (within.1.1.1.1.1.0, (within.1.1.1.1.1.1, (all.0, (zips.0, (c.requires.none, room)))))))))))

pub open_line-requires-clause-job : goal.open_line-requires-clause-job
open_line-requires-clause-job g t c =
    let J = LineWorker Known g.row.I.Denot g.row.O.Denot g.row.C.Denot g.row.K.Denot in
    let P = λ (job : J). AreLinePorts (table_of {A = g.row.A.Denot} {B = g.row.B.Denot}) c.args.shares.now (λ (p : Known). p) job in
    (All-pop P c.args.jobs.items c.pop.new.self.items (Some c.in-Some.job) c.in-Some.ensures.items c.requires.jobs).1

pub open_line-requires-clause-room : goal.open_line-requires-clause-room
open_line-requires-clause-room g t c =
    let J = LineWorker Known g.row.I.Denot g.row.O.Denot g.row.C.Denot g.row.K.Denot in
    let Room = Vec (EitherPort g.row.R.Denot g.row.A.Denot g.row.B.Denot) Global in
    let H = λ (job : J) (room : Room). HasRoom job.ports.items room in
    (zips-append H c.pop.new.self.items c.pop-2.new.self.items c.in-Some.job c.in-Some-pop.room
    (subst (λ (x : List J × List Room). Zips H x.0 x.1) (λ i. (c.in-Some.ensures.items i, c.in-Some-pop.ensures.items i)) c.requires.rooms)).1

pub returns-clause-opened : goal.returns-clause-opened
returns-clause-opened g t c =
    let J = LineWorker Known g.row.I.Denot g.row.O.Denot g.row.C.Denot g.row.K.Denot in
    let W = LineWorker (EitherPort g.row.R.Denot g.row.A.Denot g.row.B.Denot) g.row.I.Denot g.row.O.Denot g.row.C.Denot g.row.K.Denot in
    let O = λ (job : J) (w : W). IsLineOpened c.args.shares.now job w in
    subst (λ (x : List J × List W). Zips O x.0 x.1) (λ i. (sym c.in-Some.ensures.items i, sym c.push_reserved.ensures.items i))
    (zips_push O c.pop.new.self.items c.open_lines.new.workers.items c.in-Some.job c.open_line.result c.open_lines.ensures.opened c.open_line.ensures)

pub push_reserved-requires : goal.push_reserved-requires
push_reserved-requires g t c =
    let J = LineWorker Known g.row.I.Denot g.row.O.Denot g.row.C.Denot g.row.K.Denot in
    let W = LineWorker (EitherPort g.row.R.Denot g.row.A.Denot g.row.B.Denot) g.row.I.Denot g.row.O.Denot g.row.C.Denot g.row.K.Denot in
    let O = λ (job : J) (w : W). IsLineOpened c.args.shares.now job w in
    let many : length c.pop.new.self.items ≡ length c.open_lines.new.workers.items = zips_length O c.pop.new.self.items c.open_lines.new.workers.items c.open_lines.ensures.opened in
    let e : length c.args.jobs.items ≡ length c.pop.new.self.items + 1 = ap length c.in-Some.ensures.items ∙ length-append c.pop.new.self.items (c.in-Some.job ∷ []) in
    let room = c.requires.room in
    let kept = c.open_lines.ensures.room in
    first_of (omega arith, search (rules, arith))

pub returns-in_default-pop-clause-opened : goal.returns-in_default-pop-clause-opened
returns-in_default-pop-clause-opened g t c =
    let J = LineWorker Known g.row.I.Denot g.row.O.Denot g.row.C.Denot g.row.K.Denot in
    let W = LineWorker (EitherPort g.row.R.Denot g.row.A.Denot g.row.B.Denot) g.row.I.Denot g.row.O.Denot g.row.C.Denot g.row.K.Denot in
    let Room = Vec (EitherPort g.row.R.Denot g.row.A.Denot g.row.B.Denot) Global in
    let H = λ (job : J) (room : Room). HasRoom job.ports.items room in
    let O = λ (job : J) (w : W). IsLineOpened c.args.shares.now job w in
    let none : c.args.rooms.items ≡ [] = search rules in
    let nobody : c.args.jobs.items ≡ [] = zips_none H c.args.jobs.items c.args.rooms.items c.requires.rooms none in
    subst (λ (x : List J × List W). Zips O x.0 x.1) (λ i. (sym nobody i, sym c.requires.none i)) tt

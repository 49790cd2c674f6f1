use Rattle.std.proofs.Common.{rules, ◌≡◌, ◌∙◌, ◌≤◌, ◌+◌, List, [], ◌∷◌, length, get_or, Some, refl, sym, ap, subst, arith}
use Rattle.std.proofs.lemmas.List.{get_or_default, length-append}
use Rattle.std.proofs.lemmas.List.Elements.{All-pop}
use Rattle.std.specs.Vec.{vec_capacity}
use Rattle.shared_channel.specs.Passes.{Known}
use Rattle.keep_worker.specs.declared.worker.KeepWorker.{KeepWorker}
use Rattle.two_channels.specs.Shares.{IsPortOf, table_of}
use Rattle.two_channels.specs.declared.port.EitherPort.{EitherPort}
use Rattle.two_channels.specs.declared.shared.EitherShared.{EitherShared}
use Rattle.run_tracks.specs.Places.{Zips}
use Rattle.run_tracks.proofs.Homing.{zips_length, zips_push}
use Rattle.run_staff.specs.Ports.{IsKeepPort}
use Rattle.run_working.specs.Opened.{IsKeepOpened}
use Rattle.run_working.proofs.ports.+open_keepers.Goals as goal

pub open_keepers-requires : goal.open_keepers-requires
open_keepers-requires g t c κs within =
    let P = IsKeepPort {F = Known} {C = g.row.C.Denot} (table_of {A = g.row.A.Denot} {B = g.row.B.Denot}) c.args.shares.now (λ (p : Known). p) in
    let all = All-pop P c.args.jobs.items c.pop.new.self.items (Some c.in-Some.job) c.in-Some.ensures.items c.requires.jobs in
    let e : length c.args.jobs.items ≡ length c.pop.new.self.items + 1 = ap length c.in-Some.ensures.items ∙ length-append c.pop.new.self.items (c.in-Some.job ∷ []) in
    let room : length c.pop.new.self.items ≤ vec_capacity c.args.workers.now = let r = c.requires.room in omega arith in
    let d = c.decreases in
    (omega arith, (within.0, (within.1.0, (within.1.1.0, (within.1.1.1, (all.0, (c.requires.none, room)))))))

pub bounds-shares-channel : goal.bounds-shares-channel
bounds-shares-channel g t c =
    let P = IsKeepPort {F = Known} {C = g.row.C.Denot} (table_of {A = g.row.A.Denot} {B = g.row.B.Denot}) c.args.shares.now (λ (p : Known). p) in
    (All-pop P c.args.jobs.items c.pop.new.self.items (Some c.in-Some.job) c.in-Some.ensures.items c.requires.jobs).1.below

pub port-requires : goal.port-requires
port-requires g t c =
    let P = IsKeepPort {F = Known} {C = g.row.C.Denot} (table_of {A = g.row.A.Denot} {B = g.row.B.Denot}) c.args.shares.now (λ (p : Known). p) in
    let all = All-pop P c.args.jobs.items c.pop.new.self.items (Some c.in-Some.job) c.in-Some.ensures.items c.requires.jobs in
    let share = c.index-shares-channel in
    all.1.here share.result ∙ ap (table_of {A = g.row.A.Denot} {B = g.row.B.Denot}) (sym share.is)

pub returns-clause-opened : goal.returns-clause-opened
returns-clause-opened g t c =
    let E = EitherShared g.row.A.Denot g.row.B.Denot in
    let J = KeepWorker Known g.row.C.Denot in
    let W = KeepWorker (EitherPort g.row.R.Denot g.row.A.Denot g.row.B.Denot) g.row.C.Denot in
    let O = λ (job : J) (w : W). IsKeepOpened c.args.shares.now job w in
    let P = IsKeepPort {F = Known} {C = g.row.C.Denot} (table_of {A = g.row.A.Denot} {B = g.row.B.Denot}) c.args.shares.now (λ (p : Known). p) in
    let all = All-pop P c.args.jobs.items c.pop.new.self.items (Some c.in-Some.job) c.in-Some.ensures.items c.requires.jobs in
    let share = c.index-shares-channel in
    let kind : (d : E) → IsPortOf (get_or c.args.shares.now c.in-Some.job.channel d) c.port.result = λ d.
    subst (λ (s : E). IsPortOf s c.port.result) (share.is ∙ get_or_default c.args.shares.now c.in-Some.job.channel share.result d all.1.below) c.port.ensures.kind in
    subst (λ (x : List J × List W). Zips O x.0 x.1) (λ i. (sym c.in-Some.ensures.items i, sym c.push_reserved.ensures.items i))
    (zips_push O c.pop.new.self.items c.open_keepers.new.workers.items c.in-Some.job _ c.open_keepers.ensures.opened
    (record { pass = c.port.ensures.pass; kind = kind; channel = refl; interval = refl; clock = refl }))

pub push_reserved-requires : goal.push_reserved-requires
push_reserved-requires g t c =
    let J = KeepWorker Known g.row.C.Denot in
    let W = KeepWorker (EitherPort g.row.R.Denot g.row.A.Denot g.row.B.Denot) g.row.C.Denot in
    let O = λ (job : J) (w : W). IsKeepOpened c.args.shares.now job w in
    let many : length c.pop.new.self.items ≡ length c.open_keepers.new.workers.items = zips_length O c.pop.new.self.items c.open_keepers.new.workers.items c.open_keepers.ensures.opened in
    let e : length c.args.jobs.items ≡ length c.pop.new.self.items + 1 = ap length c.in-Some.ensures.items ∙ length-append c.pop.new.self.items (c.in-Some.job ∷ []) in
    let room = c.requires.room in
    let kept = c.open_keepers.ensures.room in
    first_of (omega arith, search (rules, arith))

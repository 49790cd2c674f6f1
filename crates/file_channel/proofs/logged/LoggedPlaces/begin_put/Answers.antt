use Rattle.channel_face.specs.Machine.{BeginPut, after}
use Rattle.file_channel.specs.Placed.{Logged}
use Rattle.file_channel.proofs.Stepping.{begun_put}
use Rattle.file_channel.proofs.logged.LoggedPlaces.begin_put.Goals as goal

pub returns-clause-step : goal.returns-clause-step
returns-clause-step g c =
    let m = c.self.inside in
    let old : Logged = record { places = m.held; log = m.writing.log; busy = m.writing.busy } in
    rw (← c.self.view_is) (λ s is. begun_put (g.D.Disk.told m.writing.disk) old c.begin_put.new.self c.begin_put.result s is c.begin_put.ensures.step c.begin_put.ensures.opened)

pub invariant_of-self : goal.invariant_of-self
invariant_of-self g c =
    let m = c.self.inside in
    let i = c.self.invariant in
    let old : Logged = record { places = m.held; log = m.writing.log; busy = m.writing.busy } in
    (after i.0 (BeginPut c.begin_put.result), (begun_put (g.D.Disk.told m.writing.disk) old c.begin_put.new.self c.begin_put.result i.0 i.1 c.begin_put.ensures.step c.begin_put.ensures.opened).stands)

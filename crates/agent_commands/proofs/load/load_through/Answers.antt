use Rattle.std.proofs.Common.{◌≡◌, ◌+◌, ◌-◌, ◌^◌, ◌<◌, [], Result, inr, length, min, refl, sym, ◌∙◌, ap, subst, arith}
use Rattle.channel_face.specs.History.{Opening}
use Rattle.file_channel.specs.Stands.{opened_as}
use Rattle.std.specs.Prelude.{String}
use Rattle.std.specs.Global.{Global}
use Rattle.channel_face.specs.declared.replies.Limits.{Limits}
use Rattle.agent_commands.specs.Loads.{IsClosedAtOnce, RanOn}
use Rattle.agent_commands.specs.declared.load.LoadCause.{LoadCause}
use Rattle.agent_commands.specs.declared.traced.TracedChannel.{TracedChannel}
use Rattle.agent_commands.specs.Stored.{default_limits}
use Rattle.agent_commands.proofs.Loaded.{closed_once}
use Rattle.agent_commands.proofs.load.load_through.Goals as goal

pub returns-then-count-from-clause-ran : goal.returns-then-count-from-clause-ran
returns-then-count-from-clause-ran g c =
    let told = g.D.Disk.told in
    let faults = g.D.Disk.faults in
    let n = c.args.n in
    let was = c.args.channel.channel in
    let before = told c.args.before.value in
    let start = opened_as before (faults c.args.before.value) (told was.0) was.1 in
    let size : c.size.result ≡ length start.base.items = c.size.ensures start [] c.requires.stands in
    let from = c.from.ensures in
    let sum = c.saturating_add-count.ensures in
    let over = c.if-count-from.true in
    let most : c.from-2.result ≡ 1000000 = c.from-2.ensures ∙ ap (λ (l : Limits). l.capacity) c.default_limits.ensures in
    let count = c.saturating_add-count.result in
    let P : Opening → Type 0 = λ o. (default_limits.capacity < length o.base.items + n) × (count ≡ min (length o.base.items + n) (2 ^ 64 - 1)) in
    let p : P start = (omega (arith, size, from, sum, over, most), omega (arith, size, from, sum)) in
    let closed = closed_once before (told was.0) (faults was.0) was.1 start P c.requires.stands c.requires.begins p in
    subst (λ (a : Result (String Global) LoadCause). RanOn n before (told c.close.result) c.ended.result.pass a) (sym c.ended.ensures.0) (c.ended.ensures.1, subst (λ (d : g.row.D.Denot). IsClosedAtOnce before (told d) P) (sym c.close.ensures) closed)

pub load_pass-requires-clause-room : goal.load_pass-requires-clause-room
load_pass-requires-clause-room g c =
    let told = g.D.Disk.told in
    let was = c.args.channel.channel in
    let start = opened_as (told c.args.before.value) (g.D.Disk.faults c.args.before.value) (told was.0) was.1 in
    let size : c.size.result ≡ length start.base.items = c.size.ensures start [] c.requires.stands in
    let from = c.from.ensures in
    let sum = c.saturating_add-count.ensures in
    let within = c.if-count-from.false in
    let most : c.from-2.result ≡ 1000000 = c.from-2.ensures ∙ ap (λ (l : Limits). l.capacity) c.default_limits.ensures in
    let items : length c.in-Ok.pass.view.base.base.items ≡ length start.base.items = ap (λ (o : Opening). length o.base.items) c.in-Ok.ensures.base in
    omega (arith, size, from, sum, within, most, items)

pub returns-in-Err-clause-ran : goal.returns-in-Err-clause-ran
returns-in-Err-clause-ran g c =
    let told = g.D.Disk.told in
    let faults = g.D.Disk.faults in
    let was = c.args.channel.channel in
    let before = told c.args.before.value in
    let start = opened_as before (faults c.args.before.value) (told was.0) was.1 in
    let P : Opening → Type 0 = λ o. Unit {0} in
    let closed = closed_once before (told was.0) (faults was.0) was.1 start P c.requires.stands c.requires.begins tt in
    let same : c.close-in-Err.result ≡ was.0 = c.close-in-Err.ensures ∙ ap (λ (x : TracedChannel g.row.D.Denot). x.channel.0) c.in-Err.ensures.back in
    subst (λ (a : Result (String Global) LoadCause). RanOn c.args.n before (told c.close-in-Err.result) c.ended-in-Err.result.pass a) (sym c.ended-in-Err.ensures.0)
    (c.ended-in-Err.ensures.1, inr (refl, subst (λ (d : g.row.D.Denot). IsClosedAtOnce before (told d) P) (sym same) closed))

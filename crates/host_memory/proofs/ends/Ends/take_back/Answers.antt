use Rattle.std.proofs.Common.{◌≡◌, ◌∙◌, List, ap, arith, get_or, length, sym, true}
use Rattle.host_memory.specs.declared.address.Address.{Address}
use Rattle.host_memory.specs.Ends.{is_at}
use Rattle.host_memory.proofs.Handing.{come_back}
use Rattle.host_memory.proofs.ends.Ends.take_back.Goals as goal

pub returns : goal.returns
returns g c =
    let known = c.in-Some.ensures in
    let out : List Address = c.args.self.now.out.items in
    let at : Address = c.remove-at.result in
    let here : is_at c.args.host.now c.args.port (get_or out c.in-Some.index at) ≡ true =
    ap (λ (l : List Address). is_at c.args.host.now c.args.port (get_or l c.in-Some.index at)) (sym c.deref.ensures.value) ∙ known.1 at in
    λ told waits faults. come_back told waits faults c.args.host.now c.args.port c.args.object out _ c.args.self.now.back.items _ c.in-Some.index at (omega (arith, known.0, ap length c.deref.ensures.value)) here c.remove-at.ensures.by_index.2
    (ap (λ (a : Address). is_at c.args.host.now c.args.port a) c.remove-at.ensures.value ∙ here) c.put.ensures.items

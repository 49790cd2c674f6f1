use Rattle.std.proofs.Common.{List, sym, subst}
use Rattle.event_core.specs.Content.{Content}
use Rattle.source_put.proofs.Passing.{AreLeft, none_kept, none_left, on_ok, one_dropped, one_kept, one_too_large, one_without_memory}
use Rattle.source_put.proofs.chain.Chain.pass.Goals as goal

pub returns-then-is_err : goal.returns-then-is_err
returns-then-is_err g c =
    let links = c.loop-event.self.links.items in
    let are = subst (λ (l : List Content). AreLeft g.B.Interceptor.intercepts c.args.moment c.args.host.now c.args.self.now.links.items c.args.batch c.loop-event.kept links l) c.in-Some.ensures c.loop-event.invariant in
    none_kept g.B.Interceptor.intercepts c.args.moment c.args.host.now _ _ c.loop-event.kept links c.in-Some.event c.take_first.new.self are c.in-Event.event c.pass_one.new.self.links.items c.in-Event.ensures

pub loop-event-preserved-else-is_err : goal.loop-event-preserved-else-is_err
loop-event-preserved-else-is_err g c =
    let links = c.loop-event.self.links.items in
    let are = subst (λ (l : List Content). AreLeft g.B.Interceptor.intercepts c.args.moment c.args.host.now c.args.self.now.links.items c.args.batch c.loop-event.kept links l) c.in-Some.ensures c.loop-event.invariant in
    subst (λ (k : List Content). AreLeft g.B.Interceptor.intercepts c.args.moment c.args.host.now c.args.self.now.links.items c.args.batch k c.pass_one.new.self.links.items c.take_first.new.self) (sym (on_ok c.push.result c.push.ensures.ok c.if-is_err.ensures.value))
    (one_kept g.B.Interceptor.intercepts c.args.moment c.args.host.now _ _ c.loop-event.kept links c.in-Some.event c.take_first.new.self are c.in-Event.event c.pass_one.new.self.links.items c.in-Event.ensures)

pub returns-in-TooLarge : goal.returns-in-TooLarge
returns-in-TooLarge g c =
    let links = c.loop-event.self.links.items in
    let are = subst (λ (l : List Content). AreLeft g.B.Interceptor.intercepts c.args.moment c.args.host.now c.args.self.now.links.items c.args.batch c.loop-event.kept links l) c.in-Some.ensures c.loop-event.invariant in
    one_too_large g.B.Interceptor.intercepts c.args.moment c.args.host.now _ _ c.loop-event.kept links c.in-Some.event c.take_first.new.self are c.in-TooLarge.size c.pass_one.new.self.links.items c.in-TooLarge.ensures

pub returns-in-NoMemory : goal.returns-in-NoMemory
returns-in-NoMemory g c =
    let links = c.loop-event.self.links.items in
    let are = subst (λ (l : List Content). AreLeft g.B.Interceptor.intercepts c.args.moment c.args.host.now c.args.self.now.links.items c.args.batch c.loop-event.kept links l) c.in-Some.ensures c.loop-event.invariant in
    one_without_memory g.B.Interceptor.intercepts c.args.moment c.args.host.now _ _ c.loop-event.kept links c.in-Some.event c.take_first.new.self are c.pass_one.new.self.links.items c.in-NoMemory.ensures

pub returns : goal.returns
returns g c =
    none_left g.B.Interceptor.intercepts c.args.moment c.args.host.now c.args.self.now.links.items c.args.batch c.loop-event.kept c.loop-event.self.links.items
    (subst (λ (l : List Content). AreLeft g.B.Interceptor.intercepts c.args.moment c.args.host.now c.args.self.now.links.items c.args.batch c.loop-event.kept c.loop-event.self.links.items l) c.in_default.ensures.0 c.loop-event.invariant)

pub loop-event-preserved : goal.loop-event-preserved
loop-event-preserved g c =
    let links = c.loop-event.self.links.items in
    let are = subst (λ (l : List Content). AreLeft g.B.Interceptor.intercepts c.args.moment c.args.host.now c.args.self.now.links.items c.args.batch c.loop-event.kept links l) c.in-Some.ensures c.loop-event.invariant in
    one_dropped g.B.Interceptor.intercepts c.args.moment c.args.host.now _ _ c.loop-event.kept links c.in-Some.event c.take_first.new.self are c.pass_one.new.self.links.items c.in-Dropped.ensures

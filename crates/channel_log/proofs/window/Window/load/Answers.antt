use Rattle.std.proofs.Common.{◌≡◌, List, ℕ, length, drop, min, ◌∙◌, ap, arith}
use Rattle.std.proofs.lemmas.List.{length-drop, with_items_is}
use Rattle.std.specs.Vec.{with_items}
use Rattle.channel_log.proofs.Keeping.{from_items, load_is}
use Rattle.channel_log.proofs.window.Window.load.Goals as goal

pub returns-clause-loaded : goal.returns-clause-loaded
returns-clause-loaded g c = λ t is.
    let r = c.in_ok-n.ensures.bytes t is in
    let size : length c.deref_mut.result.now ≡ length c.self.inside.block.items = ap (λ (l : List ℕ). length l) c.deref_mut.ensures.value in
    let n : c.in_ok-n.n ≡ min c.args.size (length (drop c.args.at r.0)) = omega (arith, r.2, size, c.self.invariant.whole, length-drop c.args.at r.0) in
    let block = with_items c.self.inside.block c.read_front.new.block in
    let into : block.items ≡ c.read_front.new.block = with_items_is c.self.inside.block c.read_front.new.block (omega arith) in
    (r.0, r.1, from_items c.args.file c.args.at c.below-self-inside.result _ _ into ∙ load_is c.args.size c.args.file c.args.at _ _ (drop c.args.at r.0) c.in_ok-n.n c.args.end c.below-self-inside.result n r.3 c.below-self-inside.ensures)

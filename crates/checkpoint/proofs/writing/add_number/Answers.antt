use Rattle.std.proofs.Common.{◌++◌, List, ℕ, ap, ◌∙◌, append_assoc}
use Rattle.event_core.specs.Numbers.{u32_bytes, u64_bytes}
use Rattle.checkpoint.proofs.Spooling.{adds_more}
use Rattle.checkpoint.proofs.writing.add_number.Goals as goal

pub returns-clause-added : goal.returns-clause-added
returns-clause-added g c =
    adds_more c.args.number _ _ _ _ _ _ c.in_ok-next.ensures.same
    (c.put_u32.ensures.items ∙ (ap (λ (l : List ℕ). l ++ u32_bytes c.args.count) c.put_u64.ensures.items ∙ append_assoc c.make_room.new.buffer.items (u64_bytes c.args.txn) (u32_bytes c.args.count)))

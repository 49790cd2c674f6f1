use Rattle.std.proofs.Common.{◌∙◌, ◌++◌, ℕ, List, ap, sym, take, append_assoc}
use Rattle.std.specs.List.{flat_map}
use Rattle.avro_binary.specs.Written.{written_event}
use Rattle.avro_binary.proofs.Writing.{taken_more}
use Rattle.avro_binary.proofs.write.add_events.Goals as goal

pub events-preserved : goal.events-preserved
events-preserved c =
    c.in_ok-add_event.ensures ∙ ap (λ (x : List ℕ). x ++ written_event c.get.result.now) c.events.invariant ∙ append_assoc c.args.out.now.items (flat_map written_event (take c.events.i c.args.batch.now)) (written_event c.get.result.now) ∙ ap (λ (x : List ℕ). c.args.out.now.items ++ x) (sym (taken_more written_event c.args.batch.now c.events.i c.get.result.now c.get.ensures))

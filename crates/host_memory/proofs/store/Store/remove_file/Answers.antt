use Rattle.std.proofs.Common.{sym, ap, ◌∙◌, rules}
use Rattle.std.proofs.lemmas.Fn.{filter_same}
use Rattle.flume_host.specs.Told.{Told}
use Rattle.host_memory.specs.declared.parts.Recorded.TheVariants.{Removed}
use Rattle.host_memory.specs.Words.{replayed}
use Rattle.host_memory.proofs.Files.{other_than}
use Rattle.host_memory.proofs.Replay.{removed, pushed}
use Rattle.host_memory.proofs.store.Store.remove_file.Goals as goal

pub invariant_of-self-2 : goal.invariant_of-self-2
invariant_of-self-2 c = record {
  agrees =
      removed (replayed c.args.self.now) c.args.self.now.files.items c.args.self.now.agrees c.args.name c.args.outcome c.retain.new.self.items c.requires.some (filter_same _ (other_than c.args.name) _ (λ x b f k. search rules) _ _ c.retain.ensures.filtered)
      ∙ sym (ap (λ (t : Told). t.reads) (pushed c.args.self.now.first.items c.args.self.now.calls.items c.push.new.self.items (Removed c.args.name) c.args.outcome c.in_ok-push.ensures.items));
}

pub returns-clause-done : goal.returns-clause-done
returns-clause-done c = pushed c.args.self.now.first.items c.args.self.now.calls.items c.push.new.self.items (Removed c.args.name) c.args.outcome c.in_ok-push.ensures.items

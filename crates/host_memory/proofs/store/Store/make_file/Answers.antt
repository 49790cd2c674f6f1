use Rattle.std.proofs.Common.{◌++◌, ◌∷◌, [], List, sym, refl, ap, ◌∙◌}
use Rattle.flume_host.specs.Told.{Told}
use Rattle.host_memory.specs.declared.parts.MemFile.{MemFile}
use Rattle.host_memory.specs.declared.parts.Recorded.TheVariants.{Made}
use Rattle.host_memory.specs.Words.{replayed}
use Rattle.host_memory.specs.Parts.{files_of}
use Rattle.host_memory.proofs.Replay.{pushed, made}
use Rattle.host_memory.proofs.store.Store.make_file.Goals as goal

pub invariant_of-self-2 : goal.invariant_of-self-2
invariant_of-self-2 c = record {
  agrees =
      ap (λ (l : List MemFile). files_of l) (c.push_reserved.ensures.items ∙ ap (λ (l : List MemFile). l ++ record { name = c.args.name; bytes = c.new.result } ∷ []) c.reserve.ensures.items)
      ∙ made (replayed c.args.self.now) c.args.self.now.files.items c.args.self.now.agrees c.args.name c.args.outcome (record { name = c.args.name; bytes = c.new.result }) c.requires.some c.requires.absent refl c.new.ensures.items
      ∙ sym (ap (λ (t : Told). t.reads) (pushed c.args.self.now.first.items c.args.self.now.calls.items c.push.new.self.items (Made c.args.name) c.args.outcome c.in_ok-push.ensures.items));
}

pub returns-clause-done : goal.returns-clause-done
returns-clause-done c = pushed c.args.self.now.first.items c.args.self.now.calls.items c.push.new.self.items (Made c.args.name) c.args.outcome c.in_ok-push.ensures.items

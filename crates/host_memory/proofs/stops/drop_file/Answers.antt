use Rattle.std.proofs.Common.{◌∙◌, List, ap, rules}
use Rattle.std.proofs.lemmas.Fn.{filter_same}
use Rattle.host_memory.specs.declared.parts.MemFile.{MemFile}
use Rattle.host_memory.specs.Parts.{files_of}
use Rattle.host_memory.proofs.Files.{other_than, files_of-filter}
use Rattle.host_memory.proofs.stops.drop_file.Goals as goal

pub returns : goal.returns
returns c =
    ap (λ (l : List MemFile). files_of l) (filter_same _ (other_than c.args.name) _ (λ x b f k. search rules) _ _ c.retain.ensures.filtered)
    ∙ (λ i n. (files_of-filter c.args.files.now.items c.args.name n) i)

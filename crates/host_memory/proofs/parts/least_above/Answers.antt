use Rattle.std.proofs.Common.{◌++◌, ◌∷◌, [], get_or, List, Option, take, sym, subst}
use Rattle.std.proofs.lemmas.List.{take_more}
use Rattle.flume_host.specs.declared.names.FileName.{FileName}
use Rattle.flume_host.specs.Folder.{IsNext}
use Rattle.host_memory.specs.declared.parts.MemFile.{MemFile}
use Rattle.host_memory.specs.Parts.{files_of}
use Rattle.host_memory.proofs.Least.{next_more, next_above}
use Rattle.host_memory.proofs.parts.least_above.Goals as goal

pub loop-i-preserved : goal.loop-i-preserved
loop-i-preserved c =
    let files = c.args.files.now in
    let file = get_or files c.loop-i.i c.index-files-i.result in
    let P : List MemFile → Type 0 = λ l. IsNext (files_of l) c.args.after c.better-best.result in
    let Q : Option FileName → Type 0 = λ o. IsNext (files_of (take c.loop-i.i files ++ file ∷ [])) c.args.after o in
    subst P (sym (take_more files c.loop-i.i c.index-files-i.result c.loop-i-test.true)) (subst Q (sym c.better-best.ensures) (next_more (take c.loop-i.i files) file c.args.after c.loop-i.best c.loop-i.invariant))

pub returns-clause-above : goal.returns-clause-above
returns-clause-above c = next_above (files_of (take c.loop-i.i c.args.files.now)) c.args.after c.loop-i.best c.loop-i.invariant

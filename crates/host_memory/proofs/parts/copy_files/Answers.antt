use Rattle.std.proofs.Common.{◌≡◌, ◌∙◌, ap, sym, List, take, get_or, rules, refl}
use Rattle.std.proofs.lemmas.List.{take_more, get_or_default}
use Rattle.host_memory.specs.declared.parts.MemFile.{MemFile}
use Rattle.host_memory.specs.Parts.{files_of}
use Rattle.host_memory.proofs.Files.{files_of-more}
use Rattle.host_memory.proofs.parts.copy_files.Goals as goal

pub loop-i-preserved : goal.loop-i-preserved
loop-i-preserved c =
    let file : MemFile = get_or c.args.files.now c.loop-i.i c.index-files-i.result in
    let copy : MemFile = record { name = file.name; bytes = c.in_ok-to_vec.field-0 } in
    let copied : c.in_ok-to_vec.field-0.items ≡ c.index-files-i-in-loop-i.result.bytes.items = search rules in
    let read : c.index-files-i-in-loop-i.result.bytes.items ≡ file.bytes.items = ap (λ (f : MemFile). f.bytes.items) (c.index-files-i-in-loop-i.is ∙ get_or_default c.args.files.now c.loop-i.i c.index-files-i-in-loop-i.result c.index-files-i.result c.loop-i-test.true) in
    ap (λ (l : List MemFile). files_of l) c.in_ok-push.ensures.items
    ∙ files_of-more c.loop-i.copies.items (take c.loop-i.i c.args.files.now) copy file c.loop-i.invariant refl (copied ∙ read)
    ∙ ap (λ (l : List MemFile). files_of l) (sym (take_more c.args.files.now c.loop-i.i c.index-files-i.result c.loop-i-test.true))

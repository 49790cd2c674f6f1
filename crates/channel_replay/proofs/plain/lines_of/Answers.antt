use Rattle.std.proofs.Common.{◌≡◌, ◌++◌, ◌∷◌, [], ◌+◌, List, take, sym, ap, ◌∙◌}
use Rattle.std.proofs.lemmas.List.{take_more}
use Rattle.channel_replay.proofs.Lines.{files_more}
use Rattle.channel_replay.specs.declared.plain.WholeFile.{WholeFile}
use Rattle.channel_replay.proofs.plain.lines_of.Goals as goal

pub loop-file-preserved : goal.loop-file-preserved
loop-file-preserved c =
    let files : List WholeFile = c.args.files.now in
    let i = c.loop-file.file-index in
    let file : WholeFile = c.file-item.result in
    let one : take (i + 1) files ≡ take i files ++ file ∷ [] = take_more files i file c.loop-file-test.true ∙ ap (λ (f : WholeFile). take i files ++ f ∷ []) (sym c.file-item.is) in
    rw one (files_more (take i files) file c.loop-file.lines.items c.add_file.new.lines.items c.loop-file.invariant (rw c.deref.ensures.value at c.in_ok-add_file.ensures))

use Rattle.std.proofs.Common.{◌≡◌, ◌∙◌, ap, sym, true, take, get_or, bytes_eq, string_bytes, add-one, arith}
use Rattle.std.proofs.lemmas.List.{take_all}
use Rattle.flume_host.specs.Rolled.{IsNewName}
use Rattle.host_memory.specs.Rolls.{files_by}
use Rattle.host_memory.specs.declared.mem_roll.RolledFile.{RolledFile}
use Rattle.host_memory.proofs.Rolling.{new_more, not_new}
use Rattle.host_memory.proofs.Paths.{path_is, path_self}
use Rattle.host_memory.proofs.mem_roll.is_new_name.Goals as goal

pub returns-then-eq : goal.returns-then-eq
returns-then-eq c =
    let same : string_bytes (get_or c.args.files.now c.loop-file.file-index c.file-item.result).name ≡ c.args.name.now =
    ap (λ (f : RolledFile). string_bytes f.name) (sym c.file-item.is) ∙ sym c.as_str.ensures.value ∙ path_is _ _ (sym c.eq.ensures ∙ c.if-eq.true) in
    (λ is. cc, λ new. absurd (not_new c.args.files.now c.loop-file.file-index c.file-item.result c.args.name.now (omega arith) same new))

pub loop-file-preserved : goal.loop-file-preserved
loop-file-preserved c =
    rw add-one (new_more c.args.files.now c.loop-file.file-index c.file-item.result c.args.name.now (omega arith) c.loop-file.invariant
    (λ same. let here : bytes_eq c.as_str.result.now c.args.name.now ≡ true = rw (c.as_str.ensures.value, ap (λ (f : RolledFile). string_bytes f.name) c.file-item.is ∙ same) (path_self c.args.name.now) in cc))

pub returns : goal.returns
returns c =
    let all : take c.loop-file.file-index c.args.files.now ≡ c.args.files.now = take_all _ _ (omega arith) in
    let new : IsNewName (files_by c.args.files.now) c.args.name.now = rw all at c.loop-file.invariant in
    (λ _. new, λ _. cc)

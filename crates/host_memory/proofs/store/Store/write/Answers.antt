use Rattle.std.proofs.Common.{◌≡◌, List, Some, sym, ap, ◌∙◌, arith}
use Rattle.host_memory.specs.declared.parts.MemFile.{MemFile}
use Rattle.host_memory.specs.Parts.{place}
use Rattle.host_memory.proofs.Files.{placed}
use Rattle.host_memory.proofs.store.Store.write.Goals as goal

pub index-requires : goal.index-requires
index-requires c =
    let is : place c.args.self.now.files.items c.args.name ≡ Some c.in-Some.index = ap (λ (l : List MemFile). place l c.args.name) (sym c.deref.ensures.value) ∙ sym c.place_of.ensures ∙ c.in-Some.is in
    omega (arith, (placed c.args.self.now.files.items c.args.name c.in-Some.index is).below, c.args.self.now.files.ok.0)

pub write_file-requires-clause-within : goal.write_file-requires-clause-within
write_file-requires-clause-within c =
    let is : place c.args.self.now.files.items c.args.name ≡ Some c.in-Some.index = ap (λ (l : List MemFile). place l c.args.name) (sym c.deref.ensures.value) ∙ sym c.place_of.ensures ∙ c.in-Some.is in
    let found = (placed c.args.self.now.files.items c.args.name c.in-Some.index is).found c.index.result.now ∙ ap (λ (f : MemFile). Some f.bytes.items) (sym c.index.ensures) in
    (c.index.result.now.bytes.items, found, omega (arith, c.if-at-len.false, c.len.ensures, c.index.result.now.bytes.ok.0))

use Rattle.std.proofs.Common.{◌≡◌, ◌∙◌, List, ℕ, Some, None, ap, sym, arith}
use Rattle.flume_host.specs.Folder.{Files}
use Rattle.host_memory.specs.declared.parts.MemFile.{MemFile}
use Rattle.host_memory.specs.Parts.{place}
use Rattle.host_memory.proofs.Files.{placed, not_placed}
use Rattle.host_memory.proofs.mem_disk.MemDisk.file.Goals as goal

pub index-requires : goal.index-requires
index-requires c =
    let is : place c.args.self.now.store.files.items c.args.name ≡ Some c.in-Some.index = ap (λ (l : List MemFile). place l c.args.name) (sym c.deref.ensures.value) ∙ sym c.place_of.ensures ∙ c.in-Some.is in
    omega (arith, (placed c.args.self.now.store.files.items c.args.name c.in-Some.index is).below, c.args.self.now.store.files.ok.0)

pub returns-in-Some : goal.returns-in-Some
returns-in-Some c =
    let is : place c.args.self.now.store.files.items c.args.name ≡ Some c.in-Some.index = ap (λ (l : List MemFile). place l c.args.name) (sym c.deref.ensures.value) ∙ sym c.place_of.ensures ∙ c.in-Some.is in
    ap (λ (f : Files). f c.args.name) (sym c.args.self.now.store.agrees)
    ∙ (placed c.args.self.now.store.files.items c.args.name c.in-Some.index is).found c.index.result.now
    ∙ ap (λ (f : MemFile). Some f.bytes.items) (sym c.index.ensures)
    ∙ ap (λ (b : List ℕ). Some b) (sym c.deref-in-Some.ensures.value)

pub returns-in-None : goal.returns-in-None
returns-in-None c =
    let is : place c.args.self.now.store.files.items c.args.name ≡ None = ap (λ (l : List MemFile). place l c.args.name) (sym c.deref.ensures.value) ∙ sym c.place_of.ensures ∙ c.in-None.is in
    ap (λ (f : Files). f c.args.name) (sym c.args.self.now.store.agrees) ∙ not_placed c.args.self.now.store.files.items c.args.name is

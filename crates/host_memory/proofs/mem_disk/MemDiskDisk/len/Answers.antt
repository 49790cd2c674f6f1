use Rattle.std.proofs.Common.{◌≡◌, ◌∙◌, List, Some, None, get_or, sym, ap, arith}
use Rattle.host_memory.specs.declared.parts.MemFile.{MemFile}
use Rattle.host_memory.specs.Parts.{place}
use Rattle.flume_host.specs.Folder.{Files}
use Rattle.host_memory.specs.Faults.{next_outcome}
use Rattle.host_memory.specs.Words.{reads_in}
use Rattle.host_memory.proofs.Files.{placed, not_placed}
use Rattle.host_memory.proofs.Listed.{misses_file, reads_file}
use Rattle.host_memory.proofs.Replay.{has_read}
use Rattle.host_memory.proofs.mem_disk.MemDiskDisk.len.Goals as goal

pub index-requires : goal.index-requires
index-requires c =
    let is : place c.args.self.now.store.files.items c.args.name ≡ Some c.in-Some.index = ap (λ (l : List MemFile). place l c.args.name) (sym c.deref.ensures.value) ∙ sym c.place_of.ensures ∙ c.in-Some.is in
    omega (arith, (placed c.args.self.now.store.files.items c.args.name c.in-Some.index is).below, c.args.self.now.store.files.ok.0)

pub returns-in-Some-clause-length : goal.returns-in-Some-clause-length
returns-in-Some-clause-length c t same =
    let is : place c.args.self.now.store.files.items c.args.name ≡ Some c.in-Some.index = ap (λ (l : List MemFile). place l c.args.name) (sym c.deref.ensures.value) ∙ sym c.place_of.ensures ∙ c.in-Some.is in
    let had = has_read c.args.self.now.tells c.args.self.now.store.first.items c.args.self.now.store.calls.items t c.args.self.now.store.files.items c.args.name c.in-Some.index c.index.result.now same c.args.self.now.store.agrees is c.index.ensures in
    (c.index.result.now.bytes.items, had, c.len.ensures ∙ c.index.result.now.bytes.ok.0)

pub returns-in-Some-clause-listed : goal.returns-in-Some-clause-listed
returns-in-Some-clause-listed c =
    let store = c.args.self.now.store in
    let is : place store.files.items c.args.name ≡ Some c.in-Some.index = ap (λ (l : List MemFile). place l c.args.name) (sym c.deref.ensures.value) ∙ sym c.place_of.ensures ∙ c.in-Some.is in
    let there = ap (λ (files : Files). files c.args.name) (sym store.agrees) ∙ (placed store.files.items c.args.name c.in-Some.index is).found c.index.result.now in
    reads_file (next_outcome c.args.self.now) c.next_fails.result (reads_in c.args.self.now c.args.name) (get_or store.files.items c.in-Some.index c.index.result.now).bytes.items c.len.result c.next_fails.ensures.due c.if-next_fails.false there

pub returns-in-None-clause-listed : goal.returns-in-None-clause-listed
returns-in-None-clause-listed c =
    let store = c.args.self.now.store in
    let isnt : place store.files.items c.args.name ≡ None = ap (λ (l : List MemFile). place l c.args.name) (sym c.deref.ensures.value) ∙ sym c.place_of.ensures ∙ c.in-None.is in
    let gone = ap (λ (files : Files). files c.args.name) (sym store.agrees) ∙ not_placed store.files.items c.args.name isnt in
    misses_file (next_outcome c.args.self.now) (reads_in c.args.self.now c.args.name) c.counted-in-None.result c.counted-in-None.ensures.same gone

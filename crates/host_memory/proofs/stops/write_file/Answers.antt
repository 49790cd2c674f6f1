use Rattle.std.proofs.Common.{◌≡◌, ◌∙◌, List, ℕ, length, min, Option, Some, None, sym, ap, arith}
use Rattle.flume_host.specs.Folder.{over, with_at}
use Rattle.flume_host.specs.Told.{Write, file_after}
use Rattle.flume_host.proofs.Keeps.{with_at_same}
use Rattle.host_memory.specs.declared.parts.MemFile.{MemFile}
use Rattle.host_memory.specs.Parts.{files_of, place}
use Rattle.host_memory.proofs.Files.{placed, not_placed, files_of-set}
use Rattle.host_memory.proofs.Tearing.{over_min}
use Rattle.host_memory.proofs.stops.write_file.Goals as goal

pub index-requires : goal.index-requires
index-requires c =
    let is : place c.args.files.now.items c.args.name ≡ Some c.in-Some.index = ap (λ (l : List MemFile). place l c.args.name) (sym c.deref.ensures.value) ∙ sym c.place_of.ensures ∙ c.in-Some.is in
    omega (arith, (placed c.args.files.now.items c.args.name c.in-Some.index is).below, c.args.files.now.ok.0)

pub index_mut-requires : goal.index_mut-requires
index_mut-requires c =
    let is : place c.args.files.now.items c.args.name ≡ Some c.in-Some.index = ap (λ (l : List MemFile). place l c.args.name) (sym c.deref.ensures.value) ∙ sym c.place_of.ensures ∙ c.in-Some.is in
    omega (arith, (placed c.args.files.now.items c.args.name c.in-Some.index is).below, c.args.files.now.ok.0)

pub returns-in_ok-files : goal.returns-in_ok-files
returns-in_ok-files c =
    let is : place c.args.files.now.items c.args.name ≡ Some c.in-Some.index = ap (λ (l : List MemFile). place l c.args.name) (sym c.deref.ensures.value) ∙ sym c.place_of.ensures ∙ c.in-Some.is in
    let p = placed c.args.files.now.items c.args.name c.in-Some.index is in
    let was = c.index.result.now.bytes.items in
    let had : files_of c.args.files.now.items c.args.name ≡ Some was = p.found c.index.result.now ∙ ap (λ (f : MemFile). Some f.bytes.items) (sym c.index.ensures) in
    let named = ap (λ (f : MemFile). f.name) c.index_mut.ensures.value ∙ p.named c.index_mut.result.now in
    let next : c.in_ok-files.field-0.items ≡ over was c.args.at c.args.bytes.now =
    c.in_ok-files.ensures
    ∙ ap (λ (b : List ℕ). over b c.min-at.result c.args.bytes.now) c.deref-in-Some.ensures.value
    ∙ ap (λ (k : ℕ). over was k c.args.bytes.now) (let capped : c.min-at.result ≡ min c.args.at (length was) = omega (arith, c.min-at.ensures, c.len.ensures, c.index.result.now.bytes.ok.0) in capped)
    ∙ over_min was c.args.at c.args.bytes.now in
    (λ i n. (files_of-set c.args.files.now.items c.args.name c.in-Some.index (record { name = c.index_mut.result.now.name; bytes = c.in_ok-files.field-0 }) is named n) i)
    ∙ ap (λ (b : List ℕ). with_at (files_of c.args.files.now.items) c.args.name (Some b)) next
    ∙ ap (λ (o : Option (List ℕ)). with_at (files_of c.args.files.now.items) c.args.name (file_after (Write c.args.at c.args.bytes.now) o)) (sym had)

pub returns-in_default : goal.returns-in_default
returns-in_default c =
    let is : place c.args.files.now.items c.args.name ≡ None = ap (λ (l : List MemFile). place l c.args.name) (sym c.deref.ensures.value) ∙ sym c.place_of.ensures ∙ c.in_default.is in
    let none : files_of c.args.files.now.items c.args.name ≡ None = not_placed c.args.files.now.items c.args.name is in
    sym (with_at_same (files_of c.args.files.now.items) c.args.name)
    ∙ ap (λ (o : Option (List ℕ)). with_at (files_of c.args.files.now.items) c.args.name o) (none ∙ ap (λ (o : Option (List ℕ)). file_after (Write c.args.at c.args.bytes.now) o) (sym none))

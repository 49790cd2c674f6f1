use Rattle.std.proofs.Common.{◌≡◌, ◌∙◌, List, ℕ, Some, None, sym, ap, rules, arith}
use Rattle.flume_host.specs.Folder.{with_at}
use Rattle.host_memory.specs.declared.parts.MemFile.{MemFile}
use Rattle.host_memory.specs.Parts.{files_of, place}
use Rattle.host_memory.proofs.Files.{placed, files_of-set, files_of-push}
use Rattle.host_memory.proofs.stops.put_file.Goals as goal

pub index_mut-requires : goal.index_mut-requires
index_mut-requires c =
    let is : place c.args.files.now.items c.args.name ≡ Some c.in-Some.index = ap (λ (l : List MemFile). place l c.args.name) (sym c.deref.ensures.value) ∙ sym c.place_of.ensures ∙ c.in-Some.is in
    omega (arith, (placed c.args.files.now.items c.args.name c.in-Some.index is).below, c.args.files.now.ok.0)

pub returns-in-Some : goal.returns-in-Some
returns-in-Some c =
    let is : place c.args.files.now.items c.args.name ≡ Some c.in-Some.index = ap (λ (l : List MemFile). place l c.args.name) (sym c.deref.ensures.value) ∙ sym c.place_of.ensures ∙ c.in-Some.is in
    let named = ap (λ (f : MemFile). f.name) c.index_mut.ensures.value ∙ (placed c.args.files.now.items c.args.name c.in-Some.index is).named c.index_mut.result.now in
    let copied : c.in_ok-bytes.bytes.items ≡ c.args.bytes.now = search rules in
    (λ i n. (files_of-set c.args.files.now.items c.args.name c.in-Some.index (record { name = c.index_mut.result.now.name; bytes = c.in_ok-bytes.bytes }) is named n) i)
    ∙ ap (λ (b : List ℕ). with_at (files_of c.args.files.now.items) c.args.name (Some b)) copied

pub returns-in_ok-push-in-None : goal.returns-in_ok-push-in-None
returns-in_ok-push-in-None c =
    let is : place c.args.files.now.items c.args.name ≡ None = ap (λ (l : List MemFile). place l c.args.name) (sym c.deref.ensures.value) ∙ sym c.place_of.ensures ∙ c.in-None.is in
    let copied : c.in_ok-bytes.bytes.items ≡ c.args.bytes.now = search rules in
    ap (λ (l : List MemFile). files_of l) c.in_ok-push-in-None.ensures.items
    ∙ (λ i n. (files_of-push c.args.files.now.items (record { name = c.args.name; bytes = c.in_ok-bytes.bytes }) is n) i)
    ∙ ap (λ (b : List ℕ). with_at (files_of c.args.files.now.items) c.args.name (Some b)) copied

use Rattle.std.proofs.Common.{◌≡◌, ◌∙◌, List, ℕ, Option, Some, None, OnOk, sym, ap, subst, arith}
use Rattle.flume_host.specs.Folder.{Files, with_at}
use Rattle.flume_host.specs.Told.{Sync}
use Rattle.flume_host.proofs.Keeps.{with_at_same}
use Rattle.host_memory.specs.declared.parts.MemFile.{MemFile}
use Rattle.host_memory.specs.declared.parts.Recorded.{Recorded}
use Rattle.host_memory.specs.Parts.{files_of, call_of, place}
use Rattle.host_memory.specs.Stops.{kept, image_kept}
use Rattle.host_memory.proofs.Files.{placed, not_placed}
use Rattle.host_memory.proofs.stops.keep.Goals as goal

pub index-requires : goal.index-requires
index-requires c =
    let is : place c.args.files.now.items c.in-Synced.name ≡ Some c.in-Some.index = ap (λ (l : List MemFile). place l c.in-Synced.name) (sym c.deref-in-Synced.ensures.value) ∙ sym c.place_of.ensures ∙ c.in-Some.is in
    omega (arith, (placed c.args.files.now.items c.in-Synced.name c.in-Some.index is).below, c.args.files.now.ok.0)

pub returns-in-Some : goal.returns-in-Some
returns-in-Some c =
    let name = c.in-Synced.name in
    let reads : Files = files_of c.args.files.now.items in
    let image : Files = files_of c.args.image.now.items in
    let is : place c.args.files.now.items name ≡ Some c.in-Some.index = ap (λ (l : List MemFile). place l name) (sym c.deref-in-Synced.ensures.value) ∙ sym c.place_of.ensures ∙ c.in-Some.is in
    let had : reads name ≡ Some c.deref-in-Some.result.now =
    (placed c.args.files.now.items name c.in-Some.index is).found c.index.result.now ∙ ap (λ (f : MemFile). Some f.bytes.items) (sym c.index.ensures) ∙ ap (λ (b : List ℕ). Some b) (sym c.deref-in-Some.ensures.value) in
    let P : Files → Type 0 = λ f. OnOk c.put_file-in-Some.result (files_of c.put_file-in-Some.new.files.items ≡ f) in
    subst P
    (ap (λ (o : Option (List ℕ)). with_at image name (kept c.args.stood Sync o (image name))) (sym had) ∙ ap (λ (r : Recorded). image_kept c.args.stood (call_of r) reads image) (sym c.in-Synced.is))
    c.put_file-in-Some.ensures

pub returns-in-None : goal.returns-in-None
returns-in-None c =
    let name = c.in-Synced.name in
    let reads : Files = files_of c.args.files.now.items in
    let image : Files = files_of c.args.image.now.items in
    let is : place c.args.files.now.items name ≡ None = ap (λ (l : List MemFile). place l name) (sym c.deref-in-Synced.ensures.value) ∙ sym c.place_of.ensures ∙ c.in-None.is in
    sym (with_at_same image name)
    ∙ ap (λ (o : Option (List ℕ)). with_at image name (kept c.args.stood Sync o (image name))) (sym (not_placed c.args.files.now.items name is))
    ∙ ap (λ (r : Recorded). image_kept c.args.stood (call_of r) reads image) (sym c.in-Synced.is)

pub returns-in_ok-image-in-Settled : goal.returns-in_ok-image-in-Settled
returns-in_ok-image-in-Settled c =
    c.in_ok-image-in-Settled.ensures
    ∙ ap (λ (l : List MemFile). files_of l) c.deref-in-Settled.ensures.value
    ∙ ap (λ (r : Recorded). image_kept c.args.stood (call_of r) (files_of c.args.files.now.items) (files_of c.args.image.now.items)) (sym c.in-Settled.is)

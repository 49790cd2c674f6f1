use Rattle.std.proofs.Common.{◌≡◌, ◌∙◌, [], ◌∷◌, List, ℕ, refl, get_or, IsSome, is_some, Option, Some, None, OnOk, sym, ap, subst}
use Rattle.flume_host.specs.declared.names.FileName.{FileName}
use Rattle.flume_host.specs.Folder.{Files, with_at}
use Rattle.flume_host.specs.Told.{Make}
use Rattle.flume_host.proofs.Keeps.{with_at_same}
use Rattle.host_memory.specs.declared.parts.MemFile.{MemFile}
use Rattle.host_memory.specs.Parts.{files_of, part_after, place}
use Rattle.host_memory.proofs.Files.{placed, not_placed}
use Rattle.host_memory.proofs.stops.make_if_absent.Goals as goal

abbrev after_make : Option (List ℕ) → Option (List ℕ)
after_make file = part_after 0 Make file

pub returns-in-Some : goal.returns-in-Some
returns-in-Some c =
    let is : place c.args.files.now.items c.args.name ≡ Some c.in-Some.field-0 = ap (λ (l : List MemFile). place l c.args.name) (sym c.deref.ensures.value) ∙ sym c.place_of.ensures ∙ c.in-Some.is in
    there (files_of c.args.files.now.items) c.args.name (files_of c.args.files.now.items c.args.name) refl (found c.args.files.now.items c.args.name c.in-Some.field-0 is)
  where
    found : (files : List MemFile) (name : FileName) (i : ℕ) → place files name ≡ Some i → IsSome (files_of files name)
    found [] name i is = cc
    found (f ∷ fs) name i is = let at : MemFile = get_or (f ∷ fs) i f in ap (λ (o : Option (List ℕ)). is_some o) ((placed (f ∷ fs) name i is).found f)

    there : (files : Files) (name : FileName) (o : Option (List ℕ)) → o ≡ files name → IsSome o → files ≡ with_at files name (after_make (files name))
    there files name None same has = cc
    there files name (Some was) same has = sym (with_at_same files name) ∙ ap (λ (o : Option (List ℕ)). with_at files name o) (sym same ∙ ap (λ (o : Option (List ℕ)). after_make o) same)

pub returns-in-None : goal.returns-in-None
returns-in-None c =
    let is : place c.args.files.now.items c.args.name ≡ None = ap (λ (l : List MemFile). place l c.args.name) (sym c.deref.ensures.value) ∙ sym c.place_of.ensures ∙ c.in-None.is in
    let none : files_of c.args.files.now.items c.args.name ≡ None = not_placed c.args.files.now.items c.args.name is in
    let P : Option (List ℕ) → Type 0 = λ o. OnOk c.put_file.result (files_of c.put_file.new.files.items ≡ with_at (files_of c.args.files.now.items) c.args.name (after_make o)) in
    subst P (sym none) c.put_file.ensures

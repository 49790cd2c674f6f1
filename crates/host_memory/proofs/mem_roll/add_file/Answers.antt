use Rattle.std.proofs.Common.{◌∙◌, ◌++◌, ◌∷◌, [], ap, List, ℕ}
use Rattle.host_memory.specs.declared.mem_roll.RolledFile.{RolledFile}
use Rattle.host_memory.specs.Rolls.{files_by}
use Rattle.host_memory.proofs.Rolling.{files_by-append}
use Rattle.host_memory.proofs.mem_roll.add_file.Goals as goal

pub returns-clause-added : goal.returns-clause-added
returns-clause-added c =
    let file : RolledFile = record { name = c.in_ok-name.name; bytes = c.new.result } in
    ap files_by c.in_ok-push.ensures.items ∙ files_by-append c.args.files.now.items (file ∷ [])
    ∙ ap (λ (n : List ℕ). files_by c.args.files.now.items ++ record { name = n; bytes = c.new.result.items } ∷ []) c.in_ok-name.ensures.ok
    ∙ ap (λ (b : List ℕ). files_by c.args.files.now.items ++ record { name = c.args.name.now; bytes = b } ∷ []) c.new.ensures.items

use Rattle.std.proofs.Common.{◌≡◌, ◌∙◌, List, ℕ, Option, Some, None, Vec, Global, ap, sym, arith}
use Rattle.std.specs.Option.{option_map}
use Rattle.host_memory.specs.declared.named.Named.{Named}
use Rattle.host_memory.specs.Folders.{place_in}
use Rattle.host_memory.proofs.Paths.{placed, not_placed}
use Rattle.host_memory.proofs.mem_host.MemHost.bytes_of.Goals as goal

abbrev bytes_in : Option (Vec ℕ Global) → Option (List ℕ)
bytes_in object = option_map (λ (bytes : Vec ℕ Global). bytes.items) object

place : (c : goal.In_ok-index) → place_in c.args.self.now.files.items c.args.path.now ≡ Some c.in_ok-index.index
place c = ap (λ (l : List (Named (Vec ℕ Global))). place_in l c.args.path.now) (sym c.deref.ensures.value) ∙ sym c.place_of.ensures ∙ c.in_ok-index.was

pub index-requires : goal.index-requires
index-requires c = omega (arith, (placed bytes_in None c.args.self.now.files.items c.args.path.now c.in_ok-index.index (place c)).below, c.args.self.now.files.ok.0)

pub returns-in_err-index : goal.returns-in_err-index
returns-in_err-index c =
    let none = ap (λ (l : List (Named (Vec ℕ Global))). place_in l c.args.path.now) (sym c.deref.ensures.value) ∙ sym c.place_of.ensures ∙ c.in_err-index.was in
    rw c.from_residual.ensures (not_placed bytes_in None c.args.self.now.files.items c.args.path.now none)

pub returns-in-Some : goal.returns-in-Some
returns-in-Some c =
    let is = ap (λ (l : List (Named (Vec ℕ Global))). place_in l c.args.path.now) (sym c.deref.ensures.value) ∙ sym c.place_of.ensures ∙ c.in_ok-index.was in
    (placed bytes_in None c.args.self.now.files.items c.args.path.now c.in_ok-index.index is).found c.index.result.now
    ∙ ap (λ (n : Named (Vec ℕ Global)). bytes_in n.object) (sym c.index.ensures) ∙ ap bytes_in c.in-Some.is ∙ ap (λ (l : List ℕ). Some l) (sym c.deref-in-Some.ensures.value)

pub returns-in-None : goal.returns-in-None
returns-in-None c =
    let is = ap (λ (l : List (Named (Vec ℕ Global))). place_in l c.args.path.now) (sym c.deref.ensures.value) ∙ sym c.place_of.ensures ∙ c.in_ok-index.was in
    (placed bytes_in None c.args.self.now.files.items c.args.path.now c.in_ok-index.index is).found c.index.result.now
    ∙ ap (λ (n : Named (Vec ℕ Global)). bytes_in n.object) (sym c.index.ensures) ∙ ap bytes_in c.in-None.is

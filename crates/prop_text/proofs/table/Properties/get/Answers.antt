use Rattle.std.proofs.Common.{ℕ, List, Option, Some, option_map, string_bytes, ap, sym, ◌∙◌}
use Rattle.prop_text.specs.declared.table.Entry.{Entry}
use Rattle.prop_text.specs.Pairs.{Pair}
use Rattle.prop_text.specs.Winners.{lookup}
use Rattle.prop_text.proofs.TableSteps.{find_pairs}
use Rattle.prop_text.proofs.table.Properties.get.Goals as goal

pub returns-in_err-entry : goal.returns-in_err-entry
returns-in_err-entry c =
    let key = c.args.key.now in
    let pair : Entry → Pair = λ v. record { key = key; value = string_bytes v.value; line = v.line } in
    rw c.from_residual.ensures
    (ap (lookup key) (sym c.self.view_is) ∙ find_pairs key c.self.inside.table.entries ∙ ap (option_map pair) (sym c.in_err-entry.ensures.value))

pub returns : goal.returns
returns c =
    let key = c.args.key.now in
    let pair : Entry → Pair = λ v. record { key = key; value = string_bytes v.value; line = v.line } in
    let read : List ℕ → Option Pair = λ x. Some (record { key = key; value = x; line = c.in_ok-entry.entry.now.line }) in
    ap (lookup key) (sym c.self.view_is) ∙ find_pairs key c.self.inside.table.entries ∙ ap (option_map pair) (sym c.in_ok-entry.ensures.value)
    ∙ ap read (sym c.as_str.ensures.value)

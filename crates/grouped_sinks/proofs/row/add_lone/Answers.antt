use Rattle.std.proofs.Common.{rules, ◌≡◌, Bool, true, ℕ, sym, subst}
use Rattle.grouped_sinks.specs.Rows.{AddsIf, IsLone, is_lone}
use Rattle.grouped_sinks.proofs.row.add_lone.Goals as goal

pub returns-in_ok-push : goal.returns-in_ok-push
returns-in_ok-push c =
    let lone : is_lone c.args.groups.now c.args.place ≡ true = search rules in
    let is = subst (λ (n : ℕ). IsLone c.args.sinks.now n c.in_ok-lone_row.field-0) c.in_ok-place.ensures c.in_ok-lone_row.ensures in
    subst (λ (b : Bool). AddsIf (IsLone c.args.sinks.now c.args.place) b c.args.rows.now.items c.push.new.self.items) (sym lone)
    (c.in_ok-lone_row.field-0, is, c.in_ok-push.ensures.items)

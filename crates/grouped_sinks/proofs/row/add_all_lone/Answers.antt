use Rattle.std.proofs.Common.{◌≡◌, ◌+◌, ℕ, suc, subst, arith}
use Rattle.grouped_sinks.specs.Rows.{IsLone, Zips, is_lone, places_where}
use Rattle.grouped_sinks.proofs.Placing.{place_more}
use Rattle.grouped_sinks.proofs.row.add_all_lone.Goals as goal

pub loop-place-preserved : goal.loop-place-preserved
loop-place-preserved c =
    let next : suc c.loop-place.place ≡ c.loop-place.place + 1 = omega arith in
    subst (λ (n : ℕ). Zips (IsLone c.args.sinks.now) (places_where (is_lone c.args.groups.now) n) c.add_lone.new.rows.items) next
    (place_more (IsLone c.args.sinks.now) (is_lone c.args.groups.now) c.loop-place.place c.loop-place.rows.items c.add_lone.new.rows.items c.loop-place.invariant c.in_ok-add_lone.ensures)

use Rattle.std.proofs.Common.{rules, ◌≡◌, ◌∙◌, ◌+◌, ℕ, suc, [], ◌∷◌, length, ap, subst, arith}
use Rattle.std.proofs.lemmas.List.{length-append}
use Rattle.shared_channel.specs.Passes.{Known}
use Rattle.two_channels.specs.Shares.{table_of}
use Rattle.agent_channels.specs.Several.{TookOthers}
use Rattle.agent_channels.proofs.Joining.{last_new, took_more, took_none}
use Rattle.agent_channels.proofs.unused.+join_others.Goals as goal

pub returns-in_default : goal.returns-in_default
returns-in_default g t c = took_none (table_of c.args.share.now) c.args.home c.args.others.items (search rules) c.requires

pub join_others-joined-requires : goal.join_others-joined-requires
join_others-joined-requires g t c κs within =
    let home = c.args.home in
    let new = last_new (table_of c.args.share.now) home.view.base home.view.passes home c.args.others.items c.pop.new.self.items c.in-Some.pass c.in-Some.ensures.items c.requires in
    let e : length c.args.others.items ≡ length c.pop.new.self.items + 1 = ap length c.in-Some.ensures.items ∙ length-append c.pop.new.self.items (c.in-Some.pass ∷ []) in
    let d = c.decreases in
    (omega arith, (within.0, (within.1, new.0)))

pub join_pass-requires : goal.join_pass-requires
join_pass-requires g t c =
    let home = c.args.home in
    let new = last_new (table_of c.args.share.now) home.view.base home.view.passes home c.args.others.items c.pop.new.self.items c.in-Some.pass c.in-Some.ensures.items c.requires in
    (c.join_others-joined.ensures.table_id, ap (λ (p : Known). p.table_id) new.1)

pub returns : goal.returns
returns g t c =
    let home = c.args.home in
    let table = table_of c.args.share.now in
    let new = last_new table home.view.base home.view.passes home c.args.others.items c.pop.new.self.items c.in-Some.pass c.in-Some.ensures.items c.requires in
    let e : suc (length c.pop.new.self.items + 1) ≡ length c.args.others.items + 1 = let a = ap length c.in-Some.ensures.items in let b = length-append c.pop.new.self.items (c.in-Some.pass ∷ []) in omega (arith, a, b) in
    subst (λ (n : ℕ). TookOthers table home n c.join_pass.new.into) e
    (took_more table home (length c.pop.new.self.items + 1) c.join_others-joined.result c.in-Some.pass c.join_pass.new.into c.join_others-joined.ensures new.1 c.join_pass.ensures.same.0 c.join_pass.ensures.view)

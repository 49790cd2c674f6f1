use Rattle.std.proofs.Common.{◌≡◌, Bool, true, false, Err, arith, length, refl, sym, subst, []}
use Rattle.std.proofs.lemmas.Bool.Decides.{nat_tests}
use Rattle.shared_channel.specs.Calls.{state_seen}
use Rattle.load_gen.specs.Calls.{Makes}
use Rattle.load_gen.specs.Parts.{Does}
use Rattle.load_gen.specs.Runs.{IsUpkeep, is_fiftieth}
use Rattle.load_gen.specs.declared.refused.LoadRefused.TheVariants as load
use Rattle.load_gen.proofs.Making.{makes_none}
use Rattle.load_gen.proofs.Upkeep.{keeps_both, keeps_unlaid, keeps_unpruned}
use Rattle.load_gen.proofs.keeping.keep_channel.Goals as goal

pub returns-then-batches-ne0-clause-calls : goal.returns-then-batches-ne0-clause-calls
returns-then-batches-ne0-clause-calls g c =
    let v = c.args.pass.now.view in
    let other : is_fiftieth c.args.batches ≡ false = let w = c.if-batches-ne0.true in grind (arith, nat_tests, w) in
    makes_none c.args.pass.now.number v (IsUpkeep (is_fiftieth c.args.batches)) (subst (λ (b : Bool). IsUpkeep b []) (sym other) refl)

pub returns-in-Err-clause-calls : goal.returns-in-Err-clause-calls
returns-in-Err-clause-calls g c =
    let w = c.checkpoint.new.pass.view in
    let is : is_fiftieth c.args.batches ≡ true = let n = c.if-batches-ne0.false in grind (arith, nat_tests, n) in
    subst (λ (b : Bool). Makes c.args.pass.now.number c.args.pass.now.view w (Does (IsUpkeep b) (length w.seen) (state_seen w) (Err (load.Check c.in-Err.refused)))) (sym is)
    (keeps_unlaid g.C.Channel.stands g.C.Channel.tells g.C.Channel.moment c.args.pass.now.view w c.args.pass.now.number c.in-Err.refused c.in-Err.ensures.call)

pub returns-in-Ok-clause-calls : goal.returns-in-Ok-clause-calls
returns-in-Ok-clause-calls g c =
    let x = c.prune.new.pass.view in
    let is : is_fiftieth c.args.batches ≡ true = let n = c.if-batches-ne0.false in grind (arith, nat_tests, n) in
    subst (λ (b : Bool). Makes c.args.pass.now.number c.args.pass.now.view x (IsUpkeep b)) (sym is)
    (keeps_both g.C.Channel.stands g.C.Channel.tells g.C.Channel.moment c.args.pass.now.view c.checkpoint.new.pass.view x c.args.pass.now.number c.checkpoint.new.pass.number c.in-Ok.field-0 c.in_default.ensures.call c.in_default.ensures.same.1 c.in-Ok.ensures.call)

pub returns-in-Err-prune-clause-calls : goal.returns-in-Err-prune-clause-calls
returns-in-Err-prune-clause-calls g c =
    let x = c.prune.new.pass.view in
    let is : is_fiftieth c.args.batches ≡ true = let n = c.if-batches-ne0.false in grind (arith, nat_tests, n) in
    subst (λ (b : Bool). Makes c.args.pass.now.number c.args.pass.now.view x (Does (IsUpkeep b) (length x.seen) (state_seen x) (Err (load.Prune c.in-Err-prune.refused)))) (sym is)
    (keeps_unpruned g.C.Channel.stands g.C.Channel.tells g.C.Channel.moment c.args.pass.now.view c.checkpoint.new.pass.view x c.args.pass.now.number c.checkpoint.new.pass.number c.in-Err-prune.refused c.in_default.ensures.call c.in_default.ensures.same.1 c.in-Err-prune.ensures.call)

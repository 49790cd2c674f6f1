use Rattle.std.proofs.Common.{◌≡◌, ℕ, List, ◌++◌, refl, ap, subst, drop, ◌∙◌}
use Rattle.std.specs.Prelude.{Ok}
use Rattle.std.proofs.lemmas.Result.{err_from_is_err_and}
use Rattle.avro_hop.specs.declared.handshake.Match.TheVariants.{Stranger}
use Rattle.avro_hop.specs.Handshake.{RequestFault, greeting}
use Rattle.avro_hop.specs.Told.{told}
use Rattle.avro_hop.specs.Parameters.{CallsAt}
use Rattle.avro_hop.proofs.Greeting.{placed, greets, request_refused, match_refused, first_opened, first_refused}
use Rattle.avro_hop.proofs.hop.first_at.Goals as goal

pub place_of-requires : goal.place_of-requires
place_of-requires c = placed RequestFault c.args.bytes.now 0 c.in-Err.e c.in-Err.ensures

pub returns-in-Err : goal.returns-in-Err
returns-in-Err c = request_refused c.args.bytes.now c.place_of.result c.in-Err.e c.in-Err.ensures c.place_of.ensures

pub returns-in_err-found : goal.returns-in_err-found
returns-in_err-found c =
    let p = err_from_is_err_and c.from_residual.result c.from_residual.ensures.1 in
    let q = c.in-Ok.ensures in
    rw (p.1, p.2) (match_refused c.args.bytes.now c.in-Ok.read.1 (told c.in-Ok.read.0) c.in_err-found.field-0.0 q.0 q.1 c.in_err-found.ensures)

pub returns-in_err-asked-in_default : goal.returns-in_err-asked-in_default
returns-in_err-asked-in_default c =
    let p = err_from_is_err_and c.from_residual-in_err-asked-in_default.result c.from_residual-in_err-asked-in_default.ensures.1 in
    let q = c.in-Ok.ensures in
    rw (p.1, p.2) (first_refused c.args.bytes.now c.add_greeting.new.out.items c.in-Ok.read.1 (told c.in-Ok.read.0) c.in_ok-found.found c.in_err-asked-in_default.field-0.0 q.0 q.1 c.in_ok-found.ensures c.in_default.not-Stranger c.in_err-asked-in_default.ensures)

pub returns-in-Stranger : goal.returns-in-Stranger
returns-in-Stranger c =
    let q = c.in-Ok.ensures in
    let m = rw c.in-Stranger.is at c.in_ok-found.ensures in
    let items : c.add_greeting.new.out.items ≡ greeting c.in_ok-found.found = c.in_ok-add_greeting.ensures ∙ ap (λ (x : List ℕ). x ++ greeting c.in_ok-found.found) c.new-front.ensures.items in
    (drop c.in-Ok.read.1 c.args.bytes.now, told c.in-Ok.read.0, Stranger, greets c.args.bytes.now c.in-Ok.read.1 (told c.in-Ok.read.0) q.0 q.1, m, (items ∙ ap greeting c.in-Stranger.is, refl))

pub returns-in_ok-asked-in_default : goal.returns-in_ok-asked-in_default
returns-in_ok-asked-in_default c =
    let q = c.in-Ok.ensures in
    let items : c.add_greeting.new.out.items ≡ greeting c.in_ok-found.found = c.in_ok-add_greeting.ensures ∙ ap (λ (x : List ℕ). x ++ greeting c.in_ok-found.found) c.new-front.ensures.items in
    first_opened c.args.bytes.now c.in-Ok.read.1 (told c.in-Ok.read.0) c.in_ok-found.found c.in_ok-asked-in_default.asked q.0 q.1 c.in_ok-found.ensures c.in_default.not-Stranger (subst (λ (x : List ℕ). CallsAt x c.args.bytes.now c.in-Ok.read.1 (Ok c.in_ok-asked-in_default.asked)) items c.in_ok-asked-in_default.ensures)

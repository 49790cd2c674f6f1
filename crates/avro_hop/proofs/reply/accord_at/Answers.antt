use Rattle.std.proofs.lemmas.Result.{err_from_is_err_and}
use Rattle.std.specs.Option.{option_map}
use Rattle.avro_hop.proofs.Replying.{agreed_refused, text_refused, hash_refused, accord_of}
use Rattle.avro_hop.proofs.reply.accord_at.Goals as goal

pub returns-in_err-_found : goal.returns-in_err-_found
returns-in_err-_found c =
    let p = err_from_is_err_and c.from_residual.result c.from_residual.ensures.1 in
    rw (p.1, p.2) (agreed_refused c.args.bytes.now c.in_err-_found.field-0.0 c.in_err-_found.ensures)

pub returns-in_err-_text : goal.returns-in_err-_text
returns-in_err-_text c =
    let p = err_from_is_err_and c.from_residual-in_err-_text.result c.from_residual-in_err-_text.ensures.1 in
    let i = c.in_ok-_found.ensures in
    rw (p.1, p.2) (text_refused c.args.bytes.now c.in_ok-_found.text_at c.in_ok-_found._found c.in_err-_text.field-0.0 i.0 i.1 c.in_err-_text.ensures)

pub returns-in_err-_hash : goal.returns-in_err-_hash
returns-in_err-_hash c =
    let p = err_from_is_err_and c.from_residual-in_err-_hash.result c.from_residual-in_err-_hash.ensures.1 in
    let i = c.in_ok-_found.ensures in
    let t = c.in_ok-_text.ensures in
    rw (p.1, p.2) (hash_refused c.args.bytes.now c.in_ok-_found.text_at c.in_ok-_text.hash_at c.in_ok-_found._found (option_map (λ s. s.now) c.in_ok-_text._text) c.in_err-_hash.field-0.0 i.0 i.1 t.0 t.1 c.in_err-_hash.ensures)

pub returns : goal.returns
returns c =
    let i = c.in_ok-_found.ensures in
    let t = c.in_ok-_text.ensures in
    let h = c.in_ok-_hash.ensures in
    accord_of c.args.bytes.now c.in_ok-_found.text_at c.in_ok-_text.hash_at c.in_ok-_hash.meta_at c.in_ok-_found._found (option_map (λ s. s.now) c.in_ok-_text._text) (option_map (λ s. s.now) c.in_ok-_hash._hash) c.meta_option_at.result i.0 i.1 t.0 t.1 h.0 h.1 c.meta_option_at.ensures

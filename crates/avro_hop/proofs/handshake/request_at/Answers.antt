use Rattle.std.proofs.Common.{ℕ, List, ◌++◌, sym, ap, ◌∙◌}
use Rattle.std.proofs.lemmas.Result.{err_from_is_err_and}
use Rattle.std.specs.Option.{option_map}
use Rattle.avro_binary.specs.Value.{IsText, TextFault, IsFixed, FixedFault}
use Rattle.avro_binary.proofs.Lists.{join_parts}
use Rattle.avro_binary.proofs.Blocks.{further}
use Rattle.avro_binary.specs.Reading.{part}
use Rattle.avro_hop.specs.Parts.{IsOption, OptionFault, PairFault}
use Rattle.avro_hop.specs.Handshake.{TailFault}
use Rattle.avro_hop.proofs.Sequences.{first_fault, second_fault}
use Rattle.avro_hop.proofs.handshake.request_at.Goals as goal

pub returns-in_err-text : goal.returns-in_err-text
returns-in_err-text c =
    let p = err_from_is_err_and c.from_residual-in_err-text.result c.from_residual-in_err-text.ensures.1 in
    let h = c.in_ok-hash.ensures in
    let g = first_fault (IsOption IsText) (OptionFault TextFault) TailFault c.args.bytes.now c.in_ok-hash.text_at c.in_err-text.field-0.0 c.in_err-text.ensures in
    rw (p.1, p.2) (second_fault IsFixed FixedFault (PairFault (IsOption IsText) (OptionFault TextFault) TailFault) c.args.bytes.now 0 c.in_ok-hash.text_at c.in_ok-hash.hash.now c.in_err-text.field-0.0 h.0 h.1 g)

pub returns-in_err-server_hash : goal.returns-in_err-server_hash
returns-in_err-server_hash c =
    let p = err_from_is_err_and c.from_residual-in_err-server_hash.result c.from_residual-in_err-server_hash.ensures.1 in
    let h = c.in_ok-hash.ensures in
    let t = c.in_ok-text.ensures in
    let g = second_fault (IsOption IsText) (OptionFault TextFault) TailFault c.args.bytes.now c.in_ok-hash.text_at c.in_ok-text.tail (option_map (λ s. s.now) c.in_ok-text.text) c.in_err-server_hash.field-0.0 t.0 t.1 c.in_err-server_hash.ensures in
    rw (p.1, p.2) (second_fault IsFixed FixedFault (PairFault (IsOption IsText) (OptionFault TextFault) TailFault) c.args.bytes.now 0 c.in_ok-hash.text_at c.in_ok-hash.hash.now c.in_err-server_hash.field-0.0 h.0 h.1 g)

pub returns : goal.returns
returns c =
    let h = c.in_ok-hash.ensures in
    let t = c.in_ok-text.ensures in
    let e = c.in_ok-server_hash.ensures in
    let q = further c.args.bytes.now c.in_ok-hash.text_at c.in_ok-text.tail c.in_ok-server_hash.end t.0 e.0 in (
      further c.args.bytes.now 0 c.in_ok-hash.text_at c.in_ok-server_hash.end h.0 q,
      record {
        hash_bytes = part c.args.bytes.now 0 c.in_ok-hash.text_at;
        text_bytes = part c.args.bytes.now c.in_ok-hash.text_at c.in_ok-text.tail;
        tail_bytes = part c.args.bytes.now c.in_ok-text.tail c.in_ok-server_hash.end;
        whole = sym (join_parts c.args.bytes.now 0 c.in_ok-hash.text_at c.in_ok-server_hash.end h.0 q) ∙ ap (λ (x : List ℕ). part c.args.bytes.now 0 c.in_ok-hash.text_at ++ x) (sym (join_parts c.args.bytes.now c.in_ok-hash.text_at c.in_ok-text.tail c.in_ok-server_hash.end t.0 e.0));
        hash = h.1;
        text = t.1;
        tail = e.1;
      },
    )

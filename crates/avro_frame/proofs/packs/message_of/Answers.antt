use Rattle.std.proofs.Common.{◌≡◌, ◌∙◌, ◌++◌, ap, take, drop, length, arith, append_assoc, length-append}
use Rattle.std.specs.List.{flat_map}
use Rattle.std.proofs.lemmas.List.{take_at, drop_at}
use Rattle.avro_frame.specs.Pack.{head, u32_bytes, buffer}
use Rattle.avro_frame.proofs.Bytes.{length-u32, u32_same}
use Rattle.avro_frame.proofs.Walk.{length-head}
use Rattle.avro_frame.proofs.packs.message_of.Goals as goal

pub split_at-requires : goal.split_at-requires
split_at-requires c =
    omega (arith, ap length c.requires.ended.whole, length-append (head c.requires.ended.serial (length c.requires.ended.buffers)) (flat_map buffer c.requires.ended.buffers), length-head c.requires.ended.serial (length c.requires.ended.buffers))

pub returns-clause-pack : goal.returns-clause-pack
returns-clause-pack c =
    let buffers = c.requires.ended.buffers in
    let front = head c.requires.ended.serial (length buffers) in
    let back : c.split_at.result.1.now ≡ flat_map buffer buffers = c.split_at.ensures.back ∙ ap (drop 8) c.requires.ended.whole ∙ drop_at front (flat_map buffer buffers) 8 (length-head c.requires.ended.serial (length buffers)) in
    let joins = c.join.ensures buffers (omega (arith, c.requires.ended.small)) back in
    let first : u32_bytes c.number_at.result ≡ u32_bytes c.requires.ended.serial = c.number_at.ensures ∙ ap (take 4) (c.requires.ended.whole ∙ append_assoc (u32_bytes c.requires.ended.serial) (u32_bytes (length buffers)) (flat_map buffer buffers)) ∙ take_at (u32_bytes c.requires.ended.serial) (u32_bytes (length buffers) ++ flat_map buffer buffers) 4 (length-u32 c.requires.ended.serial) in
    record {
      buffers = buffers;
      whole = rw (u32_same c.number_at.result c.requires.ended.serial c.number_at.type_inv c.requires.ended.serial_fits first) c.requires.ended.whole;
      joins = joins;
      serial_fits = c.number_at.type_inv;
      few = c.requires.ended.few;
      small = rw joins c.requires.ended.small;
    }

use Rattle.std.proofs.Common.{[], ◌∷◌}
use Rattle.std.specs.Prelude.{codes, pos}
use Rattle.avro_binary.specs.Written.{written_number, written_bytes}
use Rattle.avro_hop.proofs.Sequences.{four_parts}
use Rattle.avro_hop.proofs.respond.add_unknown.Goals as goal

pub returns : goal.returns
returns c =
    four_parts c.args.out.now.items (0 ∷ []) (1 ∷ []) (written_number (pos 0)) (written_bytes (codes "unknown message")) c.push.new.self.items c.write_bool.new.into.items c.write_int.new.into.items c.write_text.new.into.items c.in_ok-push.ensures.items c.in_ok-write_bool.ensures.ok c.in_ok-write_int.ensures.ok c.in_ok-write_text.ensures.ok

use Rattle.std.proofs.Common.{◌≡◌, ◌++◌}
use Rattle.std.specs.List.{flat_map}
use Rattle.avro_binary.specs.Written.{written_entry}
use Rattle.avro_binary.proofs.write.add_entries.Given as goal

abbrev pub invariant-entries : goal.invariant-entries
invariant-entries l = l.out.items ++ flat_map written_entry l.key-iterator ≡ l.fn.out.items ++ flat_map written_entry l.headers

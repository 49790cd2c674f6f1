-- What a host in memory shows of its listeners and dialers.
use Rattle.std.specs.Prelude.{ℕ, ◌==◌, ◌&&◌, List, [], map, Option, Bool, count_by, bytes_eq, string_bytes}
use Rattle.flume_host.specs.Listens.{LinksTold}
use Rattle.flume_host.specs.HandedOut.{HandedOut, CameBack}
use Rattle.host_memory.specs.declared.address.Address.{Address}
use Rattle.host_memory.specs.declared.address.Placed.{Placed}
use Rattle.host_memory.specs.declared.ends.Ends.{Ends}

-- it is this address and this port
abbrev pub is_at : List ℕ → ℕ → Address → Bool
is_at host port at = (at.port == port) && bytes_eq (string_bytes at.host) host

-- none is out, and none came back
abbrev pub none_out : HandedOut
none_out = record { out = λ host port. 0; back = [] }

module _ {T : Type 0} (told : T → Option LinksTold) (waits faults : T → ℕ) where
  -- what is told of one that came back
  abbrev pub came_back : Placed T → CameBack
  came_back placed = record {
    host = string_bytes placed.at.host;
    port = placed.at.port;
    told = told placed.object;
    waits = waits placed.object;
    faults = faults placed.object;
  }

  -- of those that are out, and of those that came back
  abbrev pub ends_of : List Address → List (Placed T) → HandedOut
  ends_of out back = record { out = λ host port. count_by (is_at host port) out; back = map came_back back }

  abbrev pub handed_out : Ends T → HandedOut
  handed_out ends = ends_of ends.out.items ends.back.items

-- What a host in memory shows.
use Rattle.std.specs.Prelude.{ℕ, List, Option, Some, IsSome, string_bytes}
use Rattle.std.specs.declared.string.String.{String}
use Rattle.std.specs.declared.alloc.Global.{Global}
use Rattle.flume_host.specs.Told.{Told}
use Rattle.flume_host.specs.Rolled.{Rolled}
use Rattle.flume_host.specs.HandedOut.{HandedOut}
use Rattle.flume_host.specs.HostState.{Folders, HostState}
use Rattle.host_memory.specs.declared.ends.Ends.{Ends}
use Rattle.host_memory.specs.declared.mem_dialer.MemDialer.{MemDialer}
use Rattle.host_memory.specs.declared.mem_host.MemHost.{MemHost}
use Rattle.host_memory.specs.declared.mem_listener.MemListener.{MemListener}
use Rattle.host_memory.specs.Ends.{handed_out}
use Rattle.host_memory.specs.Listens.{listener_told, dialer_told}
use Rattle.host_memory.specs.Times.{moments_of, draws_of}
use Rattle.host_memory.specs.Folders.{input_of, output_of, handed_of, is_in, place_in, folder_of, roll_of, file_of}

-- what is told of its listeners, and of its dialers
abbrev pub listeners_of : Ends MemListener → HandedOut
listeners_of = handed_out listener_told (λ l. l.waits) (λ l. l.faults)

abbrev pub dialers_of : Ends MemDialer → HandedOut
dialers_of = handed_out dialer_told (λ d. 0) (λ d. d.faults)

abbrev pub state_in : MemHost → HostState
state_in h = record {
  input = input_of h.input;
  output = output_of h.output;
  handed = handed_of h.output;
  files = file_of h.files.items;
  moments = Some (moments_of h.clock);
  draws = Some (draws_of h.random);
  listeners = Some (listeners_of h.listeners);
  dialers = Some (dialers_of h.dialers);
  name = Some (string_bytes h.name);
  address = Some (string_bytes h.address);
  faults = h.faults;
  disk_faults = h.disk_faults;
}

-- what the disk of a folder shows, by the folder's path
abbrev pub folder_in : MemHost → List ℕ → Option Told
folder_in h = folder_of h.folders.items

-- the host has a folder of this path
abbrev pub HasFolder : MemHost → List ℕ → Type 0
HasFolder h path = IsSome (place_in h.folders.items path)

-- what a folder of rolled files shows, by its path
abbrev pub roll_in : MemHost → List ℕ → Option Rolled
roll_in h = roll_of h.rolls.items

-- the host has a folder of rolled files of this path
abbrev pub HasRoll : MemHost → List ℕ → Type 0
HasRoll h path = IsSome (place_in h.rolls.items path)

-- what its folders show, by their paths
abbrev pub folders_in : MemHost → Folders
folders_in h = record {
  disks = folder_in h;
  rolls = roll_in h;
  disk_opened = is_in h.folders.items;
  roll_opened = is_in h.rolls.items;
}

-- the lines that were said
abbrev pub said_in : MemHost → List (String Global)
said_in h = h.said.items

-- the numbers of the openings and readings that are to fail, and of the next one
abbrev pub open_fails : MemHost → List ℕ
open_fails h = h.opens.fails.items

abbrev pub open_calls : MemHost → ℕ
open_calls h = h.opens.calls

-- What a run of `load` comes to that ends before it begins.
use Rattle.std.proofs.Common.{◌≡◌, ℕ, List, [], None, Err, inl, inr, refl, ap, arith}
use Rattle.flume_host.specs.HostState.{Folders, HostState}
use Rattle.channel_face.specs.declared.replies.OpenCause.TheVariants as causes
use Rattle.channel_wishes.specs.Openings.{HostTold}
use Rattle.agent_commands.specs.declared.load.LoadCause.TheVariants.{Unopened}
use Rattle.agent_commands.proofs.Loaded.{not_handed}
use Rattle.agent_run.specs.LoadRan.{LoadRan}
use Rattle.run_opening.specs.declared.channel_end.ChannelEnd.{ChannelEnd}

-- there was no memory, and nothing was touched
pub not_loaded : (n : ℕ) (dir : List ℕ) (status : ℕ) (channels : List ChannelEnd) (a b : HostTold) → channels ≡ [] → status ≡ 5 → b.state ≡ a.state → b.folders ≡ a.folders → LoadRan n dir status channels a b
not_loaded n dir status channels a b none five same folders = record {
  pass = None;
  channel = none;
  loaded = record {
    answer = Err (Unopened causes.NoMemory);
    folder = (refl, inl (not_handed (a.folders.disks dir) (b.folders.disks dir) causes.NoMemory (λ of. of) (ap (λ (f : Folders). f.disks dir) folders)));
    wrote = (five, ap (λ (s : HostState). s.output) same);
    fault = λ three. absurd (omega (arith, three, five));
    well = λ either. absurd (elim either [ inl zero ↦ omega (arith, zero, five) | inr four ↦ omega (arith, four, five) ]);
    memory = λ _. ap (λ (s : HostState). s.disk_faults) same;
    input = ap (λ (s : HostState). s.input) same;
    files = ap (λ (s : HostState). s.files) same;
  };
}

-- What a run of `pipe` comes to that ends before it begins.
use Rattle.std.proofs.Common.{◌≡◌, ℕ, List, [], None, inr, sym, ap, subst, arith}
use Rattle.flume_host.specs.HostState.{Folders, HostState}
use Rattle.flume_host.specs.Told.{Tells}
use Rattle.channel_wishes.specs.Openings.{HostTold}
use Rattle.agent_commands.specs.Stored.{IsUnopened}
use Rattle.agent_commands.proofs.Outcomes.{early, untouched}
use Rattle.agent_run.specs.PipeRan.{PipeRan}
use Rattle.run_opening.specs.declared.channel_end.ChannelEnd.{ChannelEnd}

-- there was no memory, and nothing was touched
pub not_piped : (dir : List ℕ) (status : ℕ) (channels : List ChannelEnd) (a b : HostTold) → channels ≡ [] → status ≡ 5 → b.state ≡ a.state → b.folders ≡ a.folders → PipeRan dir status channels a b
not_piped dir status channels a b none five same folders = record {
  pass = None;
  channel = none;
  piped =
      let unopened : Tells (a.folders.disks dir) (b.folders.disks dir) IsUnopened = subst (λ (f : Folders). Tells (a.folders.disks dir) (f.disks dir) IsUnopened) (sym folders) (untouched (a.folders.disks dir)) in
      early _ _ _ _ _ _ _ (ap (λ (s : HostState). s.input) same) (ap (λ (s : HostState). s.output) same) (inr (inr five)) unopened
      (λ three. absurd (omega (arith, three, five))) (λ four. absurd (omega (arith, four, five))) (λ _. ap (λ (s : HostState). s.disk_faults) same);
}

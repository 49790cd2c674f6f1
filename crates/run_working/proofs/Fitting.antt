-- Workers that can run, once they have got their ports.
use Rattle.std.proofs.Common.{◌≡◌, ◌≢◌, ◌<◌, ◌^◌, ℕ, List, [], ◌∷◌, get_or, length, Option, None, sym, subst, arith}
use Rattle.keep_worker.specs.Workers.{CanKeep}
use Rattle.keep_worker.specs.declared.worker.KeepWorker.{KeepWorker}
use Rattle.netcat_source.specs.Lines.{IsLineLimit}
use Rattle.netcat_source.specs.declared.session.LineRules.{LineRules}
use Rattle.selectors.specs.declared.selector.Selector.{Selector}
use Rattle.shared_channel.specs.Passes.{Known}
use Rattle.source_put.specs.Accepts.{NamesBelow}
use Rattle.source_worker.specs.Workers.{CanListen, HasLimit}
use Rattle.source_worker.specs.declared.worker.ListenWorker.{ListenWorker}
use Rattle.line_worker.specs.Workers.{CanServe}
use Rattle.line_worker.specs.declared.worker.LineWorker.{LineWorker}
use Rattle.two_channels.specs.Ports.{IsOnDisk, LaterPort, pass_of}
use Rattle.two_channels.specs.Shares.{IsDisk, table_of}
use Rattle.two_channels.specs.declared.port.EitherPort.{EitherPort}
use Rattle.two_channels.specs.declared.shared.EitherShared.{EitherShared}
use Rattle.run_tracks.proofs.Homing.{zips_length}
use Rattle.run_tracks.proofs.Telling.{either_steady}
use Rattle.run_staff.specs.Ports.{IsKeepPort}
use Rattle.run_working.specs.Opened.{IsKeepOpened, IsLineOpened, IsListenOpened}

module _ {R A B : Type 0} (shares : List (EitherShared A B)) where
  -- the port of a channel on a disk is on a disk, and stays there
  pub keep_fits : {C : Type 0} (job : KeepWorker Known C) (v : KeepWorker (EitherPort R A B) C) → IsKeepPort table_of shares (λ (p : Known). p) job
      → ((share : EitherShared A B) → IsDisk (get_or shares job.channel share)) → IsKeepOpened shares job v → CanKeep IsOnDisk LaterPort v
  keep_fits job v port on opened =
      let share = first shares job.channel port.below in
      record { here = (opened.kind share).0 (on share); stays = λ p q kept. (either_steady p q kept).0 }
    where
      first : (l : List (EitherShared A B)) (at : ℕ) → at < length l → EitherShared A B
      first [] at lt = absurd (omega (arith, lt))
      first (share ∷ l) at lt = share

  -- a listener's worker that could run can run with its ports
  pub listen_fits : {N C K : Type 0} (job : ListenWorker Known N C K) (v : ListenWorker (EitherPort R A B) N C K) → CanListen job → IsListenOpened shares job v → CanListen v
  listen_fits job v can opened =
      let many = zips_length (λ (p : Known) (port : EitherPort R A B). pass_of port ≡ p) job.ports.items v.ports.items opened.passes in
      record {
        max = subst HasLimit (sym opened.rules) can.max;
        few = subst (λ (n : ℕ). n < 2 ^ 32) many can.few;
        named = subst (λ (x : Selector × ℕ). NamesBelow x.0 x.1) (λ i. (sym opened.selector i, many i)) can.named;
      }

  -- a worker of lines that could serve can serve with its ports
  pub line_fits : {I O C K : Type 0} (job : LineWorker Known I O C K) (v : LineWorker (EitherPort R A B) I O C K) → CanServe job → IsLineOpened shares job v → CanServe v
  line_fits {I} {O} {C} {K} job v can opened =
      let many = zips_length (λ (p : Known) (port : EitherPort R A B). pass_of port ≡ p) job.ports.items v.ports.items opened.passes in
      record {
        max = subst (λ (r : LineRules). IsLineLimit r.max) (sym opened.rules) can.max;
        few = subst (λ (n : ℕ). n < 2 ^ 32) many can.few;
        named = subst (λ (x : Selector × ℕ). NamesBelow x.0 x.1) (λ i. (sym opened.selector i, many i)) can.named;
        timed = subst (λ (c : Option C). c ≢ None) (sym opened.clock) can.timed;
      }

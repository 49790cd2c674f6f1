-- What the passes at home took in, in what they have seen later.
use Rattle.std.proofs.Common.{◌∙◌, ℕ, List, [], ◌∷◌, All, Option, get_or, sym, subst, arith}
use Rattle.std.proofs.lemmas.List.Elements.{All-cons, All-head, All-nil, All-tail}
use Rattle.channel_face.specs.History.{Opening, Step}
use Rattle.flume_host.specs.Listens.{Endpoint}
use Rattle.shared_channel.specs.Passes.{Known}
use Rattle.source_put.specs.Chains.{Meaning}
use Rattle.source_worker.specs.Rounds.{Heard}
use Rattle.source_worker.specs.declared.worker.ListenWorker.{ListenWorker}
use Rattle.line_worker.specs.Workers.{Talk}
use Rattle.line_worker.specs.declared.worker.LineWorker.{LineWorker}
use Rattle.two_channels.specs.Ports.{pass_of}
use Rattle.two_channels.specs.declared.port.EitherPort.{EitherPort}
use Rattle.two_channels.specs.declared.shared.EitherShared.{EitherShared}
use Rattle.run_tracks.specs.Homes.{TookAt}
use Rattle.run_tracks.specs.Places.{TookEach, Zips}
use Rattle.run_tracks.specs.Told.{IsNew}
use Rattle.run_settling.specs.Draining.{EachGoesOn}
use Rattle.run_working.specs.Ends.{IsLineEnded, IsListenEnded}
use Rattle.run_working.specs.Histories.{IsLineTold, IsListenTold}
use Rattle.run_working.specs.Opened.{IsLineOpened, IsListenOpened}
use Rattle.run_working.specs.Wholes.{AreSilentAt, IsSilent}
use Rattle.run_staff.specs.declared.workers.LineEnded.{LineEnded}
use Rattle.run_working.proofs.Behind.{LineRuns, ListenRuns, line_same, listen_same}
use Rattle.run_working.proofs.Same.{Same}
use Rattle.run_working.proofs.Silence.{took_silent}
use Rattle.run_working.proofs.Telling.{line_told, listen_told}

module _ {F : Type 0} (pass : F → Known) (homes last : List Known) (on : EachGoesOn homes last) where
  took_at_silent : (place : ℕ) (p q : Known) → IsNew p → Same p q → ((d : Known) → IsSilent p.number (get_or homes place d) (get_or last place d)) → TookAt homes place q → TookAt last place q
  took_at_silent place p q new same silent took = (
    let e = on.as_many in let l = took.0 in omega (arith, e, l),
    λ d. took_silent (get_or homes place d) (get_or last place d) q p.number (same.numbers ∙ new.0) (on.each place d took.0) (silent d) (took.1 d),
  )

  -- what was taken in at home is taken in later, if no call with its number was made between
  pub took_each_silent : (places : List ℕ) (passes : List Known) (ports : List F) → Zips (λ p port. Same p (pass port)) passes ports → All IsNew passes → AreSilentAt homes last places passes
      → TookEach homes pass places ports → TookEach last pass places ports
  took_each_silent [] passes [] same new silent took = tt
  took_each_silent [] passes (q ∷ ports) same new silent took = absurd took
  took_each_silent (place ∷ places) passes [] same new silent took = absurd took
  took_each_silent (place ∷ places) [] (q ∷ ports) same new silent took = absurd silent
  took_each_silent (place ∷ places) (p ∷ passes) (q ∷ ports) same new silent took = (
    took_at_silent place p (pass q) (All-head IsNew p passes new) same.0 silent.0 took.0,
    took_each_silent places passes ports same.1 (All-tail IsNew p passes new) silent.1 took.1,
  )

-- what holds of each by two claims holds of each by both
pub all_both : {A : Type 0} (P Q : A → Type 0) (xs : List A) → All P xs → All Q xs → All (λ a. P a × Q a) xs
all_both P Q [] p q = All-nil (λ a. P a × Q a)
all_both P Q (x ∷ xs) p q = All-cons (λ a. P a × Q a) x xs (All-head P x xs p, All-head Q x xs q) (all_both P Q xs (All-tail P x xs p) (All-tail Q x xs q))

module _ {R A B : Type 0} (disk : A → Opening → List Step → Type 0) (memory : B → Opening → List Step → Type 0)
    {N C K : Type 0} (Means : Meaning K) (moments : C → Option (ℕ → ℕ)) (heard : N → Heard) (stands : N → Option Endpoint) where
  -- a listener's worker is told of later too, where no other call has its numbers since
  pub listen_stays : (shares : List (EitherShared A B)) (homes last : List Known) → EachGoesOn homes last → (job : ListenWorker Known N C K) (v w : ListenWorker (EitherPort R A B) N C K) (listener : N)
      → All IsNew job.ports.items → AreSilentAt homes last job.channels.items job.ports.items → IsListenOpened shares job v → ListenRuns disk memory Means moments heard stands v w
      → IsListenEnded pass_of homes w listener → IsListenTold Means moments heard shares last job listener
  listen_stays shares homes last on job v w listener new silent opened ran gone =
      let same = listen_same disk memory Means moments heard stands shares job v w opened ran in
      let took : TookEach homes pass_of job.channels.items w.ports.items = subst (λ (l : List ℕ). TookEach homes pass_of l w.ports.items) same.channels' gone.took in
      let later = took_each_silent pass_of homes last on job.channels.items job.ports.items w.ports.items same.ports' new silent took in
      listen_told disk memory Means moments heard stands shares last job v w listener new opened ran
      (record { took = subst (λ (l : List ℕ). TookEach last pass_of l w.ports.items) (sym same.channels') later; same = gone.same })

module _ {R A B : Type 0} (disk : A → Opening → List Step → Type 0) (memory : B → Opening → List Step → Type 0)
    {I O C K : Type 0} (Means : Meaning K) (moments : C → Option (ℕ → ℕ)) (talk : I → O → Talk) where
  -- a worker of lines is told of later too, where no other call has its numbers since
  pub line_stays : (shares : List (EitherShared A B)) (homes last : List Known) → EachGoesOn homes last → (job : LineWorker Known I O C K) (v w : LineWorker (EitherPort R A B) I O C K) (back : LineEnded I O)
      → All IsNew job.ports.items → AreSilentAt homes last job.channels.items job.ports.items → IsLineOpened shares job v → LineRuns disk memory Means moments talk v w
      → IsLineEnded pass_of homes w back → IsLineTold Means moments talk shares last job back
  line_stays shares homes last on job v w back new silent opened ran gone =
      let same = line_same disk memory Means moments talk shares job v w opened ran in
      let took : TookEach homes pass_of job.channels.items w.ports.items = subst (λ (l : List ℕ). TookEach homes pass_of l w.ports.items) same.channels' gone.took in
      let later = took_each_silent pass_of homes last on job.channels.items job.ports.items w.ports.items same.ports' new silent took in
      line_told disk memory Means moments talk shares last job v w back new opened ran
      (record { took = subst (λ (l : List ℕ). TookEach last pass_of l w.ports.items) (sym same.channels') later; input = gone.input; output = gone.output; end = gone.end })

-- Nothing failed in the channels of a run whose disks counted no fault.
use Rattle.std.proofs.Common.{◌≡◌, ◌∙◌, ◌<◌, ◌≤◌, ◌⊎◌, ◌+◌, ◌++◌, inl, inr, ℕ, zero, suc, List, [], ◌∷◌, Bool, true, false, Option, Ok, String, length, get_or, refl, sym, ap, subst, arith, string_bytes}
use Rattle.std.specs.List.{AllByRecursion}
use Rattle.std.specs.declared.alloc.Global.{Global}
use Rattle.std.proofs.lemmas.List.{get_or-map, length-map}
use Rattle.std.proofs.lemmas.List.Sums.{sum_by-cons}
use Rattle.std.proofs.lemmas.List.Elements.{All-from_recursion, recursion_from_All}
use Rattle.channel_face.specs.History.{Opening, Step, opening}
use Rattle.channel_face.specs.Machine.{Rules, State}
use Rattle.channel_face.specs.declared.replies.Kind.TheVariants.{Memory as InMemory}
use Rattle.channel_face.specs.declared.replies.Limits.{Limits}
use Rattle.flume_host.specs.Causes.{Counts as CountsFaults, Rose}
use Rattle.flume_host.specs.HostState.{Folders}
use Rattle.flume_host.specs.Told.{Told as DiskTold}
use Rattle.file_channel.specs.Stands.{FileState, StandsOver}
use Rattle.shared_channel.specs.Passes.{Known}
use Rattle.shared_channel.specs.Ports.{own_calls}
use Rattle.shared_channel.specs.declared.pass.Closed.{Closed}
use Rattle.sink_worker.specs.Rounds.{Told}
use Rattle.sink_worker.specs.declared.worker.SinkWorker.{SinkWorker}
use Rattle.source_put.specs.Chains.{Meaning}
use Rattle.source_worker.specs.Rounds.{Heard}
use Rattle.line_worker.specs.Workers.{Talk}
use Rattle.channel_lock.specs.Calls.{has}
use Rattle.channel_lock.proofs.Histories.{has_only}
use Rattle.two_channels.specs.Shares.{IsDisk, pass_of}
use Rattle.two_channels.specs.declared.shared.EitherClosed.{EitherClosed}
use Rattle.two_channels.specs.declared.shared.EitherClosed.TheVariants as closed
use Rattle.two_channels.specs.declared.shared.EitherShared.{EitherShared}
use Rattle.two_channels.specs.declared.shared.EitherShared.TheVariants as share
use Rattle.run_tracks.specs.Closes.{IsClosed}
use Rattle.run_tracks.specs.Dealt.{HasNumber, IsOwned, Owner}
use Rattle.run_tracks.specs.Told.{IsNew}
use Rattle.agent_channels.specs.Closings.{DiskBack, back_of, backs_of, faults_of}
use Rattle.channel_wishes.specs.Openings.{Begins, HostTold, IsOfKind}
use Rattle.channel_wishes.specs.Opened.{AreOpened}
use Rattle.channel_wishes.specs.declared.opened.OpenedChannel.{OpenedChannel}
use Rattle.channel_wishes.specs.declared.wish.ChannelPlace.{ChannelPlace}
use Rattle.channel_wishes.specs.declared.wish.ChannelPlace.TheVariants.{Folder, Memory}
use Rattle.channel_wishes.specs.declared.wish.ChannelWish.{ChannelWish}
use Rattle.sound_lines.specs.Undisturbed.{AreFair, IsUndisturbed}
use Rattle.sound_lines.proofs.Fair.{AreFairOwn, fair_of}
use Rattle.sound_lines.proofs.Faults.{NoneBreaks, none_breaks}
use Rattle.sound_lines.proofs.Unbroken.{memory_breaks_none, never_broken}
use Rattle.sound_lines.proofs.Views.{IsFairIn}
use Rattle.run_settling.specs.Draining.{IsSinkHome}
use Rattle.agent_run.specs.Finals.{finals_of}
use Rattle.run_staff.specs.Jobs.{owners_of}
use Rattle.sound_runs.specs.SoundRun.{NothingFailed}
use Rattle.run_settling.specs.declared.at_home.AtHome.{AtHome}
use Rattle.agent_run.proofs.Began.{fresh_base}
use Rattle.sound_runs.proofs.Fairly.{IsFairOwner, owners_fair}
use Rattle.run_opening.proofs.Fresh.{are_fresh, fresh_at, fresh_many}
use Rattle.sound_runs.proofs.Homely.{IsFairPass, counted_all, drained_all, kept_all, mended_all, took_pass}
use Rattle.agent_run.proofs.Left.{at_rest, closed_at, closed_long, disk_left, finals_are, left_below, left_run}

-- what is at a place of a list, where there is something
one_at : {X : Type 0} (xs : List X) (place : ℕ) → place < length xs → X
one_at [] place below = absurd (omega (arith, below))
one_at (x ∷ xs) place below = x

-- ---- how channels begin

-- A channel that was opened for a wish, by its pass at home.
record IsBegun {A B : Type 0} (wish : ChannelWish) (c : OpenedChannel A B) : Type 0 where
  folders : Folders
  starts : Begins folders wish.place wish.limits c.home.view.base
  kind : IsOfKind wish.place c.share

begun_at : {A B : Type 0} (wishes : List ChannelWish) (cs : List (OpenedChannel A B)) (a b : HostTold) → AreOpened wishes cs a b → (place : ℕ) (w : ChannelWish) (c : OpenedChannel A B) → place < length cs
    → IsBegun (get_or wishes place w) (get_or cs place c)
begun_at [] [] a b all place w c below = absurd (omega (arith, below))
begun_at [] (x ∷ cs) a b all place w c below = absurd all
begun_at (wish ∷ wishes) [] a b all place w c below = absurd all
begun_at (wish ∷ wishes) (x ∷ cs) a b all zero w c below =
    let is = all.1 in
    record {
      folders = a.folders;
      starts = subst (Begins a.folders wish.place wish.limits) (sym (fresh_base (Begins a.folders wish.place wish.limits) wish.users x.share x.home x.others.items is.fresh)) is.fresh.begins;
      kind = is.kind;
    }
begun_at (wish ∷ wishes) (x ∷ cs) a b all (suc place) w c below = begun_at wishes cs all.0 b all.2 place w c (omega (arith, below))

limits_at : (folders : Folders) (place : ChannelPlace) (limits : Limits) (start : Opening) → Begins folders place limits start → start.rules.limits ≡ limits
limits_at folders Memory limits start begins = ap (λ (o : Opening). o.rules.limits) begins
limits_at folders (Folder path) limits start begins = ap (λ (r : Rules). r.limits) begins.rules

-- one that is shared on a disk is wanted in a folder
in_folder : {A B : Type 0} (place : ChannelPlace) (s : EitherShared A B) → IsDisk s → IsOfKind place s → (path : String Global) × (place ≡ Folder path)
in_folder Memory s on kind = absurd (kind on)
in_folder (Folder path) s on kind = (path, refl)

no_faults : (folders : Folders) (place : ChannelPlace) (path : String Global) (limits : Limits) (start : Opening) → place ≡ Folder path → Begins folders place limits start → start.faults ≡ 0
no_faults folders place path limits start is begins = (subst (λ (p : ChannelPlace). Begins folders p limits start) is begins).faults

in_memory_at : {A B : Type 0} (folders : Folders) (place : ChannelPlace) (s : EitherShared A B) (limits : Limits) (start : Opening) → (IsDisk s → ⊥) → IsOfKind place s → Begins folders place limits start → start.rules.kind ≡ InMemory
in_memory_at folders Memory s limits start off kind begins = ap (λ (o : Opening). o.rules.kind) begins
in_memory_at folders (Folder path) s limits start off kind begins = absurd (off kind)

-- ---- what the disks counted

no_sum : (first rest all : ℕ) → all ≡ first + rest → all ≡ 0 → (first ≡ 0) × (rest ≡ 0)
no_sum first rest all is none = (omega (arith, is, none), omega (arith, is, none))

-- of disks that counted none the first counted none, and the others did not
none_both : (x : DiskBack) (rest : List DiskBack) → faults_of (x ∷ rest) ≡ 0 → (x.faults ≡ 0) × (faults_of rest ≡ 0)
none_both x rest none = no_sum x.faults (faults_of rest) (faults_of (x ∷ rest)) (sum_by-cons (λ (back : DiskBack). back.faults) x rest) none

abbrev disk_of : {D : Type 0} → (D → Option DiskTold) → (D → ℕ) → String Global → Closed (D × FileState) → DiskBack
disk_of told faults path c = record { path = string_bytes path; told = told c.channel.0; faults = faults c.channel.0 }

module _ {D B : Type 0} (told : D → Option DiskTold) (faults : D → ℕ) where
  rest_none : (place : ChannelPlace) (e : EitherClosed (D × FileState) B) (rest : List DiskBack) → faults_of (back_of told faults place e ++ rest) ≡ 0 → faults_of rest ≡ 0
  rest_none Memory (closed.Disk c) rest none = none
  rest_none (Folder path) (closed.Disk c) rest none = (none_both (disk_of told faults path c) rest none).1
  rest_none Memory (closed.Memory c) rest none = none
  rest_none (Folder path) (closed.Memory c) rest none = none

  -- where no disk that came back had counted a fault, that of the channel at this place had not
  none_at : (wishes : List ChannelWish) (ends : List (EitherClosed (D × FileState) B)) → faults_of (backs_of told faults wishes ends) ≡ 0 → (place : ℕ) (w : ChannelWish) (e : EitherClosed (D × FileState) B) (path : String Global) (c : Closed (D × FileState))
      → place < length wishes → place < length ends → (get_or wishes place w).place ≡ Folder path → get_or ends place e ≡ closed.Disk c → faults c.channel.0 ≡ 0
  none_at [] ends none place w e path c low under folder is = absurd (omega (arith, low))
  none_at (wish ∷ wishes) [] none place w e path c low under folder is = absurd (omega (arith, under))
  none_at (wish ∷ wishes) (x ∷ ends) none zero w e path c low under folder is =
      (none_both (disk_of told faults path c) (backs_of told faults wishes ends)
      (subst (λ (y : ChannelPlace × EitherClosed (D × FileState) B). faults_of (back_of told faults y.0 y.1 ++ backs_of told faults wishes ends) ≡ 0) (λ i. (folder i, is i)) none)).0
  none_at (wish ∷ wishes) (x ∷ ends) none (suc place) w e path c low under folder is =
      none_at wishes ends (rest_none wish.place x (backs_of told faults wishes ends) none) place w e path c (omega (arith, low)) (omega (arith, under)) folder is

-- a count that did not rise took back none
none_raised : (before now own : ℕ) → CountsFaults before now own → (Rose before now → ⊥) → own ≡ 0
none_raised before now zero is steady = refl
none_raised before now (suc own) is steady = absurd (steady (is.raised (omega arith)))

-- ---- one channel

-- a new pass has made no call
new_fair : (p : Known) → IsNew p → has p.view.numbers p.number ≡ true → (n : ℕ) → has p.view.numbers n ≡ true → IsFairPass n p
new_fair p new own n mine =
    let is : n ≡ p.number = has_only p.number n (subst (λ (ns : List ℕ). has ns n ≡ true) new.0 mine) in
    let none : own_calls (n ∷ []) (opening p.view.base) p.view.seen ≡ [] =
    (λ i. own_calls (is i ∷ []) (opening p.view.base) p.view.seen) ∙ (λ i. own_calls (sym new.0 i) (opening p.view.base) p.view.seen) ∙ new.1 in
    record { own = own; fair = record { mine = mine; fair = subst (AreFairOwn []) (sym none) tt } }

module _ {D M S N I O C K : Type 0} (sink : Told S) (Means : Meaning K) (moments : C → Option (ℕ → ℕ)) (heard : N → Heard) (talk : I → O → Talk) (told : D → Option DiskTold) (faults : D → ℕ)
    (tells : D × FileState → Bool) (moment : D × FileState → ℕ) (laid : D × FileState → State → Type 0) (pruned : D × FileState → Type 0) (memory : M → Opening → List Step → Type 0) (tells' : M → Bool) where
  abbrev disk : D × FileState → Opening → List Step → Type 0
  disk c = StandsOver (told c.0) (faults c.0) c.1

  -- a channel that was closed was broken by no call
  closed_none : (s : EitherShared (D × FileState) M) (p : Known) (e : EitherClosed (D × FileState) M) (wish : ChannelWish) (folders : Folders) → IsClosed disk tells memory tells' s p e
      → IsOfKind wish.place s → Begins folders wish.place wish.limits p.view.base
      → ((path : String Global) (c : Closed (D × FileState)) → wish.place ≡ Folder path → e ≡ closed.Disk c → faults c.channel.0 ≡ 0) → NoneBreaks p.view.seen
  closed_none (share.Disk s) p e wish folders is kind begins zero_of =
      let placed = in_folder wish.place (share.Disk s) tt kind in
      let left = disk_left disk tells memory tells' (share.Disk s) p e tt is in
      let all = left.stands in
      none_breaks _ (told left.of.channel.0) (faults left.of.channel.0) _ _ p.view.base all.0 p.view.seen
      (no_faults folders wish.place placed.0 wish.limits p.view.base placed.1 begins) (zero_of placed.0 left.of placed.1 left.same) all.1 all.2
  closed_none (share.Memory s) p e wish folders is kind begins zero_of =
      memory_breaks_none p.view.base.tells (opening p.view.base) p.view.seen
      (in_memory_at folders wish.place (share.Memory s) wish.limits p.view.base (λ off. off) kind begins) (left_run disk tells memory tells' (share.Memory s) p e is)

  -- where the disks counted no fault, nothing failed in any channel
  pub nothing_failed : NothingFailed {O = O} sink Means moments heard talk told faults tells moment laid pruned memory tells'
  nothing_failed plans o m homes sinks returned settled a b old new opened some manned took home named settles full back steady place final below =
      subst (λ (q : Known). IsUndisturbed q.view.base q.view.seen) (sym same) (record {
        tells = p.view.base.tells;
        run = left_run disk tells memory tells' (get_or shares place s0) p (get_or ends place e0) is;
        fair = fair;
        unbroken = never_broken p.view.base p.view.seen fair
            (closed_none (get_or shares place s0) p (get_or ends place e0) (get_or wishes place w) began.folders is kind starts
            (λ path c placed end. none_at told faults wishes ends none place w e0 path c wide under placed end));
        some = subst (λ (l : Limits). 1 ≤ l.txn_capacity) (sym (limits_at began.folders (get_or wishes place w).place (get_or wishes place w).limits p.view.base starts)) (some place w wide);
      })
    where
      shares : List (EitherShared (D × FileState) M)
      shares = m.crew.shares.items

      ends : List (EitherClosed (D × FileState) M)
      ends = settled.closed.items

      wishes : List ChannelWish
      wishes = m.wishes.items

      cs : List (OpenedChannel (D × FileState) M)
      cs = o.opened.items

      Is : EitherShared (D × FileState) M → Known → EitherClosed (D × FileState) M → Type 0
      Is = IsClosed disk tells memory tells'

      under : place < length ends
      under = let e = length-map ends pass_of in omega (arith, below, e)

      low : place < length settles.counted
      low = let e = closed_long Is shares settles.counted ends settles.closed in omega (arith, under, e)

      in_mended : place < length settles.mended
      in_mended = let e = settles.counts.as_many in omega (arith, low, e)

      in_kept : place < length settles.kept
      in_kept = let e = settles.mends.as_many in omega (arith, in_mended, e)

      in_drained : place < length settles.drained
      in_drained = let e = settles.keeps.as_many in omega (arith, in_kept, e)

      in_homes : place < length homes
      in_homes = let e = settles.goes_on.as_many in omega (arith, in_drained, e)

      in_crew : place < length m.crew.homes.items
      in_crew = let e = took.as_many in omega (arith, in_homes, e)

      in_cs : place < length cs
      in_cs = let e = ap length manned.at_home in let f = length-map cs (λ (c : OpenedChannel (D × FileState) M). c.home) in omega (arith, in_crew, e, f)

      wide : place < length wishes
      wide = let e = fresh_many wishes cs (are_fresh wishes cs a b opened) in omega (arith, in_cs, e)

      w : ChannelWish
      w = one_at wishes place wide

      c0 : OpenedChannel (D × FileState) M
      c0 = one_at cs place in_cs

      e0 : EitherClosed (D × FileState) M
      e0 = one_at ends place under

      s0 : EitherShared (D × FileState) M
      s0 = (get_or cs place c0).share

      first : Known
      first = (get_or cs place c0).home

      p : Known
      p = get_or settles.counted place final

      is : Is (get_or shares place s0) p (get_or ends place e0)
      is = closed_at Is shares settles.counted ends settles.closed place s0 final e0 low

      same : get_or (finals_of settled) place final ≡ at_rest p
      same = ap (λ (l : List Known). get_or l place final) (finals_are disk tells memory tells' shares settles.counted ends settles.closed) ∙ get_or-map at_rest settles.counted place final final low

      crew_is : get_or m.crew.homes.items place final ≡ first
      crew_is = ap (λ (l : List Known). get_or l place final) manned.at_home ∙ get_or-map (λ (c : OpenedChannel (D × FileState) M). c.home) cs place c0 final in_cs

      share_is : get_or shares place s0 ≡ s0
      share_is = ap (λ (l : List (EitherShared (D × FileState) M)). get_or l place s0) manned.shares ∙ get_or-map (λ (c : OpenedChannel (D × FileState) M). c.share) cs place c0 s0 in_cs

      began : IsBegun (get_or wishes place w) (get_or cs place c0)
      began = begun_at wishes cs a b opened place w c0 in_cs

      kind : IsOfKind (get_or wishes place w).place (get_or shares place s0)
      kind = subst (IsOfKind (get_or wishes place w).place) (sym share_is) began.kind

      base_is : p.view.base ≡ first.view.base
      base_is =
          ap (λ (q : Known). q.view.base) (sym same) ∙ (full.goes_on.each place final in_homes).base
          ∙ (took.each place final in_crew).base ∙ ap (λ (q : Known). q.view.base) crew_is

      passes_are : p.view.passes ≡ (get_or m.crew.homes.items place final).view.passes
      passes_are = ap (λ (q : Known). q.view.passes) (sym same) ∙ (full.goes_on.each place final in_homes).passes ∙ (took.each place final in_crew).passes

      starts : Begins began.folders (get_or wishes place w).place (get_or wishes place w).limits p.view.base
      starts = subst (Begins began.folders (get_or wishes place w).place (get_or wishes place w).limits) (sym base_is) began.starts

      none : faults_of (backs_of told faults wishes ends) ≡ 0
      none = none_raised old.state.disk_faults new.state.disk_faults (faults_of (backs_of told faults wishes ends)) back.counts steady

      -- by a number of the pass at home
      of_home : (n : ℕ) → has (get_or m.crew.homes.items place final).view.numbers n ≡ true → IsFairIn n p.view
      of_home n mine =
          let f = fresh_at wishes cs (are_fresh wishes cs a b opened) place w c0 in_cs in
          let fresh : IsNew (get_or m.crew.homes.items place final) = subst IsNew (sym crew_is) f.home.1 in
          let zeroth = new_fair (get_or m.crew.homes.items place final) fresh (manned.own place final in_crew) n mine in
          let one = took_pass n m.crew.homes.items homes took place final in_crew zeroth in
          let two = drained_all sink moments n sinks homes settled.ends.items settled.sinks.items settles.drained (numbers_of sinks (recursion_from_All (IsSinkHome homes) sinks home)) settles.drains place final one in
          let three = kept_all disk tells moment n shares s0 laid pruned m.closes.items settles.drained settles.kept settles.keeps place final in_drained two in
          let four = mended_all disk tells moment n shares s0 settles.kept settled.mends.items settles.mended settles.mends (Ok false) place final in_kept three in
          (counted_all n settles.mended m.settled.report.items settled.report.items settles.counted settles.counts (one_at m.settled.report.items place (omega (arith, named, in_homes))) place final in_mended four).fair.fair
        where
          numbers_of : (ws : List (SinkWorker AtHome S C)) → AllByRecursion (IsSinkHome homes) ws → AllByRecursion (λ (v : SinkWorker AtHome S C). HasNumber homes v.channel v.port.number) ws
          numbers_of [] all = tt
          numbers_of (v ∷ ws) all = (all.0.1, numbers_of ws all.1)

      -- by that of a worker
      of_owner : (n : ℕ) → IsOwned (owners_of m.crew.jobs) place n → IsFairIn n p.view
      of_owner n (i, inside, owned_so) =
          let d : Owner = record { place = place; number = n } in
          let all = owners_fair (finals_of settled) sink Means moments heard talk shares s0 homes m.crew.jobs returned settled manned.new_ones full in
          let one = All-from_recursion (IsFairOwner (finals_of settled)) (owners_of m.crew.jobs) all i d inside in
          subst (λ (q : Known). IsFairIn n q.view) same ((subst (IsFairOwner (finals_of settled)) (owned_so d) one) below final)

      each : (n : ℕ) → n < p.view.passes → IsFairIn n p.view
      each n few = by (manned.dealt place final in_crew n (subst (λ (k : ℕ). n < k) passes_are few))
        where
          by : (has (get_or m.crew.homes.items place final).view.numbers n ≡ true) ⊎ IsOwned (owners_of m.crew.jobs) place n → IsFairIn n p.view
          by (inl mine) = of_home n mine
          by (inr theirs) = of_owner n theirs

      fair : AreFair p.view.base p.view.seen
      fair = fair_of p.view.base p.view.seen p.view.passes (left_below disk tells memory tells' (get_or shares place s0) p (get_or ends place e0) is) each

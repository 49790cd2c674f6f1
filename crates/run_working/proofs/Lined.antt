-- What a worker of lines did through its ports is in their tracks.
use Rattle.std.proofs.Common.{◌≡◌, ℕ, suc, List, [], ◌∷◌, Bool, true, false, map, refl, subst}
use Rattle.std.specs.List.{AllByRecursion}
use Rattle.channel_face.specs.Faces.{Own}
use Rattle.channel_face.specs.Machine.{State}
use Rattle.selectors.specs.declared.selector.Selector.{Selector}
use Rattle.shared_channel.specs.Passes.{Known}
use Rattle.shared_channel.specs.Ports.{later_none, later_then}
use Rattle.source_put.specs.Chains.{Meaning}
use Rattle.source_put.specs.Into.{Into}
use Rattle.source_put.specs.declared.chain.HostNames.{HostNames}
use Rattle.netcat_source.specs.Into.{TakesLine}
use Rattle.netcat_source.specs.declared.lines.LineVerdict.{LineVerdict}
use Rattle.source_worker.specs.Rounds.{Answer, MendsEach, MendsInto, any_refused}
use Rattle.line_session.specs.Handled.{Handled, TakesAll}
use Rattle.line_session.specs.declared.session.SessionEnd.{SessionEnd}
use Rattle.line_worker.specs.Turns.{Feeding, MendsWhere, TakesTurn, is_due}
use Rattle.line_worker.specs.Workers.{Session, Talk}
use Rattle.run_tracks.specs.Listening.{IsDiskAt, MendedEach, MendedInto, PortMends, along, home_tracks}
use Rattle.run_tracks.specs.Places.{TookEach, Zips}
use Rattle.run_tracks.specs.Told.{IsFace, IsNew, IsSteady, PortPuts}
use Rattle.run_tracks.specs.Tracks.{Gave, Track, ended}
use Rattle.run_tracks.proofs.Listened.{AreDisks, SameDisk, StaysLater, all_home, all_new, disk_self, disk_then, disks_later, line_in, mend_one, same_in}
use Rattle.run_tracks.proofs.Tracking.{AllMatch, Before, back, before_none, behind_then, matches_back}
use Rattle.run_working.proofs.Turning.{mends_stay, takes_stay, turn_stays, turns_stay}

module _ {F : Type 0} (pass : F → Known) (saw : F → List Own → State → Type 0) (kept : F → F → Type 0) (face : IsFace pass saw kept) (on_disk : F → Type 0) (steady : IsSteady kept on_disk) where
  -- ports that are on a disk exactly where D says so of each place
  pub are_disks : (D : ℕ → Type 0) (ps : List F) → ((i : ℕ) → (IsDiskAt on_disk ps i → D i) × (D i → IsDiskAt on_disk ps i)) → AreDisks pass saw kept face on_disk steady D ps
  are_disks D [] same = tt
  are_disks D (p ∷ ps) same = (same 0, are_disks (λ i. D (suc i)) ps (λ i. same (suc i)))

  -- Mends through ports are in their tracks, whichever of E says which of them are on a disk.
  mend_all : {E : Type 0} (D : E → ℕ → Type 0) (olds : List F) (answers : List Answer) (news : List F) (ts : List Track) → AllMatch pass saw kept face news ts → ((e : E) → AreDisks pass saw kept face on_disk steady (D e) olds)
      → MendsEach (PortMends pass saw kept on_disk) olds answers news → Before pass saw kept face olds ts (λ us. (e : E) → MendedEach (D e) us answers ts)
  mend_all {E} D [] [] [] [] m same none = before_none pass saw kept face [] [] (λ us. (e : E) → MendedEach (D e) us [] []) tt (λ e. tt)
  mend_all D [] [] [] (t ∷ ts) m same none = absurd m
  mend_all D [] [] (q ∷ news) ts m same none = absurd none
  mend_all D [] (answer ∷ answers) news ts m same none = absurd none
  mend_all D (p ∷ olds) [] news ts m same none = absurd none
  mend_all D (p ∷ olds) (answer ∷ answers) [] ts m same none = absurd none
  mend_all D (p ∷ olds) (answer ∷ answers) (q ∷ news) [] m same did = absurd m
  mend_all D (p ∷ olds) (answer ∷ answers) (q ∷ news) (t ∷ ts) m same did =
      let rest = mend_all (λ e place. D e (suc place)) olds answers news ts m.1 (λ e. (same e).1) did.1 in
      record {
        us = back (pass p) t ∷ rest.us;
        all = (matches_back (pass p) (pass q) t (face.laters p q did.0.same) m.0, rest.all);
        behind = (refl, rest.behind);
        holds = λ e. ((mend_one pass saw kept face on_disk steady (D e 0) p q (same e).0.0 (same e).0.1 answer t m.0 did.0).1, rest.holds e);
      }

  module _ {B : Type 0} (Means : Meaning B) (selector : Selector) (host : HostNames) where
    abbrev pub Turns : Feeding (Into F B) → List ℕ → LineVerdict → Feeding (Into F B) → Type 0
    Turns = TakesTurn (TakesLine (PortPuts pass saw kept) selector Means host) (MendsInto (PortMends pass saw kept on_disk))

    -- with these tracks for the ports
    abbrev pub feeding_along : List Track → Feeding (Into F B) → Feeding (Into Track B)
    feeding_along ts f = record { into = along ts f.into; due = f.due }

    abbrev pub Disk : F → F → Type 0
    Disk = SameDisk pass saw kept face on_disk steady

    self : (p : F) → Disk p p
    self p = disk_self pass saw kept face on_disk steady p

    trans : (p q r : F) → Disk p q → Disk q r → Disk p r
    trans p q r f g = disk_then pass saw kept face on_disk steady p q r f g

    -- D says, of each thing of E, which places are on a disk
    module _ {E : Type 0} (D : E → ℕ → Type 0) where
      abbrev pub Disks : List F → Type 0
      Disks ports = (e : E) → AreDisks pass saw kept face on_disk steady (D e) ports

      -- mends in tracks, whichever of E says so
      abbrev pub MendsIn : Into Track B → List Answer → Into Track B → Type 0
      MendsIn old answers new = (e : E) → MendedInto (D e) old answers new

      abbrev pub TurnsIn : Feeding (Into Track B) → List ℕ → LineVerdict → Feeding (Into Track B) → Type 0
      TurnsIn = TakesTurn (TakesLine Gave selector Means host) MendsIn

      later_disks : (ps qs : List F) → Zips Disk ps qs → Disks ps → Disks qs
      later_disks ps qs stays disks = λ e. disks_later pass saw kept face on_disk steady (D e) ps qs stays (disks e)

      mends_in : (due : Bool) (a b : Into F B) (answers : List Answer) (ts : List Track) → AllMatch pass saw kept face b.route.ports ts → Disks a.route.ports → MendsWhere (MendsInto (PortMends pass saw kept on_disk)) due a answers b
          → Before pass saw kept face a.route.ports ts (λ us. MendsWhere MendsIn due (along us a) answers (along ts b))
      mends_in true a b answers ts m disks (moments, links, each) =
          let done = mend_all D a.route.ports answers b.route.ports ts m disks each in
          record { us = done.us; all = done.all; behind = done.behind; holds = λ e. (moments, links, done.holds e) }
      mends_in false a b answers ts m disks (none, same) =
          same_in pass saw kept face on_disk steady Means selector host a b ts (λ us. MendsWhere MendsIn false (along us a) answers (along ts b)) m same (none, λ i. along ts (same i))

      turn_in : (a b : Feeding (Into F B)) (line : List ℕ) (said : LineVerdict) (ts : List Track) → AllMatch pass saw kept face b.into.route.ports ts → Disks a.into.route.ports → Turns a line said b
          → Before pass saw kept face a.into.route.ports ts (λ us. TurnsIn (feeding_along us a) line said (feeding_along ts b))
      turn_in a b line said ts m disks t =
          let behind_mends = mends_stay pass saw kept on_disk Disk self trans steady Means selector host a.due a.into t.before t.first t.again in
          let behind_line = takes_stay pass saw kept on_disk Disk self trans steady Means selector host t.before t.behind line t.verdict t.takes in
          let here : Disks t.before.route.ports = later_disks a.into.route.ports t.before.route.ports behind_mends disks in
          let there : Disks t.behind.route.ports = later_disks t.before.route.ports t.behind.route.ports behind_line here in
          let last = mends_in (is_due (any_refused t.first) t.verdict) t.behind b.into t.last ts m there t.mends in
          let taken = line_in pass saw kept face on_disk steady Means selector host t.before t.behind line t.verdict last.us last.all t.takes in
          let first = mends_in a.due a.into t.before t.first taken.us taken.all disks t.again in
          record {
            us = first.us;
            all = first.all;
            behind = behind_then first.us taken.us ts first.behind (behind_then taken.us last.us ts taken.behind last.behind);
            holds = record {
              first = t.first;
              last = t.last;
              verdict = t.verdict;
              before = along taken.us t.before;
              behind = along last.us t.behind;
              again = first.holds;
              takes = taken.holds;
              mends = last.holds;
              due = t.due;
              answered = t.answered;
            };
          }

      turns_in : (done : List Handled) (a b : Feeding (Into F B)) (ts : List Track) → AllMatch pass saw kept face b.into.route.ports ts → Disks a.into.route.ports → TakesAll Turns a done b
          → Before pass saw kept face a.into.route.ports ts (λ us. TakesAll (TurnsIn) (feeding_along us a) done (feeding_along ts b))
      turns_in [] a b ts m disks same =
          before_none pass saw kept face a.into.route.ports ts (λ us. TakesAll (TurnsIn) (feeding_along us a) [] (feeding_along ts b))
          (subst (λ (x : Feeding (Into F B)). AllMatch pass saw kept face x.into.route.ports ts) same m) (λ i. feeding_along ts (same i))
      turns_in (h ∷ done) a b ts m disks (next, one, others) =
          let stays = turn_stays pass saw kept on_disk Disk self trans steady Means selector host a next h.line h.verdict one in
          let later = turns_in done next b ts m (later_disks a.into.route.ports next.into.route.ports stays disks) others in
          let first = turn_in a next h.line h.verdict later.us later.all disks one in
          record { us = first.us; all = first.all; behind = behind_then first.us later.us ts first.behind later.behind; holds = (feeding_along later.us next, first.holds, later.holds) }

      -- Once the passes of new ports are at home, the lines of a session, the batch of each and each mend, are all calls with their numbers.
      pub session_home : (max : ℕ) (ack built : Bool) (end : SessionEnd) (old new : Feeding (Into F B)) (before after : Talk) (homes : List Known) (channels : List ℕ)
          → Disks old.into.route.ports → AllByRecursion (λ port. IsNew (pass port)) old.into.route.ports → TookEach homes pass channels new.into.route.ports → Session max ack Turns built end old new before after
          → let tracks = home_tracks pass homes channels old.into.route.ports in Session max ack (TurnsIn) built end (feeding_along tracks old) (feeding_along (map ended tracks) new) before after
      session_home max ack built end old new before after homes channels disks fresh took s =
          let ports = old.into.route.ports in
          let done = s.served.done in
          let later = turns_stay pass saw kept on_disk (StaysLater pass saw kept face on_disk steady) (λ p. later_none (pass p)) (λ p q r f g. later_then (pass p) (pass q) (pass r) f g) face.laters Means selector host done old new s.served.takes in
          let tracks = home_tracks pass homes channels ports in
          let got = turns_in done old new (map ended tracks) (all_home pass saw kept face on_disk steady homes channels ports new.into.route.ports later fresh took) disks s.served.takes in
          let is : got.us ≡ tracks = all_new pass saw kept face on_disk steady homes channels ports got.us got.all got.behind fresh in
          record {
            served = record {
              done = done;
              takes = subst (λ (us : List Track). TakesAll (TurnsIn) (feeding_along us old) done (feeding_along (map ended tracks) new)) is got.holds;
              each = s.served.each;
              rest = s.served.rest;
              read = s.served.read;
              sent = s.served.sent;
              wrote = s.served.wrote;
              ends = s.served.ends;
              at = s.served.at;
            };
            cause = s.cause;
            handed = s.handed;
            unserved = s.unserved;
          }

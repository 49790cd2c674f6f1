-- What a listener's worker did through its ports is in their tracks.
use Rattle.std.proofs.Common.{◌≡◌, ◌∙◌, inl, inr, ℕ, suc, List, [], ◌∷◌, ◌++◌, length, Bool, true, false, Option, Some, None, Ok, Err, map, get_or, refl, sym, ap, subst}
use Rattle.std.specs.List.{AllByRecursion}
use Rattle.flume_host.specs.Links.{LinkTold}
use Rattle.flume_host.specs.Listens.{fresh_from}
use Rattle.event_core.specs.Content.{Content}
use Rattle.channel_face.specs.Faces.{Own}
use Rattle.channel_face.specs.Machine.{State}
use Rattle.selectors.specs.declared.selector.Selector.{Selector}
use Rattle.shared_channel.specs.Passes.{Known}
use Rattle.shared_channel.specs.Ports.{Later, later_none, later_then, owned}
use Rattle.source_put.specs.Chains.{Meaning}
use Rattle.source_put.specs.Into.{Into}
use Rattle.source_put.specs.declared.chain.HostNames.{HostNames}
use Rattle.source_put.specs.declared.intake.Verdict.{Verdict}
use Rattle.source_put.specs.declared.intake.Verdict.TheVariants as verdicts
use Rattle.netcat_source.specs.Into.{TakesAll, TakesLine}
use Rattle.netcat_source.specs.Judged.{Judged, event_of}
use Rattle.avro_hop.specs.declared.hop.Asked.TheVariants.{Reply, Events}
use Rattle.avro_ends.specs.Exchanges.{Exchange, Exchanged, Exchanges, TakesBatch}
use Rattle.avro_ends.specs.Sessions.{EndsBy, IsNext}
use Rattle.avro_ends.specs.declared.session.AvroEnd.{AvroEnd}
use Rattle.avro_ends.specs.declared.session.AvroEnd.TheVariants as avro
use Rattle.source_worker.specs.Rounds.{Answer, Finds, Found, Makes, MendsEach, MendsIf, MendsInto, Round, Rounds, Serves, Serving, Session, is_due}
use Rattle.source_worker.specs.declared.ends.LinkEnd.{LinkEnd}
use Rattle.source_worker.specs.declared.ends.LinkEnd.TheVariants as ended
use Rattle.source_worker.specs.declared.ends.SessionRules.{SessionRules}
use Rattle.source_worker.specs.declared.ends.SessionRules.TheVariants.{Lines, Avro}
use Rattle.source_worker.proofs.Nexts.{NextOf, next_of}
use Rattle.run_tracks.specs.Listening.{IsDiskAt, ListenedHome, ListenedInTracks, MendedEach, MendedInto, MendedPort, PortMends, along, home_tracks, serving_along}
use Rattle.run_tracks.specs.Homes.{TookAt}
use Rattle.run_tracks.specs.Places.{Zips}
use Rattle.run_tracks.specs.Told.{IsBehind, IsFace, IsNew, IsSteady, Matches, PortPuts}
use Rattle.run_tracks.specs.Tracks.{Gave, Stood, Track, ended, track_of}
use Rattle.run_tracks.proofs.Moving.{mend}
use Rattle.run_tracks.proofs.Staying.{makes_stay, rounds_stay, serves_stay}
use Rattle.run_tracks.proofs.Tracking.{AllMatch, Before, accepts, back, before_none, behind_then, matches_back, matches_home, prefix_short, stood}

-- the same message, of which something else is true
next_as : (rest : List ℕ) (P Q : List ℕ → Type 0) (n : NextOf rest P) → Q n.payload → IsNext rest Q
next_as rest P Q n is = (n.first, n.behind, n.serial, n.payload, n.split, n.pack, is)

module _ {F : Type 0} (pass : F → Known) (saw : F → List Own → State → Type 0) (kept : F → F → Type 0) (face : IsFace pass saw kept) (on_disk : F → Type 0) (steady : IsSteady kept on_disk) where
  -- a port is on a disk exactly where another is
  abbrev pub SameDisk : F → F → Type 0
  SameDisk p q = (on_disk p → on_disk q) × (on_disk q → on_disk p)

  -- it is so of a port itself
  pub disk_self : (p : F) → SameDisk p p
  disk_self p = (λ x. x, λ x. x)

  -- and of one port after the other
  pub disk_then : (p q r : F) → SameDisk p q → SameDisk q r → SameDisk p r
  disk_then p q r f g = (λ x. g.0 (f.0 x), λ x. f.1 (g.1 x))

  -- each port is on a disk exactly where D says so of its place
  abbrev pub AreDisks : (ℕ → Type 0) → List F → Type 0
  AreDisks D [] = Unit {0}
  AreDisks D (p ∷ ps) = ((on_disk p → D 0) × (D 0 → on_disk p)) × AreDisks (λ place. D (suc place)) ps

  disks_self : (ps : List F) → AreDisks (IsDiskAt on_disk ps) ps
  disks_self [] = tt
  disks_self (p ∷ ps) = ((λ x. x, λ x. x), disks_self ps)

  -- ports that are on a disk exactly where others were
  pub disks_later : (D : ℕ → Type 0) (ps qs : List F) → Zips SameDisk ps qs → AreDisks D ps → AreDisks D qs
  disks_later D [] [] all same = tt
  disks_later D [] (q ∷ qs) all same = absurd all
  disks_later D (p ∷ ps) [] all same = absurd all
  disks_later D (p ∷ ps) (q ∷ qs) all same = ((λ x. same.0.0 (all.0.1 x), λ d. all.0.0 (same.0.1 d)), disks_later (λ place. D (suc place)) ps qs all.1 same.1)

  -- a mend through a port is in its track
  pub mend_one : (D : Type 0) → (p q : F) → (on_disk p → D) → (D → on_disk p) → (answer : Answer) (t : Track) → Matches (pass q) t → PortMends pass saw kept on_disk p answer q → Matches (pass p) (back (pass p) t) × MendedPort D (back (pass p) t) answer t
  mend_one D p q to from answer t m once =
      let own = owned (pass p).view in
      let at = once.calls (pass p).view.base [] own (refl, refl, refl) in
      let all : own ++ at.0 ≡ t.own = at.1.2 ∙ m.own in (
        matches_back (pass p) (pass q) t (face.laters p q once.same) m,
        (
          at.0,
          ap (λ (l : List Own). record t { own = l }) (sym all),
          mend (saw q) (Stood (back (pass p) t)) (length (pass q).view.seen) (length t.whole) (prefix_short (pass q).view.seen t.whole m.within) (on_disk p) D to from answer own own at.0
              (λ x s seen. stood pass saw kept face q t m (own ++ x) s seen) at.2,
        ),
      )

  mend_each : (D : ℕ → Type 0) (olds : List F) (answers : List Answer) (news : List F) (ts : List Track) → AllMatch pass saw kept face news ts → AreDisks D olds → MendsEach (PortMends pass saw kept on_disk) olds answers news
      → Before pass saw kept face olds ts (λ us. MendedEach D us answers ts)
  mend_each D [] [] [] [] m same none = before_none pass saw kept face [] [] (λ us. MendedEach D us [] []) tt tt
  mend_each D [] [] [] (t ∷ ts) m same none = absurd m
  mend_each D [] [] (q ∷ news) ts m same none = absurd none
  mend_each D [] (answer ∷ answers) news ts m same none = absurd none
  mend_each D (p ∷ olds) [] news ts m same none = absurd none
  mend_each D (p ∷ olds) (answer ∷ answers) [] ts m same none = absurd none
  mend_each D (p ∷ olds) (answer ∷ answers) (q ∷ news) [] m same did = absurd m
  mend_each D (p ∷ olds) (answer ∷ answers) (q ∷ news) (t ∷ ts) m same did =
      let first = mend_one (D 0) p q same.0.0 same.0.1 answer t m.0 did.0 in
      let rest = mend_each (λ place. D (suc place)) olds answers news ts m.1 same.1 did.1 in
      record { us = back (pass p) t ∷ rest.us; all = (first.0, rest.all); behind = (refl, rest.behind); holds = (first.1, rest.holds) }

  module _ {B : Type 0} (Means : Meaning B) (selector : Selector) (host : HostNames) where
    abbrev pub Line : Into F B → List ℕ → Verdict → Into F B → Type 0
    Line = TakesLine (PortPuts pass saw kept) selector Means host

    abbrev pub LineIn : Into Track B → List ℕ → Verdict → Into Track B → Type 0
    LineIn = TakesLine Gave selector Means host

    -- nothing was done
    pub same_in : (a b : Into F B) (ts : List Track) (P : List Track → Type 0) → AllMatch pass saw kept face b.route.ports ts → b ≡ a → P ts → Before pass saw kept face a.route.ports ts P
    same_in a b ts P m same holds = before_none pass saw kept face a.route.ports ts P (subst (λ (x : Into F B). AllMatch pass saw kept face x.route.ports ts) same m) holds

    -- the batch of a line that went through ports is in their tracks
    pub line_in : (a b : Into F B) (line : List ℕ) (verdict : Verdict) (ts : List Track) → AllMatch pass saw kept face b.route.ports ts → Line a line verdict b → Before pass saw kept face a.route.ports ts (λ us. LineIn (along us a) line verdict (along ts b))
    line_in a b line verdict ts m (inl (moment, next, accepted)) =
        let g = accepts pass saw kept face Means selector host moment a.route b.route (event_of line ∷ []) verdict ts m accepted in
        record { us = g.us; all = g.all; behind = g.behind; holds = inl (moment, next, g.holds) }
    line_in a b line verdict ts m (inr (is, same)) = same_in a b ts (λ us. LineIn (along us a) line verdict (along ts b)) m same (inr (is, λ i. along ts (same i)))

    lines_in : (done : List Judged) (a b : Into F B) (ts : List Track) → AllMatch pass saw kept face b.route.ports ts → TakesAll Line a done b → Before pass saw kept face a.route.ports ts (λ us. TakesAll LineIn (along us a) done (along ts b))
    lines_in [] a b ts m same = same_in a b ts (λ us. TakesAll LineIn (along us a) [] (along ts b)) m same (λ i. along ts (same i))
    lines_in (j ∷ done) a b ts m (next, one, others) =
        let later = lines_in done next b ts m others in
        let first = line_in a next j.line j.verdict later.us later.all one in
        record { us = first.us; all = first.all; behind = behind_then first.us later.us ts first.behind later.behind; holds = (along later.us next, first.holds, later.holds) }

    abbrev pub Batch : Into F B → List Content → Verdict → Into F B → Type 0
    Batch = TakesBatch (PortPuts pass saw kept) selector Means host

    abbrev pub BatchIn : Into Track B → List Content → Verdict → Into Track B → Type 0
    BatchIn = TakesBatch Gave selector Means host

    batch_in : (a b : Into F B) (batch : List Content) (verdict : Verdict) (ts : List Track) → AllMatch pass saw kept face b.route.ports ts → Batch a batch verdict b → Before pass saw kept face a.route.ports ts (λ us. BatchIn (along us a) batch verdict (along ts b))
    batch_in a b batch verdict ts m (moment, next, accepted) =
        let g = accepts pass saw kept face Means selector host moment a.route b.route batch verdict ts m accepted in
        record { us = g.us; all = g.all; behind = g.behind; holds = (moment, next, g.holds) }

    exchange_in : (greeted after : Bool) (x : Exchange) (a b : Into F B) (ts : List Track) → AllMatch pass saw kept face b.route.ports ts → Exchanged Batch greeted a x after b → Before pass saw kept face a.route.ports ts (λ us. Exchanged BatchIn greeted (along us a) x after (along ts b))
    exchange_in greeted after x a b ts m (Reply bytes, answers, (none, is, same)) = same_in a b ts (λ us. Exchanged BatchIn greeted (along us a) x after (along ts b)) m same (Reply bytes, answers, (none, is, λ i. along ts (same i)))
    exchange_in greeted after x a b ts m (Events front batch, answers, (verdict, status, is, taken, said, reply)) =
        let g = batch_in a b batch verdict ts m taken in
        record { us = g.us; all = g.all; behind = g.behind; holds = (Events front batch, answers, (verdict, status, is, g.holds, said, reply)) }

    exchanges_in : (greeted after : Bool) (done : List Exchange) (a b : Into F B) (ts : List Track) → AllMatch pass saw kept face b.route.ports ts → Exchanges Batch greeted a done after b → Before pass saw kept face a.route.ports ts (λ us. Exchanges BatchIn greeted (along us a) done after (along ts b))
    exchanges_in greeted after [] a b ts m (is, same) = same_in a b ts (λ us. Exchanges BatchIn greeted (along us a) [] after (along ts b)) m same (is, λ i. along ts (same i))
    exchanges_in greeted after (x ∷ done) a b ts m (next, state, one, others) =
        let later = exchanges_in next after done state b ts m others in
        let first = exchange_in greeted next x a state later.us later.all one in
        record { us = first.us; all = first.all; behind = behind_then first.us later.us ts first.behind later.behind; holds = (next, along later.us state, first.holds, later.holds) }

    -- how a session of Avro calls ended
    avro_end_in : (end : AvroEnd) (greeted : Bool) (a b : Into F B) (done : List Exchange) (rest sent : List ℕ) (ts : List Track) → AllMatch pass saw kept face b.route.ports ts → EndsBy Batch end greeted a b done rest sent
        → Before pass saw kept face a.route.ports ts (λ us. EndsBy BatchIn end greeted (along us a) (along ts b) done rest sent)
    avro_end_in avro.End greeted a b done rest sent ts m is = same_in a b ts (λ us. EndsBy BatchIn avro.End greeted (along us a) (along ts b) done rest sent) m is.0 (λ i. along ts (is.0 i), is.1, is.2)
    avro_end_in avro.Stopped greeted a b done rest sent ts m is = same_in a b ts (λ us. EndsBy BatchIn avro.Stopped greeted (along us a) (along ts b) done rest sent) m is.0 (λ i. along ts (is.0 i), is.1)
    avro_end_in avro.LinkFault greeted a b done rest sent ts m is = same_in a b ts (λ us. EndsBy BatchIn avro.LinkFault greeted (along us a) (along ts b) done rest sent) m is.0 (λ i. along ts (is.0 i), is.1)
    avro_end_in avro.Turns greeted a b done rest sent ts m is = same_in a b ts (λ us. EndsBy BatchIn avro.Turns greeted (along us a) (along ts b) done rest sent) m is.0 (λ i. along ts (is.0 i), is.1, is.2)
    avro_end_in (avro.TooMany n) greeted a b done rest sent ts m is = same_in a b ts (λ us. EndsBy BatchIn (avro.TooMany n) greeted (along us a) (along ts b) done rest sent) m is.0 (λ i. along ts (is.0 i), is.1, is.2)
    avro_end_in (avro.TooLarge n) greeted a b done rest sent ts m is = same_in a b ts (λ us. EndsBy BatchIn (avro.TooLarge n) greeted (along us a) (along ts b) done rest sent) m is.0 (λ i. along ts (is.0 i), is.1, is.2)
    avro_end_in (avro.BadHandshake at) greeted a b done rest sent ts m is = same_in a b ts (λ us. EndsBy BatchIn (avro.BadHandshake at) greeted (along us a) (along ts b) done rest sent) m is.0 (λ i. along ts (is.0 i), is.1, is.2)
    avro_end_in avro.OtherProtocol greeted a b done rest sent ts m is = same_in a b ts (λ us. EndsBy BatchIn avro.OtherProtocol greeted (along us a) (along ts b) done rest sent) m is.0 (λ i. along ts (is.0 i), is.1, is.2)
    avro_end_in avro.NoMemory greeted a b done rest sent ts m (is, inl same) = same_in a b ts (λ us. EndsBy BatchIn avro.NoMemory greeted (along us a) (along ts b) done rest sent) m same (is, inl (λ i. along ts (same i)))
    avro_end_in avro.NoMemory greeted a b done rest sent ts m (is, inr next) =
        let n = next_of rest _ next in
        let g = batch_in a b n.is.2 verdicts.NoMemory ts m n.is.4 in
        record { us = g.us; all = g.all; behind = g.behind; holds = (is, inr (next_as rest _ _ n (n.is.0, n.is.1, n.is.2, n.is.3, g.holds))) }

    session_in : (rules : SessionRules) (a b : Into F B) (told now : Option LinkTold) (end : LinkEnd) (ts : List Track) → AllMatch pass saw kept face b.route.ports ts → Session rules (PortPuts pass saw kept) selector Means host a told end b now
        → Before pass saw kept face a.route.ports ts (λ us. Session rules Gave selector Means host (along us a) told end (along ts b) now)
    session_in (Lines rules) a b told now (ended.Lines end) ts m (inl s) =
        let l = lines_in s.done a b ts m s.takes in
        record { us = l.us; all = l.all; behind = l.behind; holds = inl (record { done = s.done; takes = l.holds; each = s.each; rest = s.rest; sent = s.sent; turns = s.turns; talk = s.talk; ends = s.ends; leaves = s.leaves; after = s.after }) }
    session_in (Lines rules) a b told now (ended.Lines end) ts m (inr (is, kept, same)) =
        same_in a b ts (λ us. Session (Lines rules) Gave selector Means host (along us a) told (ended.Lines end) (along ts b) now) m same (inr (is, kept, λ i. along ts (same i)))
    session_in (Lines rules) a b told now (ended.Avro end) ts m none = absurd none
    session_in Avro a b told now (ended.Lines end) ts m none = absurd none
    session_in Avro a b told now (ended.Avro end) ts m (inl s) =
        let later = avro_end_in end s.after s.between b s.done s.rest s.sent ts m s.ends in
        let first = exchanges_in false s.after s.done a s.between later.us later.all s.exchanged in
        record {
          us = first.us;
          all = first.all;
          behind = behind_then first.us later.us ts first.behind later.behind;
          holds = inl (record {
            done = s.done;
            after = s.after;
            between = along later.us s.between;
            exchanged = first.holds;
            front = s.front;
            packs = s.packs;
            rest = s.rest;
            sent = s.sent;
            turns = s.turns;
            talk = s.talk;
            ends = later.holds;
            leaves = s.leaves;
            count = s.count;
          });
        }
    session_in Avro a b told now (ended.Avro end) ts m (inr (is, kept, same)) =
        same_in a b ts (λ us. Session Avro Gave selector Means host (along us a) told (ended.Avro end) (along ts b) now) m same (inr (is, kept, λ i. along ts (same i)))

    module _ (rules : SessionRules) where
      abbrev pub Sessions : Into F B → Option LinkTold → LinkEnd → Into F B → Option LinkTold → Type 0
      Sessions = Session rules (PortPuts pass saw kept) selector Means host

      abbrev pub SessionsIn : Into Track B → Option LinkTold → LinkEnd → Into Track B → Option LinkTold → Type 0
      SessionsIn = Session rules Gave selector Means host

      finds_in : (found : Found) (a b : Serving (Into F B)) (ts : List Track) → AllMatch pass saw kept face b.into.route.ports ts → Finds Sessions found a b → Before pass saw kept face a.into.route.ports ts (λ us. Finds SessionsIn found (serving_along us a) (serving_along ts b))
      finds_in (Ok (Some end)) a b ts m (now, kept, one) =
          let s = session_in rules a.into b.into (fresh_from a.heard.links) now end ts m one in
          record { us = s.us; all = s.all; behind = s.behind; holds = (now, kept, s.holds) }
      finds_in (Ok None) a b ts m (gave, same, waited) = same_in a.into b.into ts (λ us. Finds SessionsIn (Ok None) (serving_along us a) (serving_along ts b)) m same (gave, (λ i. along ts (same i)), waited)
      finds_in (Err failed) a b ts m (links, same) = same_in a.into b.into ts (λ us. Finds SessionsIn (Err failed) (serving_along us a) (serving_along ts b)) m same (links, λ i. along ts (same i))

      serves_in : (found : Found) (a b : Serving (Into F B)) (ts : List Track) → AllMatch pass saw kept face b.into.route.ports ts → Serves Sessions found a b → Before pass saw kept face a.into.route.ports ts (λ us. Serves SessionsIn found (serving_along us a) (serving_along ts b))
      serves_in found a b ts m one =
          let f = finds_in found a b ts m one.finds in
          record { us = f.us; all = f.all; behind = f.behind; holds = record { finds = f.holds; cause = one.cause; waits = one.waits; due = one.due } }

      module _ (D : ℕ → Type 0) where
        mends_in : (due : Bool) (a b : Into F B) (answers : List Answer) (ts : List Track) → AllMatch pass saw kept face b.route.ports ts → AreDisks D a.route.ports → MendsIf Sessions (MendsInto (PortMends pass saw kept on_disk)) due a answers b
            → Before pass saw kept face a.route.ports ts (λ us. MendsIf SessionsIn (MendedInto D) due (along us a) answers (along ts b))
        mends_in true a b answers ts m same (moments, links, each) =
            let e = mend_each D a.route.ports answers b.route.ports ts m same each in
            record { us = e.us; all = e.all; behind = e.behind; holds = (moments, links, e.holds) }
        mends_in false a b answers ts m disks (none, same) = same_in a b ts (λ us. MendsIf SessionsIn (MendedInto D) false (along us a) answers (along ts b)) m same (none, λ i. along ts (same i))

        makes_in : (round : Round) (a b : Serving (Into F B)) (ts : List Track) → AllMatch pass saw kept face b.into.route.ports ts → AreDisks D a.into.route.ports → Makes Sessions (MendsInto (PortMends pass saw kept on_disk)) round a b
            → Before pass saw kept face a.into.route.ports ts (λ us. Makes SessionsIn (MendedInto D) round (serving_along us a) (serving_along ts b))
        makes_in round a b ts m same one =
            let stays = serves_stay SameDisk disk_self disk_then (PortPuts pass saw kept) (λ p q events result put. steady p q put.same) Means selector host rules round.found a one.between one.serves in
            let later = mends_in (is_due a.due round.found) one.between.into b.into round.mends ts m (disks_later D a.into.route.ports one.between.into.route.ports stays same) one.mends in
            let first = serves_in round.found a one.between later.us later.all one.serves in
            record {
              us = first.us;
              all = first.all;
              behind = behind_then first.us later.us ts first.behind later.behind;
              holds = record { between = serving_along later.us one.between; serves = first.holds; mends = later.holds; heard = one.heard; due = one.due };
            }

        rounds_in : (rounds : List Round) (a b : Serving (Into F B)) (ts : List Track) → AllMatch pass saw kept face b.into.route.ports ts → AreDisks D a.into.route.ports → Rounds Sessions (MendsInto (PortMends pass saw kept on_disk)) rounds a b
            → Before pass saw kept face a.into.route.ports ts (λ us. Rounds SessionsIn (MendedInto D) rounds (serving_along us a) (serving_along ts b))
        rounds_in [] a b ts m disks same =
            before_none pass saw kept face a.into.route.ports ts (λ us. Rounds SessionsIn (MendedInto D) [] (serving_along us a) (serving_along ts b)) (subst (λ (x : Serving (Into F B)). AllMatch pass saw kept face x.into.route.ports ts) same m) (λ i. serving_along ts (same i))
        rounds_in (round ∷ rounds) a b ts m disks (next, one, others) =
            let stays = makes_stay SameDisk disk_self disk_then (PortPuts pass saw kept) (λ p q events result put. steady p q put.same) Means selector host rules (PortMends pass saw kept on_disk) (λ p q answer did. steady p q did.same) round a next one in
            let later = rounds_in rounds next b ts m (disks_later D a.into.route.ports next.into.route.ports stays disks) others in
            let first = makes_in round a next later.us later.all disks one in
            record { us = first.us; all = first.all; behind = behind_then first.us later.us ts first.behind later.behind; holds = (serving_along later.us next, first.holds, later.holds) }

  -- the rounds of a listener's worker are in the tracks of its ports
  pub listened : {B : Type 0} (Means : Meaning B) → ListenedInTracks pass saw kept on_disk Means
  listened Means rules selector host rounds old new after m ran =
      let before = rounds_in Means selector host rules (IsDiskAt on_disk old.into.route.ports) rounds old new after m (disks_self old.into.route.ports) ran in
      (before.us, before.all, before.behind, before.holds)

  abbrev pub StaysLater : F → F → Type 0
  StaysLater p q = Later (pass p) (pass q)

  -- ports whose passes were taken in stand where their tracks end
  pub all_home : (homes : List Known) (channels : List ℕ) (ps qs : List F) → Zips StaysLater ps qs → AllByRecursion (λ (p : F). IsNew (pass p)) ps → Zips (λ place q. TookAt homes place (pass q)) channels qs
      → AllMatch pass saw kept face qs (map ended (home_tracks pass homes channels ps))
  all_home homes [] [] [] later fresh took = tt
  all_home homes [] (p ∷ ps) [] later fresh took = absurd later
  all_home homes [] ps (q ∷ qs) later fresh took = absurd took
  all_home homes (place ∷ places) ps [] later fresh took = absurd took
  all_home homes (place ∷ places) [] (q ∷ qs) later fresh took = absurd later
  all_home homes (place ∷ places) (p ∷ ps) (q ∷ qs) later fresh took = (
    matches_home (get_or homes place (pass p)) (pass q) (pass p).number (later.0.numbers ∙ fresh.0.0) (took.0.1 (pass p)),
    all_home homes places ps qs later.1 fresh.1 took.1,
  )

  -- and new ones where they begin
  pub all_new : (homes : List Known) (channels : List ℕ) (ps : List F) (us : List Track) → AllMatch pass saw kept face ps us → Zips IsBehind us (map ended (home_tracks pass homes channels ps)) → AllByRecursion (λ (p : F). IsNew (pass p)) ps
      → us ≡ home_tracks pass homes channels ps
  all_new homes [] ps [] m behind fresh = refl
  all_new homes [] ps (u ∷ us) m behind fresh = absurd behind
  all_new homes (place ∷ places) [] [] m behind fresh = refl
  all_new homes (place ∷ places) [] (u ∷ us) m behind fresh = absurd m
  all_new homes (place ∷ places) (p ∷ ps) [] m behind fresh = absurd m
  all_new homes (place ∷ places) (p ∷ ps) (u ∷ us) m behind fresh =
      let t = track_of (get_or homes place (pass p)) (pass p).number in
      let head : u ≡ t = behind.0 ∙ ap (λ (l : List Own). record (ended t) { own = l }) (sym m.0.own ∙ fresh.0.1) in
      let rest : us ≡ home_tracks pass homes places ps = all_new homes places ps us m.1 behind.1 fresh.1 in
      λ i. head i ∷ rest i

  -- once their passes are at home, the rounds are all calls with their numbers
  pub listened_home : {B : Type 0} (Means : Meaning B) → ListenedHome pass saw kept on_disk Means
  listened_home {B} Means rules selector host rounds old new homes channels fresh took ran =
      let ports = old.into.route.ports in
      let later = rounds_stay StaysLater (λ p. later_none (pass p)) (λ p q r f g. later_then (pass p) (pass q) (pass r) f g) (PortPuts pass saw kept) (λ p q events result put. face.laters p q put.same) Means selector host rules
      (PortMends pass saw kept on_disk) (λ p q answer did. face.laters p q did.same) rounds old new ran in
      let tracks = home_tracks pass homes channels ports in
      let before = listened Means rules selector host rounds old new (map ended tracks) (all_home homes channels ports new.into.route.ports later fresh took) ran in
      let is : before.0 ≡ tracks = all_new homes channels ports before.0 before.1 before.2 fresh in
      subst (λ (us : List Track). Rounds (Session rules Gave selector Means host) (MendedInto (IsDiskAt on_disk ports)) rounds (serving_along us old) (serving_along (map ended tracks) new)) is before.3

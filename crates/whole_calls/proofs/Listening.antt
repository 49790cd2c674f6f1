-- Batches over several ports, and the rounds of a listener, leave no transaction open.
use Rattle.std.proofs.Common.{◌≡◌, ◌∷◌, inl, inr, ℕ, suc, [], List, Option, Some, None, Result, Ok, Err, Bool, true, false, length, sym, subst}
use Rattle.channel_face.specs.Faces.{Own}
use Rattle.channel_face.specs.Machine.{State}
use Rattle.channel_face.specs.declared.replies.FaceRefused.{FaceRefused}
use Rattle.event_core.specs.Content.{Content}
use Rattle.flume_host.specs.Links.{LinkTold}
use Rattle.flume_host.specs.Listens.{fresh_from}
use Rattle.netcat_source.specs.Into.{TakesAll, TakesLine}
use Rattle.netcat_source.specs.Judged.{Judged, event_of}
use Rattle.avro_hop.specs.declared.hop.Asked.TheVariants.{Reply, Events}
use Rattle.avro_ends.specs.Exchanges.{Exchange, Exchanges, TakesBatch}
use Rattle.avro_ends.specs.Sessions.{EndsBy}
use Rattle.avro_ends.specs.declared.session.AvroEnd.{AvroEnd}
use Rattle.avro_ends.specs.declared.session.AvroEnd.TheVariants as avro
use Rattle.selectors.specs.Choices.{optional, required}
use Rattle.selectors.specs.declared.selector.Selector.{Selector}
use Rattle.shared_channel.specs.Calls.{state_seen}
use Rattle.shared_channel.specs.Passes.{Known}
use Rattle.shared_channel.specs.Ports.{AreOwned, owned}
use Rattle.source_put.specs.Accepts.{Gives, Judges, events_for}
use Rattle.source_put.specs.Chains.{Meaning}
use Rattle.source_put.specs.Into.{Into}
use Rattle.source_put.specs.Routes.{Accepts, Route}
use Rattle.source_put.specs.Tries.{Ends, Follows, Offers, Requires, Tries}
use Rattle.source_put.specs.declared.chain.HostNames.{HostNames}
use Rattle.source_put.specs.declared.chain.Stopped.{Stopped}
use Rattle.source_put.specs.declared.chain.Stopped.TheVariants as stop
use Rattle.source_put.specs.declared.intake.Verdict.{Verdict}
use Rattle.source_put.specs.declared.intake.Verdict.TheVariants as verdicts
use Rattle.source_put.specs.declared.put.Refusal.{Refusal}
use Rattle.source_worker.specs.Rounds as Listens
use Rattle.source_worker.specs.Rounds.{Answer, Finds, Found, MendsEach, MendsInto, MendsPort, Round, Serving, Session, is_due}
use Rattle.source_worker.specs.declared.ends.LinkEnd.{LinkEnd}
use Rattle.source_worker.specs.declared.ends.LinkEnd.TheVariants as ended
use Rattle.source_worker.specs.declared.ends.SessionRules.{SessionRules}
use Rattle.source_worker.specs.declared.ends.SessionRules.TheVariants.{Lines, Avro}
use Rattle.source_worker.proofs.Nexts.{next_of}
use Rattle.whole_calls.specs.Leaving.{PortPuts}
use Rattle.whole_calls.specs.Listening.{BatchesAreOver, EachStaysOver, ListensAreOver}
use Rattle.whole_calls.proofs.Leaving.{Goes, IsFace, goes_face, goes_none, goes_then, mend_over, put}

module _ {F : Type 0} (pass : F → Known) (saw : F → List Own → State → Type 0) (kept : F → F → Type 0) (face : IsFace pass saw kept) where
  -- each port goes on
  abbrev pub AllGo : List F → List F → Type 0
  AllGo [] [] = Unit {0}
  AllGo (p ∷ ps) (q ∷ qs) = Goes (pass p) (pass q) × AllGo ps qs
  AllGo ps qs = ⊥

  abbrev Puts : F → F → List Content → Result ℕ FaceRefused → Type 0
  Puts = PortPuts pass saw kept

  all_same : (ps : List F) → AllGo ps ps
  all_same [] = tt
  all_same (p ∷ ps) = (goes_none (pass p), all_same ps)

  all_is : (ps qs : List F) → qs ≡ ps → AllGo ps qs
  all_is ps qs same = subst (AllGo ps) (sym same) (all_same ps)

  all_then : (ps qs rs : List F) → AllGo ps qs → AllGo qs rs → AllGo ps rs
  all_then [] [] rs f g = g
  all_then [] (q ∷ qs) rs f g = absurd f
  all_then (p ∷ ps) [] rs f g = absurd f
  all_then (p ∷ ps) (q ∷ qs) [] f g = absurd g
  all_then (p ∷ ps) (q ∷ qs) (r ∷ rs) f g = (goes_then (pass p) (pass q) (pass r) f.0 g.0, all_then ps qs rs f.1 g.1)

  all_stay : (ps qs : List F) → AllGo ps qs → EachStaysOver pass ps qs
  all_stay [] [] go = tt
  all_stay [] (q ∷ qs) go = absurd go
  all_stay (p ∷ ps) [] go = absurd go
  all_stay (p ∷ ps) (q ∷ qs) go = (go.0.stays, all_stay ps qs go.1)

  tries : (events : List Content) (p q : F) (reply : Result (Unit {0}) FaceRefused) → Tries Puts events p q reply → Goes (pass p) (pass q)
  tries [] p q reply (is, same) = subst (λ (x : F). Goes (pass p) (pass x)) (sym same) (goes_none (pass p))
  tries (event ∷ events) p q reply (result, once, is) = put pass saw kept face (event ∷ events) result p q once

  requires : (events : ℕ → List Content) (place : ℕ) (olds : List F) (refusal : Option Refusal) (news : List F) → Requires Puts events place olds refusal news → AllGo olds news
  requires events place [] refusal news (is, none) = all_is [] news none
  requires events place (old ∷ olds) refusal news (new, others, reply, split, tried, follows) =
      subst (AllGo (old ∷ olds)) (sym split) (tries (events place) old new reply tried, follow (λ more. requires events (suc place) olds refusal others more) reply follows)
    where
      follow : (Requires Puts events (suc place) olds refusal others → AllGo olds others) → (reply : Result (Unit {0}) FaceRefused) → Follows Puts reply place refusal olds others (Requires Puts events (suc place) olds refusal others) → AllGo olds others
      follow go (Ok done) more = go more
      follow go (Err cause) (is, same) = all_is olds others same

  offers : (events : ℕ → List Content) (place : ℕ) (olds news : List F) → Offers Puts events place olds news → AllGo olds news
  offers events place [] news none = all_is [] news none
  offers events place (old ∷ olds) news (new, others, reply, split, tried, follows) = subst (AllGo (old ∷ olds)) (sym split) (tries (events place) old new reply tried, offers events (suc place) olds others follows)

  ends : (refusal : Option Refusal) (optional : ℕ → List Content) (olds news : List F) → Ends Puts refusal optional olds news → AllGo olds news
  ends None optional olds news offered = offers optional 0 olds news offered
  ends (Some refusal) optional olds news same = all_is olds news same

  gives : (selector : Selector) (events : List Content) (olds news : List F) (verdict : Verdict) → Gives Puts selector events olds news verdict → AllGo olds news
  gives selector events olds news verdict (refusal, (between, first, last), is) =
      all_then olds between news (requires (events_for (required selector) events) 0 olds refusal between first) (ends refusal (events_for (optional selector) events) between news last)

  judges : (selector : Selector) (made : Result (List Content) Stopped) (olds news : List F) (verdict : Verdict) → Judges Puts selector made olds news verdict → AllGo olds news
  judges selector (Ok events) olds news verdict (inl given) = gives selector events olds news verdict given
  judges selector (Ok events) olds news verdict (inr (is, same)) = all_is olds news same
  judges selector (Err (stop.TooLarge size)) olds news verdict (is, same) = all_is olds news same
  judges selector (Err stop.NoMemory) olds news verdict (is, same) = all_is olds news same

  module _ {B : Type 0} (Means : Meaning B) (selector : Selector) (host : HostNames) where
    accepts : (moment : ℕ) (a b : Route F B) (batch : List Content) (verdict : Verdict) → Accepts Puts selector Means moment host a batch verdict b → AllGo a.ports b.ports
    accepts moment a b batch verdict (made, passed, judged) = judges selector made a.ports b.ports verdict judged

    abbrev IntoGoes : Into F B → Into F B → Type 0
    IntoGoes a b = AllGo a.route.ports b.route.ports

    into_same : (a b : Into F B) → b ≡ a → IntoGoes a b
    into_same a b same = subst (IntoGoes a) (sym same) (all_same a.route.ports)

    into_then : (a b c : Into F B) → IntoGoes a b → IntoGoes b c → IntoGoes a c
    into_then a b c f g = all_then a.route.ports b.route.ports c.route.ports f g

    lines : (a b : Into F B) (done : List Judged) → TakesAll (TakesLine Puts selector Means host) a done b → IntoGoes a b
    lines a b [] same = into_same a b same
    lines a b (j ∷ done) (next, inl (moment, is, taken), rest) = into_then a next b (accepts moment a.route next.route (event_of j.line ∷ []) j.verdict taken) (lines next b done rest)
    lines a b (j ∷ done) (next, inr (is, same), rest) = into_then a next b (into_same a next same) (lines next b done rest)

    abbrev Batch : Into F B → List Content → Verdict → Into F B → Type 0
    Batch = TakesBatch Puts selector Means host

    exchanges : (greeted after : Bool) (a b : Into F B) (done : List Exchange) → Exchanges Batch greeted a done after b → IntoGoes a b
    exchanges greeted after a b [] (is, same) = into_same a b same
    exchanges greeted after a b (x ∷ done) (next, state, (Reply bytes, answers, (none, is, same)), rest) = into_then a state b (into_same a state same) (exchanges next after state b done rest)
    exchanges greeted after a b (x ∷ done) (next, state, (Events front batch, answers, (verdict, status, is, (moment, gave, taken), said, reply)), rest) =
        into_then a state b (accepts moment a.route state.route batch verdict taken) (exchanges next after state b done rest)

    avro_ends : (end : AvroEnd) (greeted : Bool) (a b : Into F B) (done : List Exchange) (rest sent : List ℕ) → EndsBy Batch end greeted a b done rest sent → IntoGoes a b
    avro_ends avro.End greeted a b done rest sent is = into_same a b is.0
    avro_ends avro.Stopped greeted a b done rest sent is = into_same a b is.0
    avro_ends avro.LinkFault greeted a b done rest sent is = into_same a b is.0
    avro_ends avro.Turns greeted a b done rest sent is = into_same a b is.0
    avro_ends (avro.TooMany n) greeted a b done rest sent is = into_same a b is.0
    avro_ends (avro.TooLarge n) greeted a b done rest sent is = into_same a b is.0
    avro_ends (avro.BadHandshake at) greeted a b done rest sent is = into_same a b is.0
    avro_ends avro.OtherProtocol greeted a b done rest sent is = into_same a b is.0
    avro_ends avro.NoMemory greeted a b done rest sent (is, inl same) = into_same a b same
    avro_ends avro.NoMemory greeted a b done rest sent (is, inr next) = let n = next_of rest _ next in accepts n.is.4.0 a.route b.route n.is.2 verdicts.NoMemory n.is.4.2

    session : (rules : SessionRules) (a b : Into F B) (told now : Option LinkTold) (end : LinkEnd) → Session rules Puts selector Means host a told end b now → IntoGoes a b
    session (Lines rules) a b told now (ended.Lines end) (inl served) = lines a b served.done served.takes
    session (Lines rules) a b told now (ended.Lines end) (inr (is, kept, same)) = into_same a b same
    session (Lines rules) a b told now (ended.Avro end) none = absurd none
    session Avro a b told now (ended.Lines end) none = absurd none
    session Avro a b told now (ended.Avro end) (inl served) =
        into_then a served.between b (exchanges false served.after a served.between served.done served.exchanged) (avro_ends end served.after served.between b served.done served.rest served.sent served.ends)
    session Avro a b told now (ended.Avro end) (inr (is, kept, same)) = into_same a b same

    module _ (on_disk : F → Type 0) (rules : SessionRules) where
      abbrev Serves : Into F B → Option LinkTold → LinkEnd → Into F B → Option LinkTold → Type 0
      Serves = Session rules Puts selector Means host

      abbrev Mend : F → Answer → F → Type 0
      Mend = MendsPort (λ p. AreOwned (pass p).view) saw (λ p. length (pass p).view.seen) kept on_disk

      finds : (found : Found) (a b : Serving (Into F B)) → Finds Serves found a b → IntoGoes a.into b.into
      finds (Ok (Some end)) a b (now, links, served) = session rules a.into b.into (fresh_from a.heard.links) now end served
      finds (Ok None) a b (links, same, rose) = into_same a.into b.into same
      finds (Err failed) a b (links, same) = into_same a.into b.into same

      mends_each : (olds : List F) (answers : List Answer) (news : List F) → MendsEach Mend olds answers news → AllGo olds news
      mends_each [] [] [] all = tt
      mends_each [] [] (new ∷ news) all = absurd all
      mends_each [] (answer ∷ answers) news all = absurd all
      mends_each (old ∷ olds) [] news all = absurd all
      mends_each (old ∷ olds) (answer ∷ answers) [] all = absurd all
      mends_each (old ∷ olds) (answer ∷ answers) (new ∷ news) all = (
        goes_face pass saw kept face old new all.0.same _ all.0.calls (λ tells more run is it. mend_over (state_seen (pass new).view) (on_disk old) (saw new) _ answer (owned (pass old).view) more it),
        mends_each olds answers news all.1,
      )

      mends_if : (due : Bool) (a : Into F B) (answers : List Answer) (b : Into F B) → Listens.MendsIf Serves (MendsInto Mend) due a answers b → IntoGoes a b
      mends_if true a answers b (moments, links, all) = mends_each a.route.ports answers b.route.ports all
      mends_if false a answers b (none, same) = into_same a b same

      rounds : (made : List Round) (a b : Serving (Into F B)) → Listens.Rounds Serves (MendsInto Mend) made a b → IntoGoes a.into b.into
      rounds [] a b same = subst (λ (x : Serving (Into F B)). IntoGoes a.into x.into) (sym same) (all_same a.into.route.ports)
      rounds (round ∷ made) a b (next, one, rest) =
          into_then a.into next.into b.into
          (into_then a.into one.between.into next.into (finds round.found a one.between one.serves.finds) (mends_if (is_due a.due round.found) one.between.into round.mends next.into one.mends)) (rounds made next b rest)

  -- a batch over several ports leaves no transaction of theirs open where none was before
  pub batches_over : {B : Type 0} (Means : Meaning B) → BatchesAreOver pass saw kept Means
  batches_over Means selector host moment old new batch verdict accepted = all_stay old.ports new.ports (accepts Means selector host moment old new batch verdict accepted)

  -- the rounds of a listener leave no transaction of its ports open where none was before
  pub listens_over : (on_disk : F → Type 0) {B : Type 0} (Means : Meaning B) → ListensAreOver pass saw kept on_disk Means
  listens_over on_disk Means rules selector host made old new ran = all_stay old.into.route.ports new.into.route.ports (rounds Means selector host on_disk rules made old new ran)

-- What never changes of ports while a source puts batches through them and mends them.
use Rattle.std.proofs.Common.{◌≡◌, inl, inr, ℕ, suc, List, [], ◌∷◌, Bool, true, false, Option, Some, None, Result, Ok, Err, sym, subst}
use Rattle.event_core.specs.Content.{Content}
use Rattle.channel_face.specs.declared.replies.FaceRefused.{FaceRefused}
use Rattle.flume_host.specs.Links.{LinkTold}
use Rattle.selectors.specs.Choices.{required, optional}
use Rattle.selectors.specs.declared.selector.Selector.{Selector}
use Rattle.source_put.specs.Accepts.{Judges, events_for}
use Rattle.source_put.specs.Chains.{Meaning}
use Rattle.source_put.specs.Into.{Into}
use Rattle.source_put.specs.Routes.{Accepts, Route}
use Rattle.source_put.specs.Tries.{Ends, Follows, Giving, Offers, Requires, Tries}
use Rattle.source_put.specs.declared.chain.HostNames.{HostNames}
use Rattle.source_put.specs.declared.chain.Stopped.{Stopped}
use Rattle.source_put.specs.declared.chain.Stopped.TheVariants as stop
use Rattle.source_put.specs.declared.put.Refusal.{Refusal}
use Rattle.source_put.specs.declared.intake.Verdict.{Verdict}
use Rattle.source_put.specs.declared.intake.Verdict.TheVariants as verdicts
use Rattle.netcat_source.specs.Into.{TakesAll, TakesLine}
use Rattle.netcat_source.specs.Judged.{Judged, event_of}
use Rattle.avro_hop.specs.declared.hop.Asked.TheVariants.{Reply, Events}
use Rattle.avro_ends.specs.Exchanges.{Exchange, Exchanged, Exchanges, TakesBatch}
use Rattle.avro_ends.specs.Sessions.{EndsBy}
use Rattle.avro_ends.specs.declared.session.AvroEnd.{AvroEnd}
use Rattle.avro_ends.specs.declared.session.AvroEnd.TheVariants as avro
use Rattle.source_worker.specs.Rounds.{Answer, Finds, Found, Makes, MendsEach, MendsIf, MendsInto, Round, Rounds, Serves, Serving, Session, is_due}
use Rattle.source_worker.specs.declared.ends.LinkEnd.{LinkEnd}
use Rattle.source_worker.specs.declared.ends.LinkEnd.TheVariants as ended
use Rattle.source_worker.specs.declared.ends.SessionRules.{SessionRules}
use Rattle.source_worker.specs.declared.ends.SessionRules.TheVariants.{Lines, Avro}
use Rattle.source_worker.proofs.Nexts.{next_of}
use Rattle.run_tracks.specs.Places.{Zips}

module _ {F : Type 0} (R : F → F → Type 0) (self : (p : F) → R p p) (trans : (p q r : F) → R p q → R q r → R p r) where
  abbrev pub AllStay : List F → List F → Type 0
  AllStay ps qs = Zips R ps qs

  stay_self : (ps : List F) → AllStay ps ps
  stay_self [] = tt
  stay_self (p ∷ ps) = (self p, stay_self ps)

  stay_same : (ps qs : List F) → qs ≡ ps → AllStay ps qs
  stay_same ps qs same = subst (λ (l : List F). AllStay ps l) (sym same) (stay_self ps)

  -- one step after the other
  pub stay_then : (ps qs rs : List F) → AllStay ps qs → AllStay qs rs → AllStay ps rs
  stay_then [] [] rs f g = g
  stay_then [] (q ∷ qs) rs f g = absurd f
  stay_then (p ∷ ps) [] rs f g = absurd f
  stay_then (p ∷ ps) (q ∷ qs) [] f g = absurd g
  stay_then (p ∷ ps) (q ∷ qs) (r ∷ rs) f g = (trans p q r f.0 g.0, stay_then ps qs rs f.1 g.1)

  module _ (Put : Giving F) (put : (p q : F) (events : List Content) (result : Result ℕ FaceRefused) → Put p q events result → R p q) where
    tries_stay : (events : List Content) (p q : F) (reply : Result (Unit {0}) FaceRefused) → Tries Put events p q reply → R p q
    tries_stay [] p q reply (is, same) = subst (λ (x : F). R p x) (sym same) (self p)
    tries_stay (event ∷ events) p q reply (result, given, is) = put p q (event ∷ events) result given

    requires_stay : (events : ℕ → List Content) (place : ℕ) (olds : List F) (refusal : Option Refusal) (news : List F) → Requires Put events place olds refusal news → AllStay olds news
    requires_stay events place [] refusal news (is, none) = stay_same [] news none
    requires_stay events place (old ∷ olds) refusal news (new, others, reply, split, tried, follows) =
        subst (λ (l : List F). AllStay (old ∷ olds) l) (sym split) (tries_stay (events place) old new reply tried, follow (λ more. requires_stay events (suc place) olds refusal others more) reply follows)
      where
        follow : (Requires Put events (suc place) olds refusal others → AllStay olds others) → (reply : Result (Unit {0}) FaceRefused) → Follows Put reply place refusal olds others (Requires Put events (suc place) olds refusal others) → AllStay olds others
        follow go (Ok done) more = go more
        follow go (Err cause) (is, same) = stay_same olds others same

    offers_stay : (events : ℕ → List Content) (place : ℕ) (olds news : List F) → Offers Put events place olds news → AllStay olds news
    offers_stay events place [] news none = stay_same [] news none
    offers_stay events place (old ∷ olds) news (new, others, reply, split, tried, follows) =
        subst (λ (l : List F). AllStay (old ∷ olds) l) (sym split) (tries_stay (events place) old new reply tried, offers_stay events (suc place) olds others follows)

    ends_stay : (refusal : Option Refusal) (optional : ℕ → List Content) (old new : List F) → Ends Put refusal optional old new → AllStay old new
    ends_stay None optional old new offered = offers_stay optional 0 old new offered
    ends_stay (Some refusal) optional old new same = stay_same old new same

    judges_stay : (selector : Selector) (made : Result (List Content) Stopped) (old new : List F) (verdict : Verdict) → Judges Put selector made old new verdict → AllStay old new
    judges_stay selector (Ok events) old new verdict (inl (refusal, (between, first, last), is)) =
        stay_then old between new (requires_stay (events_for (required selector) events) 0 old refusal between first) (ends_stay refusal (events_for (optional selector) events) between new last)
    judges_stay selector (Ok events) old new verdict (inr (is, same)) = stay_same old new same
    judges_stay selector (Err (stop.TooLarge size)) old new verdict (is, same) = stay_same old new same
    judges_stay selector (Err stop.NoMemory) old new verdict (is, same) = stay_same old new same

    module _ {B : Type 0} (Means : Meaning B) (selector : Selector) (host : HostNames) where
      -- the ports are the same after a batch
      pub accepts_stay : (moment : ℕ) (a b : Route F B) (batch : List Content) (verdict : Verdict) → Accepts Put selector Means moment host a batch verdict b → AllStay a.ports b.ports
      accepts_stay moment a b batch verdict (made, passed, judged) = judges_stay selector made a.ports b.ports verdict judged

      abbrev pub Line : Into F B → List ℕ → Verdict → Into F B → Type 0
      Line = TakesLine Put selector Means host

      -- nothing was done
      pub into_same : (a b : Into F B) → b ≡ a → AllStay a.route.ports b.route.ports
      into_same a b same = stay_same a.route.ports b.route.ports (λ i. (same i).route.ports)

      -- the ports are the same after a line
      pub line_stays : (a b : Into F B) (line : List ℕ) (verdict : Verdict) → Line a line verdict b → AllStay a.route.ports b.route.ports
      line_stays a b line verdict (inl (moment, next, accepted)) = accepts_stay moment a.route b.route (event_of line ∷ []) verdict accepted
      line_stays a b line verdict (inr (is, same)) = into_same a b same

      lines_stay : (done : List Judged) (a b : Into F B) → TakesAll Line a done b → AllStay a.route.ports b.route.ports
      lines_stay [] a b same = into_same a b same
      lines_stay (j ∷ done) a b (next, one, others) = stay_then a.route.ports next.route.ports b.route.ports (line_stays a next j.line j.verdict one) (lines_stay done next b others)

      abbrev pub Batch : Into F B → List Content → Verdict → Into F B → Type 0
      Batch = TakesBatch Put selector Means host

      -- the ports are the same after a batch of an Avro call
      pub batch_stays : (a b : Into F B) (batch : List Content) (verdict : Verdict) → Batch a batch verdict b → AllStay a.route.ports b.route.ports
      batch_stays a b batch verdict (moment, next, accepted) = accepts_stay moment a.route b.route batch verdict accepted

      exchange_stays : (greeted after : Bool) (x : Exchange) (a b : Into F B) → Exchanged Batch greeted a x after b → AllStay a.route.ports b.route.ports
      exchange_stays greeted after x a b (Reply bytes, answers, (none, is, same)) = into_same a b same
      exchange_stays greeted after x a b (Events front batch, answers, (verdict, status, is, taken, said, reply)) = batch_stays a b batch verdict taken

      exchanges_stay : (greeted after : Bool) (done : List Exchange) (a b : Into F B) → Exchanges Batch greeted a done after b → AllStay a.route.ports b.route.ports
      exchanges_stay greeted after [] a b (is, same) = into_same a b same
      exchanges_stay greeted after (x ∷ done) a b (next, state, one, others) =
          stay_then a.route.ports state.route.ports b.route.ports (exchange_stays greeted next x a state one) (exchanges_stay next after done state b others)

      avro_end_stays : (end : AvroEnd) (greeted : Bool) (a b : Into F B) (done : List Exchange) (rest sent : List ℕ) → EndsBy Batch end greeted a b done rest sent → AllStay a.route.ports b.route.ports
      avro_end_stays avro.End greeted a b done rest sent is = into_same a b is.0
      avro_end_stays avro.Stopped greeted a b done rest sent is = into_same a b is.0
      avro_end_stays avro.LinkFault greeted a b done rest sent is = into_same a b is.0
      avro_end_stays avro.Turns greeted a b done rest sent is = into_same a b is.0
      avro_end_stays (avro.TooMany n) greeted a b done rest sent is = into_same a b is.0
      avro_end_stays (avro.TooLarge n) greeted a b done rest sent is = into_same a b is.0
      avro_end_stays (avro.BadHandshake at) greeted a b done rest sent is = into_same a b is.0
      avro_end_stays avro.OtherProtocol greeted a b done rest sent is = into_same a b is.0
      avro_end_stays avro.NoMemory greeted a b done rest sent (is, inl same) = into_same a b same
      avro_end_stays avro.NoMemory greeted a b done rest sent (is, inr next) = let n = next_of rest _ next in batch_stays a b n.is.2 verdicts.NoMemory n.is.4

      session_stays : (rules : SessionRules) (a b : Into F B) (told now : Option LinkTold) (end : LinkEnd) → Session rules Put selector Means host a told end b now → AllStay a.route.ports b.route.ports
      session_stays (Lines rules) a b told now (ended.Lines end) (inl served) = lines_stay served.done a b served.takes
      session_stays (Lines rules) a b told now (ended.Lines end) (inr (is, kept, same)) = into_same a b same
      session_stays (Lines rules) a b told now (ended.Avro end) none = absurd none
      session_stays Avro a b told now (ended.Lines end) none = absurd none
      session_stays Avro a b told now (ended.Avro end) (inl served) =
          stay_then a.route.ports served.between.route.ports b.route.ports (exchanges_stay false served.after served.done a served.between served.exchanged)
          (avro_end_stays end served.after served.between b served.done served.rest served.sent served.ends)
      session_stays Avro a b told now (ended.Avro end) (inr (is, kept, same)) = into_same a b same

      module _ (rules : SessionRules) where
        finds_stay : (found : Found) (a b : Serving (Into F B)) → Finds (Session rules Put selector Means host) found a b → AllStay a.into.route.ports b.into.route.ports
        finds_stay (Ok (Some end)) a b (now, kept, one) = session_stays rules a.into b.into _ now end one
        finds_stay (Ok None) a b (gave, same, waited) = into_same a.into b.into same
        finds_stay (Err failed) a b (links, same) = into_same a.into b.into same

        -- the ports are the same after an accept with its session
        pub serves_stay : (found : Found) (a b : Serving (Into F B)) → Serves (Session rules Put selector Means host) found a b → AllStay a.into.route.ports b.into.route.ports
        serves_stay found a b one = finds_stay found a b one.finds

        module _ (Mend : F → Answer → F → Type 0) (mend : (p q : F) (answer : Answer) → Mend p answer q → R p q) where
          each_stays : (olds : List F) (answers : List Answer) (news : List F) → MendsEach Mend olds answers news → AllStay olds news
          each_stays [] [] [] none = tt
          each_stays [] [] (q ∷ news) none = absurd none
          each_stays [] (answer ∷ answers) news none = absurd none
          each_stays (p ∷ olds) [] news none = absurd none
          each_stays (p ∷ olds) (answer ∷ answers) [] none = absurd none
          each_stays (p ∷ olds) (answer ∷ answers) (q ∷ news) (one, others) = (mend p q answer one, each_stays olds answers news others)

          mends_stay : (due : Bool) (a b : Into F B) (answers : List Answer) → MendsIf (Session rules Put selector Means host) (MendsInto Mend) due a answers b → AllStay a.route.ports b.route.ports
          mends_stay true a b answers (moments, links, each) = each_stays a.route.ports answers b.route.ports each
          mends_stay false a b answers (none, same) = into_same a b same

          -- the ports are the same after a round
          pub makes_stay : (round : Round) (a b : Serving (Into F B)) → Makes (Session rules Put selector Means host) (MendsInto Mend) round a b → AllStay a.into.route.ports b.into.route.ports
          makes_stay round a b one =
              stay_then a.into.route.ports one.between.into.route.ports b.into.route.ports (serves_stay round.found a one.between one.serves) (mends_stay (is_due a.due round.found) one.between.into b.into round.mends one.mends)

          -- and after rounds
          pub rounds_stay : (rounds : List Round) (a b : Serving (Into F B)) → Rounds (Session rules Put selector Means host) (MendsInto Mend) rounds a b → AllStay a.into.route.ports b.into.route.ports
          rounds_stay [] a b same = stay_same a.into.route.ports b.into.route.ports (λ i. (same i).into.route.ports)
          rounds_stay (round ∷ rounds) a b (next, one, others) = stay_then a.into.route.ports next.into.route.ports b.into.route.ports (makes_stay round a next one) (rounds_stay rounds next b others)

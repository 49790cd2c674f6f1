-- A request, its reply, and its link.
use Rattle.std.proofs.Common.{◌≡◌, ℕ, ◌+◌, Bool, true, false, List, [], ◌∷◌, length, length-append, take, Option, Some, None, Result, Ok, Err, refl, sym, subst, arith, inl, inr, append-nil}
use Rattle.std.specs.Prelude.{if◌then◌else◌, ◌&&◌, ◌==◌}
use Rattle.std.proofs.lemmas.List.{take_all}
use Rattle.flume_host.specs.Told.{Tells}
use Rattle.flume_host.specs.Links.{BreaksOff, LinkTold, Talks, TalksTo, Waited}
use Rattle.flume_host.specs.Listens.{LinksTold, IsSettled, gave_one, refused_link, kept_in}
use Rattle.flume_host.proofs.Talking.{failed_behind, talks_to, waited_then}
use Rattle.hop_attempt.specs.declared.attempt.Decision.{Decision}
use Rattle.hop_attempt.specs.declared.attempt.Decision.TheVariants.{Commit, Rollback}
use Rattle.avro_frame.specs.declared.packs.Message.{Message}
use Rattle.avro_frame.specs.Pack.{InHead}
use Rattle.avro_hop.specs.declared.respond.Status.{Status}
use Rattle.avro_hop.specs.declared.respond.Status.TheVariants as says
use Rattle.avro_hop.specs.Calls.{status_index}
use Rattle.avro_ends.specs.declared.refused.DeliverRefused.{DeliverRefused}
use Rattle.avro_ends.specs.declared.refused.DeliverRefused.TheVariants.{LinkFault, Ended, Silent, Refused, WrongSerial, BadReply, Turns, NoMemory}
use Rattle.avro_ends.specs.Hearing.{Heard, HeardFor, HearsReply, finds}
use Rattle.avro_ends.specs.Deliveries.{Judges, AnswersBy, Ends, Answered, Exchanged, IsOut, found_by}

-- ---- the dialer's links

-- once the link that is out goes back, the dialer has all back
pub settled_back : (told : Option LinksTold) (now : Option LinkTold) → IsOut told → IsSettled (kept_in told now)
settled_back None now out = tt
settled_back (Some l) None out = tt
settled_back (Some l) (Some t) out = omega (arith, out, length-append l.kept (t ∷ []))

-- a dialer that had all back and made no link still has all back
pub settled_refused : (told : Option LinksTold) → IsSettled told → IsSettled (refused_link told)
settled_refused None is = tt
settled_refused (Some l) is = is

-- a dialer that had all back and gave a link has one out
pub dialled_out : (told : Option LinksTold) → IsSettled told → IsOut (gave_one told)
dialled_out None is = tt
dialled_out (Some l) is = omega (arith, is)

-- ---- what a reply says

abbrev decided : Bool → Status → Decision
decided same s = if same && (status_index s == 0) then Commit else Rollback

-- a delivery is committed only for the status OK
pub commits : (same : Bool) (s : Status) → decided same s ≡ Commit → s ≡ says.Ok
commits true says.Ok e = refl
commits true says.Failed e = absurd cc
commits true says.Unknown e = absurd cc
commits false s e = absurd cc

-- where the serial is the one that was asked for, a rollback is for a status other than OK
pub rolls : (same : Bool) (s : Status) → same ≡ true → decided same s ≡ Rollback → s ≡ says.Ok → ⊥
rolls true says.Ok is e ok = cc
rolls true says.Failed is e ok = cc
rolls true says.Unknown is e ok = cc
rolls false s is e ok = cc

-- ---- the reply

judged_lasts : (first : Bool) (want serial : ℕ) (payload : List ℕ) (e : DeliverRefused) (turns quiets : ℕ) → Judges first want serial payload (Err e) → HeardFor LinkFault turns quiets → HeardFor e turns quiets
judged_lasts first want serial payload (WrongSerial got asked) turns quiets j l = l
judged_lasts first want serial payload (BadReply at) turns quiets j l = l
judged_lasts first want serial payload (Refused status) turns quiets j l = l
judged_lasts first want serial payload LinkFault turns quiets j l = l
judged_lasts first want serial payload Ended turns quiets j l = l
judged_lasts first want serial payload Silent turns quiets j l = absurd j
judged_lasts first want serial payload Turns turns quiets j l = absurd j
judged_lasts first want serial payload NoMemory turns quiets j l = l

judged_finds : (first : Bool) (want serial : ℕ) (payload : List ℕ) (e : DeliverRefused) → Judges first want serial payload (Err e) → 0 ≡ finds e
judged_finds first want serial payload (WrongSerial got asked) j = refl
judged_finds first want serial payload (BadReply at) j = refl
judged_finds first want serial payload (Refused status) j = refl
judged_finds first want serial payload LinkFault j = refl
judged_finds first want serial payload Ended j = absurd j
judged_finds first want serial payload Silent j = refl
judged_finds first want serial payload Turns j = refl
judged_finds first want serial payload NoMemory j = refl

-- a reply that was heard and says OK answers the request
pub answered_ok : (first : Bool) (want : ℕ) (message : Message) (more : Bool) (a b : Option LinkTold) → HearsReply (Ok (message, more)) a b → Judges first want message.serial message.payload.items (Ok tt) → Answered first want (Ok more) a b
answered_ok first want message more a b (given, turns, quiets, heard, few, less, cut) judged = record {
  given = given;
  turns = turns;
  quiets = quiets;
  heard = heard;
  count = (few, less);
  ends = record { serial = message.serial; payload = message.payload.items; cut = cut; judged = judged };
}

-- a reply that was heard and refuses answers the request with its cause
pub answered_err : (first : Bool) (want : ℕ) (message : Message) (more : Bool) (e : DeliverRefused) (a b : Option LinkTold) → HearsReply (Ok (message, more)) a b → Judges first want message.serial message.payload.items (Err e) → Answered first want (Err e) a b
answered_err first want message more e a b (given, turns, quiets, heard, few, less, cut) judged = record {
  given = given;
  turns = turns;
  quiets = quiets;
  heard = subst (λ (found : ℕ). Heard found given turns quiets a b) (judged_finds first want message.serial message.payload.items e judged) heard;
  count = judged_lasts first want message.serial message.payload.items e turns quiets judged (few, less);
  ends = inl (more, record { serial = message.serial; payload = message.payload.items; cut = cut; judged = judged });
}

-- a reply that was not heard leaves the request without one
pub unanswered : (first : Bool) (want : ℕ) (e : DeliverRefused) (a b : Option LinkTold) → HearsReply (Err e) a b → Answered first want (Err e) a b
unanswered first want e a b (given, turns, quiets, heard, lasts, unheard) = record { given = given; turns = turns; quiets = quiets; heard = heard; count = lasts; ends = inr unheard }

-- ---- the request, and then its reply

whole : (bytes : List ℕ) → bytes ≡ take (length bytes) bytes
whole bytes = sym (take_all (length bytes) bytes (omega arith))

ends_of : (first : Bool) (want : ℕ) (request : List ℕ) (result : Result Bool DeliverRefused) (given : List ℕ) (a b c : Option LinkTold) → Tells a b (Talks [] request 0) → AnswersBy first want result given b c → Ends first want request result request given a c
ends_of first want request (Ok more) given a b c waited is = (refl, is)
ends_of first want request (Err LinkFault) given a b c waited is =
    elim is [
      | inl j ↦ absurd j.1.judged
      | inr u ↦ ((length request, whole request), u.0, failed_behind a b c [] request 0 waited u.1)
    ]
ends_of first want request (Err Ended) given a b c waited is = (refl, elim is [ inl j ↦ inl j | inr u ↦ inr (u) ])
ends_of first want request (Err Silent) given a b c waited is = (refl, elim is [ inl j ↦ inl j | inr u ↦ inr u ])
ends_of first want request (Err Turns) given a b c waited is = (refl, elim is [ inl j ↦ inl j | inr u ↦ inr u ])
ends_of first want request (Err NoMemory) given a b c waited is = (refl, elim is [ inl j ↦ inl j | inr u ↦ inr u ])
ends_of first want request (Err (Refused status)) given a b c waited is = (refl, elim is [ inl j ↦ inl j | inr u ↦ inr u ])
ends_of first want request (Err (WrongSerial got asked)) given a b c waited is = (refl, elim is [ inl j ↦ inl j | inr u ↦ inr u ])
ends_of first want request (Err (BadReply at)) given a b c waited is = (refl, elim is [ inl j ↦ inl j | inr u ↦ inr u ])

-- a request that was sent whole, and then what was answered, is an exchange
pub exchanged_by : (first : Bool) (want : ℕ) (request : List ℕ) (result : Result Bool DeliverRefused) (a b c : Option LinkTold) → Tells a b (Talks [] request 0) → Tells a b (Waited 0) → Answered first want result b c → Exchanged request first want result a c
exchanged_by first want request result a b c talk waited is =
    let turns : 0 + is.turns ≡ is.turns = omega arith in
    let quiets : 0 + is.quiets ≡ is.quiets = omega arith in
    record {
      sent = request;
      given = is.given;
      turns = is.turns;
      quiets = is.quiets;
      talk = subst (λ (n : ℕ). Tells a c (TalksTo (found_by result) is.given request n)) turns (subst (λ (t : List ℕ). Tells a c (TalksTo (found_by result) is.given t (0 + is.turns))) (append-nil request) (talks_to (found_by result) a b c [] request is.given [] 0 is.turns talk is.heard.talk));
      waited = subst (λ (n : ℕ). Tells a c (Waited n)) quiets (waited_then a b c 0 is.quiets waited is.heard.waited);
      count = is.count;
      ends = ends_of first want request result is.given a b c talk is.ends;
    }

-- a request that broke off is an exchange that ended in a fault of the link
pub exchange_failed : (first : Bool) (want : ℕ) (request : List ℕ) (a b : Option LinkTold) → BreaksOff request a b → Tells a b (Waited 0) → Exchanged request first want (Err LinkFault) a b
exchange_failed first want request a b off waited = record {
  sent = take off.count request;
  given = [];
  turns = 0;
  quiets = 0;
  talk = off.talk;
  waited = waited;
  count = (omega arith, omega arith);
  ends = ((off.count, refl), InHead (omega arith), off.failed);
}

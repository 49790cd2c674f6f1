-- What one message does to a session.
use Rattle.std.proofs.Common.{◌≡◌, ◌∙◌, inl, inr, ℕ, Bool, List, [], ◌∷◌, ◌++◌, take, Option, Some, None, Result, Ok, Err, refl, sym, ap, subst, append_assoc, append-nil}
use Rattle.std.specs.declared.vec.Vec.{Vec}
use Rattle.std.specs.declared.alloc.Global.{Global}
use Rattle.event_core.specs.Content.{Content}
use Rattle.flume_host.specs.Told.{Tells}
use Rattle.flume_host.specs.Links.{BreaksOff, LinkTold, Talks, TalksTo}
use Rattle.flume_host.proofs.Talking.{talks_none}
use Rattle.source_put.specs.declared.intake.Verdict.{Verdict}
use Rattle.avro_frame.specs.Pack.{IsPack, PassesCount, PassesSize, pack}
use Rattle.avro_hop.specs.declared.hop.Asked.TheVariants.{Reply, Events}
use Rattle.avro_hop.specs.declared.respond.Status.{Status}
use Rattle.avro_hop.specs.Calls.{response}
use Rattle.avro_hop.specs.Dialogue.{Answers}
use Rattle.avro_ends.specs.Exchanges.{Exchange, Exchanged, ArePacks}
use Rattle.avro_ends.specs.Messages.{IsTaken, ServesEvents, ServesMessage}
use Rattle.avro_ends.specs.Sessions.{Goes, Breaks, EndsBy, LeavesLink, finds}
use Rattle.avro_ends.specs.declared.session.AvroEnd.{AvroEnd}
use Rattle.avro_ends.specs.declared.session.AvroEnd.TheVariants.{End, Stopped, LinkFault, Turns, TooMany, TooLarge, BadHandshake, OtherProtocol, NoMemory}

-- the same bytes were sent
pub sent_as : (told now : Option LinkTold) (a b : List ℕ) → a ≡ b → Tells told now (Talks [] a 0) → Tells told now (Talks [] b 0)
sent_as told now a b same talk = let P : List ℕ → Type 0 = λ l. Tells told now (Talks [] l 0) in subst P same talk

-- a write of the same bytes failed
pub breaks_as : (told now : Option LinkTold) (a b : List ℕ) → a ≡ b → BreaksOff a told now → BreaksOff b told now
breaks_as told now a b same off = let P : List ℕ → Type 0 = λ l. BreaksOff l told now in subst P same off

-- a link of which nothing was asked gave and took nothing
pub still : (told now : Option LinkTold) → now ≡ told → Tells told now (Talks [] [] 0)
still told now same = let P : Option LinkTold → Type 0 = λ o. Tells told o (Talks [] [] 0) in subst P (sym same) (talks_none told)

module _ {S : Type 0} (Takes : S → List Content → Verdict → S → Type 0) where
  -- a batch that was taken is answered with the status of its verdict
  pub took : (old new : S) (greeted after : Bool) (serial : ℕ) (payload : List ℕ) (front : Vec ℕ Global) (batch : List Content) (verdict : Verdict) (status : Status) → Answers greeted payload (Ok (Events front batch)) after → IsTaken Takes old new front.items batch verdict status
      → Exchanged Takes greeted old (record { serial = serial; payload = payload; verdict = Some verdict; reply = front.items ++ response status }) after new
  took old new greeted after serial payload front batch verdict status answers (takes, is) = (Events front batch, answers, (verdict, status, refl, takes, is, refl))

  -- a message that the hop answers itself changes nothing
  pub replied : (old : S) (greeted after : Bool) (serial : ℕ) (payload : List ℕ) (bytes : Vec ℕ Global) → Answers greeted payload (Ok (Reply bytes)) after → Exchanged Takes greeted old (record { serial = serial; payload = payload; verdict = None; reply = bytes.items }) after old
  replied old greeted after serial payload bytes answers = (Reply bytes, answers, (refl, refl, refl))

  -- how a call of events is served is how its message is
  pub events_serve : (old new : S) (told now : Option LinkTold) (greeted after : Bool) (serial : ℕ) (payload : List ℕ) (front : Vec ℕ Global) (batch : List Content) (result : Result (Unit {0}) AvroEnd) → Answers greeted payload (Ok (Events front batch)) after
      → ServesEvents Takes old new told now serial front.items batch result → ServesMessage Takes old new told now greeted after serial payload result
  events_serve old new told now greeted after serial payload front batch (Ok done) answers (verdict, status, taken, talk) = (Some verdict, front.items ++ response status, took old new greeted after serial payload front batch verdict status answers taken, talk)
  events_serve old new told now greeted after serial payload front batch (Err LinkFault) answers (verdict, status, taken, off) = (Some verdict, front.items ++ response status, took old new greeted after serial payload front batch verdict status answers taken, off)
  events_serve old new told now greeted after serial payload front batch (Err NoMemory) answers (same, tried) = (same, elim tried [ inl none ↦ inl none | inr takes ↦ inr (front, batch, answers, takes) ])
  events_serve old new told now greeted after serial payload front batch (Err End) answers bad = absurd bad
  events_serve old new told now greeted after serial payload front batch (Err Stopped) answers bad = absurd bad
  events_serve old new told now greeted after serial payload front batch (Err Turns) answers bad = absurd bad
  events_serve old new told now greeted after serial payload front batch (Err (TooMany n)) answers bad = absurd bad
  events_serve old new told now greeted after serial payload front batch (Err (TooLarge n)) answers bad = absurd bad
  events_serve old new told now greeted after serial payload front batch (Err (BadHandshake at)) answers bad = absurd bad
  events_serve old new told now greeted after serial payload front batch (Err OtherProtocol) answers bad = absurd bad

  -- the same of a front that is given by its bytes
  pub events_serve_by : (old new : S) (told now : Option LinkTold) (greeted after : Bool) (serial : ℕ) (payload : List ℕ) (front : Vec ℕ Global) (batch : List Content) (result : Result (Unit {0}) AvroEnd) (bytes : List ℕ) → bytes ≡ front.items → Answers greeted payload (Ok (Events front batch)) after
      → ServesEvents Takes old new told now serial bytes batch result → ServesMessage Takes old new told now greeted after serial payload result
  events_serve_by old new told now greeted after serial payload front batch result bytes same answers serves =
      let P : List ℕ → Type 0 = λ l. ServesEvents Takes old new told now serial l batch result in
      events_serve old new told now greeted after serial payload front batch result answers (subst P same serves)

  one_pack : (first : List ℕ) (x : Exchange) → IsPack first x.serial x.payload → ArePacks first (x ∷ [])
  one_pack first x is = (first, [], sym (append-nil first), is, refl)

  -- the message of a whole pack was answered
  pub message_goes : (old new : S) (told now : Option LinkTold) (greeted after : Bool) (held bytes : List ℕ) (serial : ℕ) (payload : List ℕ) → IsPack (held ++ bytes) serial payload → ServesMessage Takes old new told now greeted after serial payload (Ok tt) → Goes Takes old new told now greeted after held bytes [] [] 0
  message_goes old new told now greeted after held bytes serial payload is (verdict, reply, exchanged, talk) = record {
    done = record { serial = serial; payload = payload; verdict = verdict; reply = reply } ∷ [];
    exchanged = (after, new, exchanged, (refl, refl));
    front = held ++ bytes;
    packs = one_pack (held ++ bytes) (record { serial = serial; payload = payload; verdict = verdict; reply = reply }) is;
    cut = sym (append-nil (held ++ bytes));
    talk = sent_as told now (pack serial (reply ∷ [])) (pack serial (reply ∷ []) ++ []) (sym (append-nil (pack serial (reply ∷ [])))) talk;
  }

  -- what was read ends within a pack
  pub part_goes : (old : S) (told : Option LinkTold) (greeted : Bool) (held bytes left : List ℕ) → held ++ bytes ≡ left → Goes Takes old old told told greeted greeted held bytes left [] 0
  part_goes old told greeted held bytes left cut = record { done = []; exchanged = (refl, refl); front = []; packs = refl; cut = cut; talk = talks_none told }

  -- nothing more was done
  none_breaks : (old new : S) (told now : Option LinkTold) (greeted : Bool) (held all rest : List ℕ) (end : AvroEnd) → 0 ≡ finds end → held ++ all ≡ rest → now ≡ told → EndsBy Takes end greeted old new [] rest [] → LeavesLink end told now → Breaks Takes old new told now greeted held all [] 0 end
  none_breaks old new told now greeted held all rest end none cut same ends leaves = record { done = []; after = greeted; between = old; exchanged = (refl, refl); front = []; packs = refl; rest = rest; cut = cut; sent = []; talk = subst (λ (found : ℕ). Tells told now (TalksTo found [] [] 0)) none (still told now same); ends = ends; leaves = leaves }

  -- a pack of too many buffers ends the session
  pub count_breaks : (old : S) (told : Option LinkTold) (greeted : Bool) (held all : List ℕ) (n : ℕ) → PassesCount (held ++ all) n → Breaks Takes old old told told greeted held all [] 0 (TooMany n)
  count_breaks old told greeted held all n passes = none_breaks old old told told greeted held all (held ++ all) (TooMany n) refl refl refl (refl, refl, passes) tt

  -- a pack that is too large ends the session
  pub size_breaks : (old : S) (told : Option LinkTold) (greeted : Bool) (held all : List ℕ) (n : ℕ) → PassesSize (held ++ all) n → Breaks Takes old old told told greeted held all [] 0 (TooLarge n)
  size_breaks old told greeted held all n passes = none_breaks old old told told greeted held all (held ++ all) (TooLarge n) refl refl refl (refl, refl, passes) tt

  -- when memory runs out the session ends with nothing more done
  pub memory_breaks : (old : S) (told : Option LinkTold) (greeted : Bool) (held all : List ℕ) → Breaks Takes old old told told greeted held all [] 0 NoMemory
  memory_breaks old told greeted held all = none_breaks old old told told greeted held all (held ++ all) NoMemory refl refl refl (refl, inl refl) tt

  -- the message of a whole pack ended the session
  pub message_breaks : (old new : S) (told now : Option LinkTold) (greeted after : Bool) (held bytes rest all : List ℕ) (serial : ℕ) (payload : List ℕ) → bytes ++ rest ≡ all → IsPack (held ++ bytes) serial payload → (end : AvroEnd) → ServesMessage Takes old new told now greeted after serial payload (Err end) → Breaks Takes old new told now greeted held all [] 0 end
  message_breaks old new told now greeted after held bytes rest all serial payload whole is LinkFault (verdict, reply, exchanged, off) = record {
    done = record { serial = serial; payload = payload; verdict = verdict; reply = reply } ∷ [];
    after = after;
    between = new;
    exchanged = (after, new, exchanged, (refl, refl));
    front = held ++ bytes;
    packs = one_pack (held ++ bytes) (record { serial = serial; payload = payload; verdict = verdict; reply = reply }) is;
    rest = rest;
    cut = behind held bytes rest all whole;
    sent = take off.count (pack serial (reply ∷ []));
    talk = off.talk;
    ends = (refl, inr (record { first = []; last = record { serial = serial; payload = payload; verdict = verdict; reply = reply }; split = refl; count = off.count; short = off.short; part = refl }));
    leaves = off.failed;
  }
    where
      behind : (held bytes rest all : List ℕ) → bytes ++ rest ≡ all → held ++ all ≡ (held ++ bytes) ++ rest
      behind held bytes rest all whole = ap (λ (l : List ℕ). held ++ l) (sym whole) ∙ sym (append_assoc held bytes rest)
  message_breaks old new told now greeted after held bytes rest all serial payload whole is NoMemory (same, tried) =
      none_breaks old new told now greeted held all ((held ++ bytes) ++ rest) NoMemory refl (ap (λ (l : List ℕ). held ++ l) (sym whole) ∙ sym (append_assoc held bytes rest)) same
      (refl, elim tried [ inl none ↦ inl none | inr takes ↦ inr (held ++ bytes, rest, serial, payload, refl, is, (after, takes.0, takes.1, takes.2, takes.3)) ]) tt
  message_breaks old new told now greeted after held bytes rest all serial payload whole is (BadHandshake at) (same, none, answers) =
      none_breaks old new told now greeted held all ((held ++ bytes) ++ rest) (BadHandshake at) refl (ap (λ (l : List ℕ). held ++ l) (sym whole) ∙ sym (append_assoc held bytes rest)) same (none, refl, (held ++ bytes, rest, serial, payload, refl, is, (after, answers))) tt
  message_breaks old new told now greeted after held bytes rest all serial payload whole is OtherProtocol (same, none, answers) =
      none_breaks old new told now greeted held all ((held ++ bytes) ++ rest) OtherProtocol refl (ap (λ (l : List ℕ). held ++ l) (sym whole) ∙ sym (append_assoc held bytes rest)) same (none, refl, (held ++ bytes, rest, serial, payload, refl, is, (after, answers))) tt
  message_breaks old new told now greeted after held bytes rest all serial payload whole is End bad = absurd bad
  message_breaks old new told now greeted after held bytes rest all serial payload whole is Stopped bad = absurd bad
  message_breaks old new told now greeted after held bytes rest all serial payload whole is Turns bad = absurd bad
  message_breaks old new told now greeted after held bytes rest all serial payload whole is (TooMany n) bad = absurd bad
  message_breaks old new told now greeted after held bytes rest all serial payload whole is (TooLarge n) bad = absurd bad

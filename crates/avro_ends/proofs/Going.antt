-- Parts of a session, one after another.
use Rattle.std.proofs.Common.{◌≡◌, ◌∙◌, inl, inr, ℕ, ◌+◌, ◌<◌, Bool, false, List, [], ◌∷◌, ◌++◌, take, Option, refl, sym, ap, subst, arith, append_assoc, append-nil}
use Rattle.std.proofs.lemmas.List.Concat.{flat_map-append}
use Rattle.event_core.specs.Content.{Content}
use Rattle.flume_host.specs.Told.{Tells}
use Rattle.flume_host.specs.Links.{LinkTold, Talks, TalksTo, most_turns}
use Rattle.flume_host.proofs.Talking.{failed_behind, talks_none, talks_then, talks_to}
use Rattle.source_put.specs.declared.intake.Verdict.{Verdict}
use Rattle.avro_frame.specs.Pack.{IsPart, pack}
use Rattle.avro_ends.specs.Exchanges.{Exchange, Exchanges, ArePacks, texts}
use Rattle.avro_ends.specs.Sessions.{Goes, Breaks, Served, EndsBy, EndsAfter, FailsInReply, LeavesLink, IsTurnsOf, finds}
use Rattle.avro_ends.specs.declared.session.AvroEnd.{AvroEnd}
use Rattle.avro_ends.specs.declared.session.AvroEnd.TheVariants.{End, Stopped, LinkFault, Turns, TooMany, TooLarge, BadHandshake, OtherProtocol, NoMemory}

texts-append : (xs ys : List Exchange) → texts (xs ++ ys) ≡ texts xs ++ texts ys
texts-append xs ys = flat_map-append (λ (x : Exchange). pack x.serial (x.reply ∷ [])) xs ys

packs_then : (front front' : List ℕ) (xs ys : List Exchange) → ArePacks front xs → ArePacks front' ys → ArePacks (front ++ front') (xs ++ ys)
packs_then front front' [] ys none packs = let P : List ℕ → Type 0 = λ l. ArePacks (l ++ front') ys in subst P (sym none) packs
packs_then front front' (x ∷ xs) ys (first, rest, split, is, more) packs = (first, rest ++ front', ap (λ (l : List ℕ). l ++ front') split ∙ append_assoc first rest front', is, packs_then rest front' xs ys more packs)

cuts_then : (held bytes mid bytes' left front front' : List ℕ) → held ++ bytes ≡ front ++ mid → mid ++ bytes' ≡ front' ++ left → held ++ (bytes ++ bytes') ≡ (front ++ front') ++ left
cuts_then held bytes mid bytes' left front front' first second =
    sym (append_assoc held bytes bytes') ∙ ap (λ (l : List ℕ). l ++ bytes') first ∙ append_assoc front mid bytes' ∙ ap (λ (l : List ℕ). front ++ l) second ∙ sym (append_assoc front front' left)

-- a reply that failed, after more messages
fails_then : (xs ys : List Exchange) (sent : List ℕ) → FailsInReply ys sent → FailsInReply (xs ++ ys) (texts xs ++ sent)
fails_then xs ys sent p =
    let reply = take p.count (pack p.last.serial (p.last.reply ∷ [])) in
    record {
      first = xs ++ p.first;
      last = p.last;
      split = ap (λ (l : List Exchange). xs ++ l) p.split ∙ sym (append_assoc xs p.first (p.last ∷ []));
      count = p.count;
      short = p.short;
      part = ap (λ (l : List ℕ). texts xs ++ l) p.part ∙ sym (append_assoc (texts xs) (texts p.first) reply) ∙ ap (λ (l : List ℕ). l ++ reply) (sym (texts-append xs p.first));
    }

-- what a link shows at the end, it shows also from before
leaves_then : (x y z : Option LinkTold) (given taken : List ℕ) (n : ℕ) (end : AvroEnd) → Tells x y (Talks given taken n) → LeavesLink end y z → LeavesLink end x z
leaves_then x y z given taken n End first leaves = tt
leaves_then x y z given taken n LinkFault first failed = failed_behind x y z given taken n first failed
leaves_then x y z given taken n Stopped first leaves = tt
leaves_then x y z given taken n Turns first leaves = tt
leaves_then x y z given taken n (TooMany m) first leaves = tt
leaves_then x y z given taken n (TooLarge m) first leaves = tt
leaves_then x y z given taken n (BadHandshake at) first leaves = tt
leaves_then x y z given taken n OtherProtocol first leaves = tt
leaves_then x y z given taken n NoMemory first leaves = tt

module _ {S : Type 0} (Takes : S → List Content → Verdict → S → Type 0) where
  exchanges_then : (g a c : Bool) (s t u : S) (xs ys : List Exchange) → Exchanges Takes g s xs a t → Exchanges Takes a t ys c u → Exchanges Takes g s (xs ++ ys) c u
  exchanges_then g a c s t u [] ys (same, still) second =
      let P : Bool → Type 0 = λ b. Exchanges Takes b t ys c u in
      let Q : S → Type 0 = λ v. Exchanges Takes g v ys c u in
      subst Q still (subst P same second)
  exchanges_then g a c s t u (x ∷ xs) ys (next, state, one, more) second = (next, state, one, exchanges_then next a c state t u xs ys more second)

  -- what was sent, after the replies of more messages
  sent_then : (xs ys : List Exchange) (sent : List ℕ) → sent ≡ texts ys → texts xs ++ sent ≡ texts (xs ++ ys)
  sent_then xs ys sent same = ap (λ (l : List ℕ). texts xs ++ l) same ∙ sym (texts-append xs ys)

  ends_then : (end : AvroEnd) (greeted : Bool) (old new : S) (xs ys : List Exchange) (rest sent : List ℕ) → EndsBy Takes end greeted old new ys rest sent → EndsBy Takes end greeted old new (xs ++ ys) rest (texts xs ++ sent)
  ends_then End greeted old new xs ys rest sent p = (p.0, sent_then xs ys sent p.1, p.2)
  ends_then Turns greeted old new xs ys rest sent p = (p.0, sent_then xs ys sent p.1, p.2)
  ends_then Stopped greeted old new xs ys rest sent p = (p.0, sent_then xs ys sent p.1)
  ends_then LinkFault greeted old new xs ys rest sent (same, inl p) = (same, inl (sent_then xs ys sent p.0, p.1))
  ends_then LinkFault greeted old new xs ys rest sent (same, inr p) = (same, inr (fails_then xs ys sent p))
  ends_then (TooMany n) greeted old new xs ys rest sent p = (p.0, sent_then xs ys sent p.1, p.2)
  ends_then (TooLarge n) greeted old new xs ys rest sent p = (p.0, sent_then xs ys sent p.1, p.2)
  ends_then (BadHandshake at) greeted old new xs ys rest sent p = (p.0, sent_then xs ys sent p.1, p.2)
  ends_then OtherProtocol greeted old new xs ys rest sent p = (p.0, sent_then xs ys sent p.1, p.2)
  ends_then NoMemory greeted old new xs ys rest sent p = (sent_then xs ys sent p.0, p.1)

  -- messages that were answered, and more after them
  pub goes_then : {a b c : S} {x y z : Option LinkTold} {g h i : Bool} {held bytes mid bytes' left given given' : List ℕ} {n m : ℕ} → Goes Takes a b x y g h held bytes mid given n → Goes Takes b c y z h i mid bytes' left given' m → Goes Takes a c x z g i held (bytes ++ bytes') left (given ++ given') (n + m)
  goes_then {a} {b} {c} {x} {y} {z} {g} {h} {i} {held} {bytes} {mid} {bytes'} {left} {given} {given'} {n} {m} p q = record {
    done = p.done ++ q.done;
    exchanged = exchanges_then g h i a b c p.done q.done p.exchanged q.exchanged;
    front = p.front ++ q.front;
    packs = packs_then p.front q.front p.done q.done p.packs q.packs;
    cut = cuts_then held bytes mid bytes' left p.front q.front p.cut q.cut;
    talk =
        let P : List ℕ → Type 0 = λ l. Tells x z (Talks (given ++ given') l (n + m)) in
        subst P (sym (texts-append p.done q.done)) (talks_then x y z given (texts p.done) given' (texts q.done) n m p.talk q.talk);
  }

  -- messages that were answered, and after them a session's end
  pub breaks_then : {a b c : S} {x y z : Option LinkTold} {g h : Bool} {held bytes mid bytes' given given' : List ℕ} {n m : ℕ} {end : AvroEnd} → Goes Takes a b x y g h held bytes mid given n → Breaks Takes b c y z h mid bytes' given' m end → Breaks Takes a c x z g held (bytes ++ bytes') (given ++ given') (n + m) end
  breaks_then {a} {b} {c} {x} {y} {z} {g} {h} {held} {bytes} {mid} {bytes'} {given} {given'} {n} {m} {end} p q = record {
    done = p.done ++ q.done;
    after = q.after;
    between = q.between;
    exchanged = exchanges_then g h q.after a b q.between p.done q.done p.exchanged q.exchanged;
    front = p.front ++ q.front;
    packs = packs_then p.front q.front p.done q.done p.packs q.packs;
    rest = q.rest;
    cut = cuts_then held bytes mid bytes' q.rest p.front q.front p.cut q.cut;
    sent = texts p.done ++ q.sent;
    talk = talks_to (finds end) x y z given (texts p.done) given' q.sent n m p.talk q.talk;
    ends = ends_then end q.after q.between c p.done q.done q.rest q.sent q.ends;
    leaves = leaves_then x y z given (texts p.done) n end p.talk q.leaves;
  }

  -- nothing was done, but perhaps a read
  pub read_goes : (a : S) (x y : Option LinkTold) (g : Bool) (held given : List ℕ) (n : ℕ) → Tells x y (Talks given [] n) → Goes Takes a a x y g g held [] held given n
  read_goes a x y g held given n talk = record { done = []; exchanged = (refl, refl); front = []; packs = refl; cut = append-nil held; talk = talk }

  -- before anything was read or answered
  pub goes_none : (a : S) (x : Option LinkTold) (g : Bool) (held : List ℕ) → Goes Takes a a x x g g held [] held [] 0
  goes_none a x g held = read_goes a x x g held [] 0 (talks_none x)

  -- between two turns a session may end
  abbrev EndsBetween : AvroEnd → Type 0
  EndsBetween End = ⊥
  EndsBetween Stopped = Unit {0}
  EndsBetween LinkFault = Unit {0}
  EndsBetween Turns = Unit {0}
  EndsBetween (TooMany n) = ⊥
  EndsBetween (TooLarge n) = ⊥
  EndsBetween (BadHandshake at) = ⊥
  EndsBetween OtherProtocol = ⊥
  EndsBetween NoMemory = ⊥

  between_ends : (end : AvroEnd) (greeted : Bool) (state : S) (done : List Exchange) (rest : List ℕ) → EndsBetween end → IsPart rest → EndsBy Takes end greeted state state done rest (texts done)
  between_ends End greeted state done rest may part = absurd may
  between_ends Stopped greeted state done rest may part = (refl, refl)
  between_ends LinkFault greeted state done rest may part = (refl, inl (refl, part))
  between_ends Turns greeted state done rest may part = (refl, refl, part)
  between_ends (TooMany n) greeted state done rest may part = absurd may
  between_ends (TooLarge n) greeted state done rest may part = absurd may
  between_ends (BadHandshake at) greeted state done rest may part = absurd may
  between_ends OtherProtocol greeted state done rest may part = absurd may
  between_ends NoMemory greeted state done rest may part = absurd may

  -- after whole messages and a part of a pack the session may end
  pub ends_between : {a c : S} {x z : Option LinkTold} {g h : Bool} {held bytes left given : List ℕ} {n : ℕ} → Goes Takes a c x z g h held bytes left given n → IsPart left → (end : AvroEnd) → EndsBetween end → LeavesLink end x z → Breaks Takes a c x z g held bytes given n end
  ends_between {c = c} {x = x} {z = z} {h = h} {left = left} {given = given} {n = n} p part end may leaves = record {
    done = p.done;
    after = h;
    between = c;
    exchanged = p.exchanged;
    front = p.front;
    packs = p.packs;
    rest = left;
    cut = p.cut;
    sent = texts p.done;
    talk = talk_by end may;
    ends = between_ends end h c p.done left may part;
    leaves = leaves;
  }
    where
      talk_by : (end : AvroEnd) → EndsBetween end → Tells x z (TalksTo (finds end) given (texts p.done) n)
      talk_by End b = absurd b
      talk_by Stopped b = p.talk
      talk_by LinkFault b = p.talk
      talk_by Turns b = p.talk
      talk_by (TooMany m) b = absurd b
      talk_by (TooLarge m) b = absurd b
      talk_by (BadHandshake at) b = absurd b
      talk_by OtherProtocol b = absurd b
      talk_by NoMemory b = absurd b

  -- a read found the end of the link, after a part of a pack
  pub found_breaks : (a : S) (x y : Option LinkTold) (g : Bool) (held : List ℕ) → IsPart held → Tells x y (TalksTo 1 [] [] 0) → Breaks Takes a a x y g held [] [] 0 End
  found_breaks a x y g held part talk = record {
    done = [];
    after = g;
    between = a;
    exchanged = (refl, refl);
    front = [];
    packs = refl;
    rest = held;
    cut = append-nil held;
    sent = [];
    talk = talk;
    ends = (refl, refl, part);
    leaves = tt;
  }

  -- a session that was asked to stop leaves the rest of what was read
  pub stops_amid : {a c : S} {x z : Option LinkTold} {g h : Bool} {held bytes left given : List ℕ} {n : ℕ} → Goes Takes a c x z g h held bytes left given n → (rest all : List ℕ) → bytes ++ rest ≡ all → Breaks Takes a c x z g held all given n Stopped
  stops_amid {c = c} {h = h} {held = held} {bytes = bytes} {left = left} p rest all whole = record {
    done = p.done;
    after = h;
    between = c;
    exchanged = p.exchanged;
    front = p.front;
    packs = p.packs;
    rest = left ++ rest;
    cut = ap (λ (l : List ℕ). held ++ l) (sym whole) ∙ sym (append_assoc held bytes rest) ∙ ap (λ (l : List ℕ). l ++ rest) p.cut ∙ append_assoc p.front left rest;
    sent = texts p.done;
    talk = p.talk;
    ends = (refl, refl);
    leaves = tt;
  }

  -- messages of what was read already, and after them its end in the rest of it
  pub breaks_behind : {a b c : S} {x y z : Option LinkTold} {g h : Bool} {held bytes mid bytes' : List ℕ} {end : AvroEnd} → (all : List ℕ) → bytes ++ bytes' ≡ all → Goes Takes a b x y g h held bytes mid [] 0 → Breaks Takes b c y z h mid bytes' [] 0 end → Breaks Takes a c x z g held all [] 0 end
  breaks_behind {a} {c = c} {x = x} {z = z} {g = g} {held = held} {end = end} all whole p q = let P : List ℕ → Type 0 = λ l. Breaks Takes a c x z g held l [] 0 end in subst P whole (breaks_then p q)

  -- messages of what was read already, and more in the rest of it
  pub goes_behind : {a b c : S} {x y z : Option LinkTold} {g h i : Bool} {held bytes mid bytes' left : List ℕ} → (all : List ℕ) → bytes ++ bytes' ≡ all → Goes Takes a b x y g h held bytes mid [] 0 → Goes Takes b c y z h i mid bytes' left [] 0 → Goes Takes a c x z g i held all left [] 0
  goes_behind {a} {c = c} {x = x} {z = z} {g = g} {i = i} {held = held} {left = left} all whole p q = let P : List ℕ → Type 0 = λ l. Goes Takes a c x z g i held l left [] 0 in subst P whole (goes_then p q)

  -- a read that gave a piece, and the messages cut from it, are one turn
  pub turn_goes : {a c : S} {x y z : Option LinkTold} {g h : Bool} {held left : List ℕ} (piece : List ℕ) → Goes Takes a a x y g g held [] held piece 1 → Goes Takes a c y z g h held piece left [] 0 → Goes Takes a c x z g h held piece left piece 1
  turn_goes {a} {c} {x = x} {z = z} {g = g} {h = h} {held = held} {left = left} piece p q = let P : List ℕ → Type 0 = λ l. Goes Takes a c x z g h held piece left l 1 in subst P (append-nil piece) (goes_then p q)

  -- a read that gave a piece, and the session's end in it, are one turn
  pub turn_breaks : {a c : S} {x y z : Option LinkTold} {g : Bool} {held : List ℕ} {end : AvroEnd} (piece : List ℕ) → Goes Takes a a x y g g held [] held piece 1 → Breaks Takes a c y z g held piece [] 0 end → Breaks Takes a c x z g held piece piece 1 end
  turn_breaks {a} {c} {x = x} {z = z} {g = g} {held = held} {end = end} piece p q = let P : List ℕ → Type 0 = λ l. Breaks Takes a c x z g held piece l 1 end in subst P (append-nil piece) (breaks_then p q)

  -- a whole session
  pub served_by : {a c : S} {x z : Option LinkTold} {given : List ℕ} {n : ℕ} {end : AvroEnd} → Breaks Takes a c x z false [] given given n end → EndsAfter end n → Served Takes a c x z end
  served_by {a} {c} {x} {z} {given} {n} {end} p count = record {
    done = p.done;
    after = p.after;
    between = p.between;
    exchanged = p.exchanged;
    front = p.front;
    packs = p.packs;
    rest = p.rest;
    sent = p.sent;
    turns = n;
    talk = let P : List ℕ → Type 0 = λ l. Tells x z (TalksTo (finds end) l p.sent n) in subst P p.cut p.talk;
    ends = p.ends;
    leaves = p.leaves;
    count = count;
  }

-- a read that gave bytes is one turn
pub one_turn : (end : AvroEnd) → (end ≡ Turns → ⊥) → (end ≡ End → ⊥) → IsTurnsOf end 1
one_turn End of other = absurd (other refl)
one_turn Stopped of other = omega arith
one_turn LinkFault of other = omega arith
one_turn Turns of other = absurd (of refl)
one_turn (TooMany n) of other = omega arith
one_turn (TooLarge n) of other = omega arith
one_turn (BadHandshake at) of other = omega arith
one_turn OtherProtocol of other = omega arith
one_turn NoMemory of other = omega arith

-- after some turns one more ended the session
pub after_turn : (end : AvroEnd) (n m : ℕ) → (end ≡ Turns → ⊥) → IsTurnsOf end m → n < most_turns → EndsAfter end (n + m)
after_turn End n m of one few = omega (arith, one, few)
after_turn Stopped n m of one few = omega (arith, one, few)
after_turn LinkFault n m of one few = omega (arith, one, few)
after_turn Turns n m of one few = absurd (of refl)
after_turn (TooMany n') n m of one few = omega (arith, one, few)
after_turn (TooLarge n') n m of one few = omega (arith, one, few)
after_turn (BadHandshake at) n m of one few = omega (arith, one, few)
after_turn OtherProtocol n m of one few = omega (arith, one, few)
after_turn NoMemory n m of one few = omega (arith, one, few)

-- What a link gave of a reply over several reads.
use Rattle.std.proofs.Common.{◌≡◌, ◌∙◌, ℕ, ◌+◌, ◌≤◌, ◌<◌, ltb, Bool, List, [], ◌++◌, length, take, drop, Option, None, Result, Ok, Err, refl, sym, ap, subst, arith, inl, inr, append_assoc, append-nil, take-append-drop}
use Rattle.std.proofs.lemmas.Bool.{cases_lt, le-ltb, lt-ltb}
use Rattle.std.proofs.lemmas.List.{length-drop, drop_all}
use Rattle.flume_host.specs.Told.{Tells}
use Rattle.flume_host.proofs.Telling.{tells_more}
use Rattle.flume_host.specs.declared.link.LinkRead.TheVariants.{Got, End, Quiet}
use Rattle.flume_host.specs.Links.{LinkTold, Talks, Waited, Hears, heard, broke, most_turns}
use Rattle.flume_host.proofs.Talking.{failed_behind, failed_broke, talks_none, talks_to, talks_got, talks_quiet, talks_end, talks_broke, waited_none, waited_then, waited_broke}
use Rattle.avro_frame.specs.declared.packs.Message.{Message}
use Rattle.avro_frame.specs.Pack.{IsPack, IsPart, InHead}
use Rattle.avro_frame.specs.Feed.{Packing, Holds, Failed as Over, Feeds}
use Rattle.avro_ends.specs.Sessions.{IsOpen, held_in}
use Rattle.avro_ends.specs.declared.hear.Piece.{Piece}
use Rattle.avro_ends.specs.declared.hear.Piece.TheVariants.{Whole, Part}
use Rattle.avro_ends.specs.declared.hear.Piece.TheVariants as pieces
use Rattle.avro_ends.specs.declared.refused.DeliverRefused.{DeliverRefused}
use Rattle.avro_ends.specs.declared.refused.DeliverRefused.TheVariants.{LinkFault, Ended, Silent, Refused, WrongSerial, BadReply, Turns, NoMemory}
use Rattle.avro_ends.specs.Hearing.{most_quiets, Heard, IsRest, IsUnheard, finds, HeardFor, IsOfRead, Cuts, CutsPiece, HearsTurn, HearsReply}

-- ---- reads

-- before the first read nothing was heard
pub heard_none : (told : Option LinkTold) → Heard 0 [] 0 0 told told
heard_none told = record { talk = talks_none told; waited = waited_none told }

-- what was heard, and more of it, even the link's end
pub heard_then : (found : ℕ) (a b c : Option LinkTold) (given given' : List ℕ) (n m q r : ℕ) → Heard 0 given n q a b → Heard found given' m r b c → Heard found (given ++ given') (n + m) (q + r) a c
heard_then found a b c given given' n m q r first second = record {
  talk = talks_to found a b c given [] given' [] n m first.talk second.talk;
  waited = waited_then a b c q r first.waited second.waited;
}

-- a read that gave bytes is one turn
pub heard_got : (n : ℕ) (into : List ℕ) (a b : Option LinkTold) → Hears (Ok (Got n)) into a b → Heard 0 (take n into) 1 0 a b
heard_got n into a b read = record {
  talk = talks_got n into a b read;
  waited = tells_more a b (λ t u. u ≡ heard (Got n) into t) (Waited 0) (λ t u _ _ is. omega (arith, ap (λ (l : LinkTold). l.quiets) is)) read;
}

-- a read that waited in vain is one quiet turn
pub heard_quiet : (into : List ℕ) (a b : Option LinkTold) → Hears (Ok Quiet) into a b → Heard 0 [] 1 1 a b
heard_quiet into a b read = record {
  talk = talks_quiet into a b read;
  waited = tells_more a b (λ t u. u ≡ heard Quiet into t) (Waited 1) (λ t u _ _ is. omega (arith, ap (λ (l : LinkTold). l.quiets) is)) read;
}

-- a read that found the end is no turn
pub heard_end : (into : List ℕ) (a b : Option LinkTold) → Hears (Ok End) into a b → Heard 1 [] 0 0 a b
heard_end into a b read = record {
  talk = talks_end into a b read;
  waited = tells_more a b (λ t u. u ≡ heard End into t) (Waited 0) (λ t u _ _ is. omega (arith, ap (λ (l : LinkTold). l.quiets) is)) read;
}

-- a call that failed gave nothing and is no turn
pub heard_broke : (a b : Option LinkTold) → Tells a b (λ t u. u ≡ broke t) → Heard 0 [] 0 0 a b
heard_broke a b read = record { talk = talks_broke a b read; waited = waited_broke a b read }

-- ---- packs

-- what an open packing holds is a part of a pack
pub part_of : (p : Packing) → IsOpen p → IsPart (held_in p)
part_of (Holds bytes) is = is
part_of (Over e) is = absurd is

rest_is : (n : ℕ) (bytes : List ℕ) → IsRest (ltb n (length bytes)) (drop n bytes)
rest_is n bytes =
    elim (cases_lt n (length bytes)) [
      | inl lt ↦ subst (λ (b : Bool). IsRest b (drop n bytes)) (sym (lt-ltb n (length bytes) lt)) (omega (arith, length-drop n bytes))
      | inr le ↦ subst (λ (b : Bool). IsRest b (drop n bytes)) (sym (le-ltb n (length bytes) le)) (drop_all n bytes le)
    ]

-- a pack that ends within a piece has bytes after it where the piece has more
pub cuts_at : (held piece : List ℕ) (n serial : ℕ) (payload : List ℕ) → IsPack (held ++ take n piece) serial payload → Cuts (held ++ piece) serial payload (ltb n (length piece))
cuts_at held piece n serial payload is = record {
  front = held ++ take n piece;
  behind = drop n piece;
  cut = ap (λ (t : List ℕ). held ++ t) (sym (take-append-drop n piece)) ∙ sym (append_assoc held (take n piece) (drop n piece));
  pack = is;
  rest = rest_is n piece;
}

-- a piece that ends no pack leaves a longer part of one
pub piece_part : (p p' : Packing) (piece : List ℕ) (n : ℕ) → IsOpen p → Feeds p piece (Ok (n, None)) p' → CutsPiece (held_in p ++ piece) (Ok Part) p'
piece_part (Holds old) p' piece n is feeds = (feeds.1, feeds.2)
piece_part (Over e) p' piece n is feeds = absurd is

-- a read brought a piece
pub turn_of : (held given : List ℕ) (result : Result Piece DeliverRefused) (after : Packing) (a b : Option LinkTold) → Heard 0 given 1 0 a b → CutsPiece (held ++ given) result after → HearsTurn held result after a b
turn_of held given (Ok (Whole message more)) after a b h cuts = (given, h, cuts)
turn_of held given (Ok Part) after a b h cuts = (given, h, cuts.0, cuts.1)
turn_of held given (Ok pieces.Quiet) after a b h cuts = absurd cuts
turn_of held given (Err (BadReply at)) after a b h cuts = (given, 1, omega arith, h, cuts, tt)
turn_of held given (Err NoMemory) after a b h cuts = absurd cuts
turn_of held given (Err LinkFault) after a b h cuts = absurd cuts
turn_of held given (Err Ended) after a b h cuts = absurd cuts
turn_of held given (Err Silent) after a b h cuts = absurd cuts
turn_of held given (Err Turns) after a b h cuts = absurd cuts
turn_of held given (Err (Refused status)) after a b h cuts = absurd cuts
turn_of held given (Err (WrongSerial got want)) after a b h cuts = absurd cuts

-- the same where room was made before
pub turn_made : (p q : Packing) (given : List ℕ) (result : Result Piece DeliverRefused) (after : Packing) (a b : Option LinkTold) → q ≡ p → Heard 0 given 1 0 a b → CutsPiece (held_in q ++ given) result after → HearsTurn (held_in p) result after a b
turn_made p q given result after a b same h cuts = turn_of (held_in p) given result after a b h (subst (λ (x : Packing). CutsPiece (held_in x ++ given) result after) same cuts)

-- a read waited in vain, found the end, or failed
pub turn_waits : (p : Packing) (a b : Option LinkTold) → IsOpen p → Heard 0 [] 1 1 a b → HearsTurn (held_in p) (Ok pieces.Quiet) p a b
turn_waits (Holds bytes) a b is h = (h, refl)
turn_waits (Over e) a b is h = absurd is

behind_part : (p : Packing) → IsOpen p → IsPart (held_in p ++ [])
behind_part p is = subst IsPart (sym (append-nil (held_in p))) (part_of p is)

-- a read found the end within the reply
pub turn_ends : (p after : Packing) (a b : Option LinkTold) (into : List ℕ) → IsOpen p → Hears (Ok End) into a b → HearsTurn (held_in p) (Err Ended) after a b
turn_ends p after a b into is read =
    ([], 0, omega arith, heard_end into a b read, behind_part p is, tt)

-- a read failed within the reply
pub turn_fails : (p after : Packing) (a b : Option LinkTold) → IsOpen p → Tells a b (λ t u. u ≡ broke t) → HearsTurn (held_in p) (Err LinkFault) after a b
turn_fails p after a b is read = ([], 0, omega arith, heard_broke a b read, (behind_part p is, failed_broke a b read), tt)

-- no limit was passed
pub opened_is : (p : Packing) → IsOpen p → p ≡ Holds (held_in p)
opened_is (Holds bytes) is = refl
opened_is (Over e) is = absurd is

-- there was no memory for what is to come
pub turn_lacks : (p after : Packing) (a : Option LinkTold) → IsOpen p → HearsTurn (held_in p) (Err NoMemory) after a a
turn_lacks p after a is = ([], 0, omega arith, heard_none a, behind_part p is, tt)

-- ---- the whole reply

-- no bytes are the first part of a pack
pub first_part : IsPart []
first_part = InHead (omega arith)

-- why no reply came is told also from before the earlier reads
pub unheard_behind : (e : DeliverRefused) (given : List ℕ) (a b c : Option LinkTold) (given' taken : List ℕ) (n : ℕ) → Tells a b (Talks given' taken n) → IsUnheard e given b c → IsUnheard e given a c
unheard_behind LinkFault given a b c given' taken n talk is = (is.0, failed_behind a b c given' taken n talk is.1)
unheard_behind Ended given a b c given' taken n talk is = is
unheard_behind Silent given a b c given' taken n talk is = is
unheard_behind Turns given a b c given' taken n talk is = is
unheard_behind (BadReply at) given a b c given' taken n talk is = is
unheard_behind NoMemory given a b c given' taken n talk is = is
unheard_behind (Refused status) given a b c given' taken n talk is = is
unheard_behind (WrongSerial got want) given a b c given' taken n talk is = is

read_lasts : (e : DeliverRefused) (turns quiets : ℕ) → IsOfRead e → turns ≤ most_turns → quiets < most_quiets → HeardFor e turns quiets
read_lasts LinkFault turns quiets of t q = (t, q)
read_lasts Ended turns quiets of t q = (t, q)
read_lasts Silent turns quiets of t q = absurd of
read_lasts Turns turns quiets of t q = absurd of
read_lasts (BadReply at) turns quiets of t q = (t, q)
read_lasts NoMemory turns quiets of t q = (t, q)
read_lasts (Refused status) turns quiets of t q = (t, q)
read_lasts (WrongSerial got want) turns quiets of t q = (t, q)

-- a read ended it
pub reply_fails : (e : DeliverRefused) (held : List ℕ) (after : Packing) (a b c : Option LinkTold) (turns quiets : ℕ) → Heard 0 held turns quiets a b → turns < most_turns → quiets < most_quiets → HearsTurn held (Err e) after b c → HearsReply (Err e) a c
reply_fails e held after a b c turns quiets h t q (given, n, one, more, unheard, of) =
    (held ++ given, turns + n, quiets + 0, heard_then (finds e) a b c held given turns n quiets 0 h more, read_lasts e (turns + n) (quiets + 0) of (omega (arith, t, one)) (omega (arith, q)), unheard_behind e (held ++ given) a b c held [] turns h.talk unheard)

-- the last bytes came
pub reply_comes : (message : Message) (more : Bool) (held : List ℕ) (after : Packing) (a b c : Option LinkTold) (turns quiets : ℕ) → Heard 0 held turns quiets a b → turns < most_turns → quiets < most_quiets → HearsTurn held (Ok (Whole message more)) after b c → HearsReply (Ok (message, more)) a c
reply_comes message more held after a b c turns quiets h t q (given, read, cuts) =
    (held ++ given, turns + 1, quiets + 0, heard_then 0 a b c held given turns 1 quiets 0 h read, omega (arith, t), omega (arith, q), cuts)

-- the reply goes on
pub reply_goes : (held : List ℕ) (after : Packing) (a b c : Option LinkTold) (turns quiets : ℕ) → Heard 0 held turns quiets a b → HearsTurn held (Ok Part) after b c → IsOpen after × Heard 0 (held_in after) (turns + 1) quiets a c
reply_goes held after a b c turns quiets h (given, read, part, is) =
    let both = heard_then 0 a b c held given turns 1 quiets 0 h read in
    let same : quiets + 0 ≡ quiets = omega arith in
    (subst IsOpen (sym is) part, subst (λ (p : Packing). Heard 0 (held_in p) (turns + 1) quiets a c) (sym is) (subst (λ (k : ℕ). Heard 0 (held ++ given) (turns + 1) k a c) same both))

-- nothing came for a while
pub reply_waits : (p after : Packing) (a b c : Option LinkTold) (turns quiets : ℕ) → IsOpen p → Heard 0 (held_in p) turns quiets a b → HearsTurn (held_in p) (Ok pieces.Quiet) after b c → IsOpen after × Heard 0 (held_in after) (turns + 1) (quiets + 1) a c
reply_waits p after a b c turns quiets opened h (read, is) =
    let both = heard_then 0 a b c (held_in p) [] turns 1 quiets 1 h read in
    (subst IsOpen (sym is) (part_of p opened), subst (λ (x : Packing). Heard 0 (held_in x) (turns + 1) (quiets + 1) a c) (sym is) (subst (λ (t : List ℕ). Heard 0 t (turns + 1) (quiets + 1) a c) (append-nil (held_in p)) both))

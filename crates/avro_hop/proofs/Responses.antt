-- Answers and responses are spelled, and none begins another.
use Rattle.std.proofs.Common.{◌≡◌, ℕ, zero, suc, ◌*◌, ◌<◌, ltb, List, [], ◌∷◌, ◌++◌, get_or, refl, sym, ap, subst, ◌∙◌, arith}
use Rattle.std.specs.Prelude.{Bool, ◌&&◌, true, false, Option, Some, None, pos, codes}
use Rattle.std.specs.Str.{IsUtf8}
use Rattle.std.proofs.lemmas.Str.{IsUtf8-from_ascii}
use Rattle.std.proofs.lemmas.Bool.{ltb-true}
use Rattle.avro_binary.specs.Number.{IsInt, IsLong}
use Rattle.avro_binary.specs.Value.{IsBoolean, IsText, IsFixed}
use Rattle.avro_binary.specs.Items.{IsMeta, Plain, Close}
use Rattle.avro_binary.specs.Written.{written_number, written_boolean, written_bytes, written_map}
use Rattle.avro_binary.specs.Laws.{IsPrefixFree}
use Rattle.avro_binary.proofs.Writing.{groups_last}
use Rattle.avro_binary.proofs.Spelled.{booleans_spelled, texts_spelled}
use Rattle.avro_binary.proofs.PrefixFree.{same_int, same_boolean, same_text, same_fixed, same_meta, same_natural, regroup, rest_same}
use Rattle.avro_hop.specs.declared.handshake.Match.{Match}
use Rattle.avro_hop.specs.declared.handshake.Match.TheVariants.{Both, Client, Stranger}
use Rattle.avro_hop.specs.declared.respond.Status.{Status}
use Rattle.avro_hop.specs.declared.respond.Status.TheVariants as status
use Rattle.avro_hop.specs.Parts.{IsPair, IsOption}
use Rattle.avro_hop.specs.Handshake.{own_text, own_hash, written_null, written_some, written_own}
use Rattle.avro_hop.specs.Calls.{status_index}
use Rattle.avro_hop.specs.Responses.{Greeting, match_index, IsGreeting, Told, Error, IsError, IsOutcome, GreetingsAreSpelled, ResponsesAreSpelled, UnknownIsSpelled, OneGreeting, OneResponse}
use Rattle.avro_hop.proofs.Lengths.{text_len, hash_len}
use Rattle.avro_hop.proofs.OneReading.{whole_same, same_pair, same_option}

-- ---- what is written

small_int : (n : ℕ) → n < 64 → IsInt (written_number (pos n)) (pos n)
small_int n small =
    let e = groups_last 9 (2 * n) (omega arith) in
    record { groups = rw e (omega arith, refl); short = rw e (omega arith); fits = omega arith }

small_long : (n : ℕ) → n < 64 → IsLong (written_number (pos n)) (pos n)
small_long n small =
    let e = groups_last 9 (2 * n) (omega arith) in
    record { groups = rw e (omega arith, refl); short = rw e (omega arith); fits = omega arith }

-- every byte is below 128
abbrev pub are_ascii : List ℕ → Bool
are_ascii [] = true
are_ascii (b ∷ bytes) = ltb b 128 && are_ascii bytes

both : (a b : Bool) → (a && b) ≡ true → (a ≡ true) × (b ≡ true)
both true b e = (refl, e)
both false b e = absurd cc

each_ascii : (bytes : List ℕ) → are_ascii bytes ≡ true → (i : ℕ) → get_or bytes i 0 < 128
each_ascii [] e i = omega arith
each_ascii (b ∷ bytes) e zero = ltb-true b 128 (both (ltb b 128) (are_ascii bytes) e).0
each_ascii (b ∷ bytes) e (suc i) = each_ascii bytes (both (ltb b 128) (are_ascii bytes) e).1 i

-- bytes that are all ASCII are UTF-8
pub ascii_text : (bytes : List ℕ) → are_ascii bytes ≡ true → IsUtf8 bytes
ascii_text bytes e = IsUtf8-from_ascii bytes (each_ascii bytes e)

-- this agent's protocol text is UTF-8
pub own_utf8 : IsUtf8 own_text
unfolding own_text
own_utf8 = ascii_text _ refl

-- null spells a value that is missing
pub null_spelled : {V : Type 0} (Spells : List ℕ → V → Type 0) → IsOption Spells written_null None
null_spelled Spells = small_int 0 (omega arith)

-- an index and a value spell a value that is there
pub some_spelled : {V : Type 0} (Spells : List ℕ → V → Type 0) (bytes : List ℕ) (v : V) → Spells bytes v → IsOption Spells (written_some bytes) (Some v)
some_spelled Spells bytes v s = record { front = written_number (pos 1); back = bytes; whole = refl; first = small_int 1 (omega arith); second = s }

below_three : (found : Match) → match_index found < 64
below_three Both = omega arith
below_three Client = omega arith
below_three Stranger = omega arith

own_told : (found : Match) → IsGreeting (written_number (pos (match_index found)) ++ written_own) (record { found = found; text = Some own_text; hash = Some own_hash })
own_told found = record {
  index_bytes = written_number (pos (match_index found));
  text_bytes = written_some (written_bytes own_text);
  hash_bytes = written_some own_hash;
  meta_bytes = written_null;
  meta = None;
  whole = refl;
  index = small_int (match_index found) (below_three found);
  text_at = some_spelled IsText (written_bytes own_text) own_text (texts_spelled own_text (omega (arith, text_len)) own_utf8);
  hash_at = some_spelled IsFixed own_hash own_hash (refl, hash_len);
  meta_at = null_spelled IsMeta;
}

-- what is answered to a handshake is spelled as what it tells
pub greetings_are_spelled : GreetingsAreSpelled
greetings_are_spelled Both = record {
  index_bytes = written_number (pos 0);
  text_bytes = written_null;
  hash_bytes = written_null;
  meta_bytes = written_null;
  meta = None;
  whole = refl;
  index = small_int 0 (omega arith);
  text_at = null_spelled IsText;
  hash_at = null_spelled IsFixed;
  meta_at = null_spelled IsMeta;
}
greetings_are_spelled Client = own_told Client
greetings_are_spelled Stranger = own_told Stranger

-- an empty map spells no metadata
pub no_meta : IsMeta (written_map []) []
no_meta = let e = groups_last 9 0 (omega arith) in Close (0 ∷ []) (Plain (subst (λ (t : List ℕ). IsLong t (pos 0)) e (small_long 0 (omega arith))))

few : (s : Status) → status_index s < 64
few status.Ok = omega arith
few status.Failed = omega arith
few status.Unknown = omega arith

-- what is answered to a call is spelled as its status
pub responses_are_spelled : ResponsesAreSpelled
responses_are_spelled s = (
  [],
  record {
    front = written_map [];
    back = written_boolean false ++ written_number (pos (status_index s));
    whole = refl;
    first = no_meta;
    second = record {
      front = written_boolean false;
      back = written_number (pos (status_index s));
      whole = refl;
      first = booleans_spelled false;
      second = small_int (status_index s) (few s);
    };
  },
)

-- the answer to an unknown message is spelled as an error
pub unknown_is_spelled : UnknownIsSpelled
unknown_is_spelled = (
  [],
  record {
    front = written_map [];
    back = written_boolean true ++ (written_number (pos 0) ++ written_bytes (codes "unknown message"));
    whole = refl;
    first = no_meta;
    second = record {
      front = written_boolean true;
      back = written_number (pos 0) ++ written_bytes (codes "unknown message");
      whole = refl;
      first = booleans_spelled true;
      second = record {
        front = written_number (pos 0);
        back = written_bytes (codes "unknown message");
        whole = refl;
        first = small_int 0 (omega arith);
        second = texts_spelled (codes "unknown message") (omega arith) (ascii_text _ refl);
      };
    };
  },
)

-- ---- none begins another

-- matches of the same index are the same
pub same_match : (found other : Match) → pos (match_index found) ≡ pos (match_index other) → found ≡ other
same_match Both Both e = refl
same_match Both Client e = absurd (omega (arith, same_natural 0 1 e))
same_match Both Stranger e = absurd (omega (arith, same_natural 0 2 e))
same_match Client Both e = absurd (omega (arith, same_natural 1 0 e))
same_match Client Client e = refl
same_match Client Stranger e = absurd (omega (arith, same_natural 1 2 e))
same_match Stranger Both e = absurd (omega (arith, same_natural 2 0 e))
same_match Stranger Client e = absurd (omega (arith, same_natural 2 1 e))
same_match Stranger Stranger e = refl

same_greeting : (g h : Greeting) → g.found ≡ h.found → g.text ≡ h.text → g.hash ≡ h.hash → g ≡ h
same_greeting g h p q e = ap (λ (f : Match). record { found = f; text = g.text; hash = g.hash }) p ∙ ap (λ (t : Option (List ℕ)). record { found = h.found; text = t; hash = g.hash }) q ∙ ap (λ (k : Option (List ℕ)). record { found = h.found; text = h.text; hash = k }) e

-- no answer to a handshake begins another, and each tells one thing
pub one_greeting : OneGreeting
one_greeting a b x y g h p q e =
    let f = regroup p.index_bytes (p.text_bytes ++ (p.hash_bytes ++ p.meta_bytes)) x q.index_bytes (q.text_bytes ++ (q.hash_bytes ++ q.meta_bytes)) y a b p.whole q.whole e in
    let i = same_int p.index_bytes q.index_bytes ((p.text_bytes ++ (p.hash_bytes ++ p.meta_bytes)) ++ x) ((q.text_bytes ++ (q.hash_bytes ++ q.meta_bytes)) ++ y) (pos (match_index g.found)) (pos (match_index h.found)) p.index q.index f in
    let f1 = rest_same p.index_bytes q.index_bytes ((p.text_bytes ++ (p.hash_bytes ++ p.meta_bytes)) ++ x) ((q.text_bytes ++ (q.hash_bytes ++ q.meta_bytes)) ++ y) i.0 f in
    let f2 = regroup p.text_bytes (p.hash_bytes ++ p.meta_bytes) x q.text_bytes (q.hash_bytes ++ q.meta_bytes) y (p.text_bytes ++ (p.hash_bytes ++ p.meta_bytes)) (q.text_bytes ++ (q.hash_bytes ++ q.meta_bytes)) refl refl f1 in
    let t = same_option IsText same_text p.text_bytes q.text_bytes ((p.hash_bytes ++ p.meta_bytes) ++ x) ((q.hash_bytes ++ q.meta_bytes) ++ y) g.text h.text p.text_at q.text_at f2 in
    let f3 = rest_same p.text_bytes q.text_bytes ((p.hash_bytes ++ p.meta_bytes) ++ x) ((q.hash_bytes ++ q.meta_bytes) ++ y) t.0 f2 in
    let f4 = regroup p.hash_bytes p.meta_bytes x q.hash_bytes q.meta_bytes y (p.hash_bytes ++ p.meta_bytes) (q.hash_bytes ++ q.meta_bytes) refl refl f3 in
    let k = same_option IsFixed same_fixed p.hash_bytes q.hash_bytes (p.meta_bytes ++ x) (q.meta_bytes ++ y) g.hash h.hash p.hash_at q.hash_at f4 in
    let f5 = rest_same p.hash_bytes q.hash_bytes (p.meta_bytes ++ x) (q.meta_bytes ++ y) k.0 f4 in
    let m = same_option IsMeta same_meta p.meta_bytes q.meta_bytes x y p.meta q.meta p.meta_at q.meta_at f5 in
    let last = whole_same p.hash_bytes p.meta_bytes q.hash_bytes q.meta_bytes (p.hash_bytes ++ p.meta_bytes) (q.hash_bytes ++ q.meta_bytes) refl refl k.0 m.0 in
    let behind = whole_same p.text_bytes (p.hash_bytes ++ p.meta_bytes) q.text_bytes (q.hash_bytes ++ q.meta_bytes) (p.text_bytes ++ (p.hash_bytes ++ p.meta_bytes)) (q.text_bytes ++ (q.hash_bytes ++ q.meta_bytes)) refl refl t.0 last in
    (whole_same p.index_bytes (p.text_bytes ++ (p.hash_bytes ++ p.meta_bytes)) q.index_bytes (q.text_bytes ++ (q.hash_bytes ++ q.meta_bytes)) a b p.whole q.whole i.0 behind, same_greeting g h (same_match g.found h.found i.1) t.1 k.1)

-- statuses of the same index are the same
pub same_status : (s t : Status) → pos (status_index s) ≡ pos (status_index t) → s ≡ t
same_status status.Ok status.Ok e = refl
same_status status.Ok status.Failed e = absurd (omega (arith, same_natural 0 1 e))
same_status status.Ok status.Unknown e = absurd (omega (arith, same_natural 0 2 e))
same_status status.Failed status.Ok e = absurd (omega (arith, same_natural 1 0 e))
same_status status.Failed status.Failed e = refl
same_status status.Failed status.Unknown e = absurd (omega (arith, same_natural 1 2 e))
same_status status.Unknown status.Ok e = absurd (omega (arith, same_natural 2 0 e))
same_status status.Unknown status.Failed e = absurd (omega (arith, same_natural 2 1 e))
same_status status.Unknown status.Unknown e = refl

true_false : {A : Type 0} → false ≡ true → A
true_false e = absurd cc

same_error : IsPrefixFree IsError
same_error a b x y v w p q e =
    let s = same_pair IsInt IsText same_int same_text a b x y (pos 0) (pos 0) v w p q e in
    (s.0, s.2)

-- the flags differ
other_flag : {A V W : Type 0} (First : List ℕ → V → Type 0) (Second : List ℕ → W → Type 0) (a b x y : List ℕ) (v : V) (w : W) → IsPair IsBoolean First a false v → IsPair IsBoolean Second b true w → a ++ x ≡ b ++ y → A
other_flag First Second a b x y v w p q e =
    let f = regroup p.front p.back x q.front q.back y a b p.whole q.whole e in
    true_false (same_boolean p.front q.front (p.back ++ x) (q.back ++ y) false true p.first q.first f).1

same_outcome : IsPrefixFree IsOutcome
same_outcome a b x y (Told s) (Told t) p q e =
    let r = same_pair IsBoolean IsInt same_boolean same_int a b x y false false (pos (status_index s)) (pos (status_index t)) p q e in
    (r.0, ap Told (same_status s t r.2))
same_outcome a b x y (Told s) (Error t) p q e = other_flag IsInt IsError a b x y (pos (status_index s)) t p q e
same_outcome a b x y (Error s) (Told t) p q e = other_flag IsInt IsError b a y x (pos (status_index t)) s q p (sym e)
same_outcome a b x y (Error s) (Error t) p q e =
    let r = same_pair IsBoolean IsError same_boolean same_error a b x y true true s t p q e in
    (r.0, ap Error r.2)

-- no response begins another, and each tells one outcome
pub one_response : OneResponse
one_response a b x y v w p q e =
    let s = same_pair IsMeta IsOutcome same_meta same_outcome a b x y p.0 q.0 v w p.1 q.1 e in
    (s.0, s.2)

-- A message has one answer.
use Rattle.std.proofs.Common.{◌≡◌, ℕ, List, [], sym, ap, subst, ◌∙◌}
use Rattle.std.specs.Prelude.{Bool, true, false, Option, Some, None, IsSome, Ok, Err}
use Rattle.avro_binary.specs.Fault.{Fault}
use Rattle.avro_binary.specs.Event.{first_large}
use Rattle.avro_binary.proofs.OneFault.{same_shift}
use Rattle.avro_binary.proofs.PrefixFree.{rest_same}
use Rattle.avro_hop.specs.declared.handshake.Match.{Match}
use Rattle.avro_hop.specs.declared.handshake.Match.TheVariants.{Both, Client, Stranger}
use Rattle.avro_hop.specs.declared.hop.Asked.{Asked}
use Rattle.avro_hop.specs.declared.hop.Asked.TheVariants.{Reply, Events}
use Rattle.avro_hop.specs.declared.hop.HopRefused.TheVariants.{BadHandshake, OtherProtocol, NoMemory}
use Rattle.avro_hop.specs.Parts.{place}
use Rattle.avro_hop.specs.Handshake.{Request, RequestFault, IsKnown, IsOther, IsMatch, greeting}
use Rattle.avro_hop.specs.Calls.{Call, Nothing, Other, Takes, IsCall, CallFault, IsAsked}
use Rattle.avro_hop.specs.Dialogue.{Greets, Opens, FirstFault, InRequest, InCall, AnswersFirst}
use Rattle.avro_hop.specs.Laws.{SameAsked, OneAnswer}
use Rattle.avro_hop.proofs.OneReading.{one_request, no_request_fault, one_call_lem, no_call_fault}
use Rattle.avro_hop.proofs.OneFault.{one_request_fault, one_call_fault, known_stranger, known_other, same_match, match_other}

-- ---- calls

some_none : {A : Type 0} (large : Option ℕ) → IsSome large → large ≡ None → A
some_none None some e = absurd cc
some_none (Some n) some e = absurd cc

asked_same : (front : List ℕ) (call : Call) (a b : Asked) → IsAsked front call a → IsAsked front call b → SameAsked a b
asked_same front Nothing (Reply x) (Reply y) p q = p ∙ sym q
asked_same front Nothing (Reply x) (Events f b) p q = absurd q
asked_same front Nothing (Events f b) y p q = absurd p
asked_same front Other (Reply x) (Reply y) p q = p ∙ sym q
asked_same front Other (Reply x) (Events f b) p q = absurd q
asked_same front Other (Events f b) y p q = absurd p
asked_same front (Takes events) (Reply x) (Reply y) p q = p.1 ∙ sym q.1
asked_same front (Takes events) (Reply x) (Events f b) p q = some_none (first_large events) p.0 q.2
asked_same front (Takes events) (Events f b) (Reply y) p q = some_none (first_large events) q.0 p.2
asked_same front (Takes events) (Events f b) (Events g c) p q = (p.0 ∙ sym q.0, p.1 ∙ sym q.1)

call_same : (front bytes : List ℕ) (a b : Asked) → (call : Call) × IsCall bytes call × IsAsked front call a → (call : Call) × IsCall bytes call × IsAsked front call b → SameAsked a b
call_same front bytes a b p q =
    let c = one_call_lem bytes p.0 q.0 p.1 q.1 in
    asked_same front q.0 a b (subst (λ (k : Call). IsAsked front k a) c p.2) q.2

-- ---- first messages

opens_same : (m : Match) (rest : List ℕ) (a b : Asked) (g h : Bool) → Opens m rest a g → Opens m rest b h → SameAsked a b × (g ≡ h)
opens_same Both rest a b g h p q = (call_same (greeting Both) rest a b p.0 q.0, p.1 ∙ sym q.1)
opens_same Client rest a b g h p q = (call_same (greeting Client) rest a b p.0 q.0, p.1 ∙ sym q.1)
opens_same Stranger rest (Reply x) (Reply y) g h p q = (p.0 ∙ sym q.0, p.1 ∙ sym q.1)
opens_same Stranger rest (Reply x) (Events f b) g h p q = absurd q
opens_same Stranger rest (Events f b) y g h p q = absurd p

greets_same : (bytes rest rest' : List ℕ) (r s : Request) → Greets bytes rest r → Greets bytes rest' s → (rest ≡ rest') × (r ≡ s)
greets_same bytes rest rest' r s p q =
    let e = sym p.whole ∙ q.whole in
    let k = one_request p.front q.front rest rest' r s p.request q.request e in
    (rest_same p.front q.front rest rest' k.0 e, k.1)

opened_same : (bytes : List ℕ) (a b : Asked) (g h : Bool) → AnswersFirst bytes (Ok a) g → AnswersFirst bytes (Ok b) h → SameAsked a b × (g ≡ h)
opened_same bytes a b g h p q =
    let e = greets_same bytes p.0 q.0 p.1 q.1 p.3 q.3 in
    let m = same_match q.1 p.2 q.2 (subst (λ (r : Request). IsMatch r p.2) e.1 p.4) q.4 in
    let o = subst (λ (t : List ℕ). Opens p.2 t a g) e.0 p.5 in
    opens_same q.2 q.0 a b g h (subst (λ (k : Match). Opens k q.0 a g) m o) q.5

-- where a handshake is opened there is no fault
opened_call : {A : Type 0} (m : Match) (r : Request) (rest : List ℕ) (a : Asked) (g : Bool) (f : Fault) → IsMatch r m → IsKnown r → Opens m rest a g → CallFault rest f → A
opened_call Both r rest a g f p k o h = absurd (no_call_fault rest o.0.0 f o.0.1 h)
opened_call Client r rest a g f p k o h = absurd (no_call_fault rest o.0.0 f o.0.1 h)
opened_call Stranger r rest a g f p k o h = known_stranger r k p

opened_fault : {A : Type 0} (bytes : List ℕ) (a : Asked) (g : Bool) (f : Fault) → AnswersFirst bytes (Ok a) g → FirstFault bytes f → A
opened_fault bytes a g f p (InRequest h) = absurd (no_request_fault p.3.front p.0 p.1 f p.3.request (subst (λ (t : List ℕ). RequestFault t f) p.3.whole h))
opened_fault bytes a g f p (InCall front rest r inner whole request known h e) =
    let s = greets_same bytes p.0 rest p.1 r p.3 (record { front = front; whole = whole; request = request }) in
    opened_call p.2 p.1 p.0 a g inner p.4 (subst IsKnown (sym s.1) known) p.5 (subst (λ (t : List ℕ). CallFault t inner) (sym s.0) h)

-- another protocol's text has no fault before it
other_fault : {A : Type 0} (bytes rest : List ℕ) (r : Request) (f : Fault) → Greets bytes rest r → IsOther r → FirstFault bytes f → A
other_fault bytes rest r f p o (InRequest h) = absurd (no_request_fault p.front rest r f p.request (subst (λ (t : List ℕ). RequestFault t f) p.whole h))
other_fault bytes rest r f p o (InCall front rest' r' inner whole request known h e) =
    let s = greets_same bytes rest rest' r r' p (record { front = front; whole = whole; request = request }) in
    known_other r' known (subst IsOther s.1 o)

opened_other : {A : Type 0} (bytes rest : List ℕ) (a : Asked) (r : Request) (g : Bool) → AnswersFirst bytes (Ok a) g → Greets bytes rest r → IsOther r → A
opened_other bytes rest a r g p q o =
    let s = greets_same bytes p.0 rest p.1 r p.3 q in
    match_other r p.2 (subst (λ (k : Request). IsMatch k p.2) s.1 p.4) o

same_fault : (bytes : List ℕ) (f g : Fault) → FirstFault bytes f → FirstFault bytes g → f ≡ g
same_fault bytes f g (InRequest h) (InRequest k) = one_request_fault bytes f g h k
same_fault bytes f g (InRequest h) (InCall front rest r inner whole request known k e) = absurd (no_request_fault front rest r f request (subst (λ (t : List ℕ). RequestFault t f) whole h))
same_fault bytes f g (InCall front rest r inner whole request known k e) (InRequest h) = absurd (no_request_fault front rest r g request (subst (λ (t : List ℕ). RequestFault t g) whole h))
same_fault bytes f g (InCall front rest r inner whole request known h e) (InCall front' rest' r' inner' whole' request' known' h' e') =
    let p = sym whole ∙ whole' in
    let s = one_request front front' rest rest' r r' request request' p in
    let t = rest_same front front' rest rest' s.0 p in
    same_shift front front' inner inner' f g s.0 (one_call_fault rest' inner inner' (subst (λ (x : List ℕ). CallFault x inner) t h) h') e e'

-- ---- all messages

-- a message has one answer, except when out of memory
pub one_answer_lem : OneAnswer
one_answer_lem false bytes (Ok a) (Ok b) g h p q = opened_same bytes a b g h p q
one_answer_lem false bytes (Ok a) (Err (BadHandshake at)) g h p q = opened_fault bytes a g q.0.0 p q.0.1
one_answer_lem false bytes (Ok a) (Err OtherProtocol) g h p q = opened_other bytes q.0.0 a q.0.1 g p q.0.2 q.0.3
one_answer_lem false bytes (Ok a) (Err NoMemory) g h p q = tt
one_answer_lem false bytes (Err (BadHandshake at)) (Ok b) g h p q = opened_fault bytes b h p.0.0 q p.0.1
one_answer_lem false bytes (Err (BadHandshake at)) (Err (BadHandshake at')) g h p q =
    (p.0.2 ∙ ap place (same_fault bytes p.0.0 q.0.0 p.0.1 q.0.1) ∙ sym q.0.2, p.1 ∙ sym q.1)
one_answer_lem false bytes (Err (BadHandshake at)) (Err OtherProtocol) g h p q = other_fault bytes q.0.0 q.0.1 p.0.0 q.0.2 q.0.3 p.0.1
one_answer_lem false bytes (Err (BadHandshake at)) (Err NoMemory) g h p q = tt
one_answer_lem false bytes (Err OtherProtocol) (Ok b) g h p q = opened_other bytes p.0.0 b p.0.1 h q p.0.2 p.0.3
one_answer_lem false bytes (Err OtherProtocol) (Err (BadHandshake at)) g h p q = other_fault bytes p.0.0 p.0.1 q.0.0 p.0.2 p.0.3 q.0.1
one_answer_lem false bytes (Err OtherProtocol) (Err OtherProtocol) g h p q = p.1 ∙ sym q.1
one_answer_lem false bytes (Err OtherProtocol) (Err NoMemory) g h p q = tt
one_answer_lem false bytes (Err NoMemory) s g h p q = tt
one_answer_lem true bytes (Ok a) (Ok b) g h p q = (call_same [] bytes a b p.0 q.0, p.1 ∙ sym q.1)
one_answer_lem true bytes (Ok a) (Err (BadHandshake at)) g h p q = absurd (no_call_fault bytes p.0.0 q.0.0 p.0.1 q.0.1)
one_answer_lem true bytes (Ok a) (Err OtherProtocol) g h p q = absurd q
one_answer_lem true bytes (Ok a) (Err NoMemory) g h p q = tt
one_answer_lem true bytes (Err (BadHandshake at)) (Ok b) g h p q = absurd (no_call_fault bytes q.0.0 p.0.0 q.0.1 p.0.1)
one_answer_lem true bytes (Err (BadHandshake at)) (Err (BadHandshake at')) g h p q =
    (p.0.2 ∙ ap place (one_call_fault bytes p.0.0 q.0.0 p.0.1 q.0.1) ∙ sym q.0.2, p.1 ∙ sym q.1)
one_answer_lem true bytes (Err (BadHandshake at)) (Err OtherProtocol) g h p q = absurd q
one_answer_lem true bytes (Err (BadHandshake at)) (Err NoMemory) g h p q = tt
one_answer_lem true bytes (Err OtherProtocol) s g h p q = absurd p
one_answer_lem true bytes (Err NoMemory) s g h p q = tt

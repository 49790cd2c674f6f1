-- A connection has one dialogue, and its end is final.
use Rattle.std.proofs.Common.{◌≡◌, ℕ, List, [], ◌∷◌, ◌++◌, refl, sym, ap, subst, ◌∙◌, append_assoc}
use Rattle.std.specs.Prelude.{Bool, Ok, Err}
use Rattle.avro_hop.specs.declared.hop.Asked.{Asked}
use Rattle.avro_hop.specs.declared.hop.Asked.TheVariants.{Reply, Events}
use Rattle.avro_hop.specs.declared.hop.HopRefused.{HopRefused}
use Rattle.avro_hop.specs.declared.hop.HopRefused.TheVariants.{BadHandshake, OtherProtocol, NoMemory}
use Rattle.avro_hop.specs.declared.respond.Status.{Status}
use Rattle.avro_hop.specs.Dialogue.{Answers}
use Rattle.avro_hop.specs.Laws.{SameAsked, SameAnswer}
use Rattle.avro_hop.specs.Connection.{Standing, Waits, Ended, Sends, IsDialogue, Silent, Answered, Refused, OneDialogue, DialoguesJoin, serials, SerialsAreKept, EndsAt, EndsAreFinal}
use Rattle.avro_hop.proofs.OneAnswer.{one_answer_lem}

cons_same : {A : Type 0} (a b : A) (xs ys : List A) → a ∷ xs ≡ b ∷ ys → (a ≡ b) × (xs ≡ ys)
cons_same a b xs ys e = (cc, cc)

some_none : {A B : Type 0} (a : A) (xs : List A) → a ∷ xs ≡ [] → B
some_none a xs e = absurd cc

-- ---- one message has one answer

answered_once : (g h : Bool) (m n : List ℕ) (a b : Asked) (g' h' : Bool) → g ≡ h → m ≡ n → Answers g m (Ok a) g' → Answers h n (Ok b) h' → SameAsked a b × (g' ≡ h')
answered_once g h m n a b g' h' e f p q = one_answer_lem h n (Ok a) (Ok b) g' h' (subst (λ (x : Bool). Answers x n (Ok a) g') e (subst (λ (x : List ℕ). Answers g x (Ok a) g') f p)) q

no_refusal : {A : Type 0} (a : Asked) (e : HopRefused) (g h : Bool) → (e ≡ NoMemory → ⊥) → SameAnswer (Ok a) g (Err e) h → A
no_refusal a (BadHandshake at) g h other s = absurd s
no_refusal a OtherProtocol g h other s = absurd s
no_refusal a NoMemory g h other s = absurd (other refl)

answered_or_refused : {A : Type 0} (g h : Bool) (m n : List ℕ) (a : Asked) (e : HopRefused) (g' h' : Bool) → g ≡ h → m ≡ n → (e ≡ NoMemory → ⊥) → Answers g m (Ok a) g' → Answers h n (Err e) h' → A
answered_or_refused g h m n a e g' h' p q other x y = no_refusal a e g' h' other (one_answer_lem h n (Ok a) (Err e) g' h' (subst (λ (b : Bool). Answers b n (Ok a) g') p (subst (λ (b : List ℕ). Answers g b (Ok a) g') q x)) y)

one_refusal : (d e : HopRefused) (g h : Bool) → (d ≡ NoMemory → ⊥) → (e ≡ NoMemory → ⊥) → SameAnswer (Err d) g (Err e) h → d ≡ e
one_refusal (BadHandshake at) (BadHandshake at') g h p q s = ap (λ (x : ℕ). BadHandshake x) s.0
one_refusal (BadHandshake at) OtherProtocol g h p q s = absurd s
one_refusal (BadHandshake at) NoMemory g h p q s = absurd (q refl)
one_refusal OtherProtocol (BadHandshake at) g h p q s = absurd s
one_refusal OtherProtocol OtherProtocol g h p q s = refl
one_refusal OtherProtocol NoMemory g h p q s = absurd (q refl)
one_refusal NoMemory e g h p q s = absurd (p refl)

refused_once : (g h : Bool) (m n : List ℕ) (d e : HopRefused) (g' h' : Bool) → g ≡ h → m ≡ n → (d ≡ NoMemory → ⊥) → (e ≡ NoMemory → ⊥) → Answers g m (Err d) g' → Answers h n (Err e) h' → d ≡ e
refused_once g h m n d e g' h' p q some other x y = one_refusal d e g' h' some other (one_answer_lem h n (Err d) (Err e) g' h' (subst (λ (b : Bool). Answers b n (Err d) g') p (subst (λ (b : List ℕ). Answers g b (Err d) g') q x)) y)

-- the same reply, and the same verdicts after it
same_reply : (a b : Asked) (told told' verdicts verdicts' : List Status) (reply reply' : List ℕ) → SameAsked a b → Sends a told reply → Sends b told' reply' → told ++ verdicts ≡ told' ++ verdicts' → (verdicts ≡ verdicts') × (reply ≡ reply')
same_reply (Reply x) (Reply y) told told' verdicts verdicts' reply reply' s p q e = (rw (p.0, q.0) at e, p.1 ∙ s ∙ sym q.1)
same_reply (Reply x) (Events front batch) told told' verdicts verdicts' reply reply' s p q e = absurd s
same_reply (Events front batch) (Reply y) told told' verdicts verdicts' reply reply' s p q e = absurd s
same_reply (Events front batch) (Events front' batch') told told' verdicts verdicts' reply reply' s p q e =
    let f = cons_same p.0 q.0 verdicts verdicts' (rw (p.1, q.1) at e) in
    let bytes = s.0 in
    let status = f.0 in
    let mine = p.2 in
    let theirs = q.2 in
    (f.1, cc)

-- ---- one dialogue

dialogue_same : (g h : Bool) (ms ns : List (ℕ × List ℕ)) (vs ws : List Status) (rs ss : List (ℕ × List ℕ)) (end other : Standing) → g ≡ h → ms ≡ ns → vs ≡ ws → IsDialogue g ms vs rs end → IsDialogue h ns ws ss other → (rs ≡ ss) × (end ≡ other)
dialogue_same g h ms ns vs ws rs ss end other p q r (Silent a) (Silent b) = (refl, ap (λ (x : Bool). Waits x) p)
dialogue_same g h ms ns vs ws rs ss end other p q r (Silent a) (Answered b b' serial payload reply asked told verdicts messages replies last x y d) = some_none (serial, payload) messages (sym q)
dialogue_same g h ms ns vs ws rs ss end other p q r (Silent a) (Refused b b' serial payload messages e some x) = some_none (serial, payload) messages (sym q)
dialogue_same g h ms ns vs ws rs ss end other p q r (Answered a a' serial payload reply asked told verdicts messages replies last x y d) (Silent b) = some_none (serial, payload) messages q
dialogue_same g h ms ns vs ws rs ss end other p q r (Answered a a' serial payload reply asked told verdicts messages replies last x y d) (Answered b b' serial' payload' reply' asked' told' verdicts' messages' replies' last' x' y' d') =
    let m = cons_same (serial, payload) (serial', payload') messages messages' q in
    let number : serial ≡ serial' = ap (λ (t : ℕ × List ℕ). t.0) m.0 in
    let once = answered_once a b payload payload' asked asked' a' b' p (ap (λ (t : ℕ × List ℕ). t.1) m.0) x x' in
    let s = same_reply asked asked' told told' verdicts verdicts' reply reply' once.0 y y' r in
    let later = dialogue_same a' b' messages messages' verdicts verdicts' replies replies' last last' once.1 m.1 s.0 d d' in
    let bytes = s.1 in
    let tail = later.0 in
    (cc, later.1)
dialogue_same g h ms ns vs ws rs ss end other p q r (Answered a a' serial payload reply asked told verdicts messages replies last x y d) (Refused b b' serial' payload' messages' e some x') =
    let m = cons_same (serial, payload) (serial', payload') messages messages' q in
    answered_or_refused a b payload payload' asked e a' b' p (ap (λ (t : ℕ × List ℕ). t.1) m.0) some x x'
dialogue_same g h ms ns vs ws rs ss end other p q r (Refused a a' serial payload messages e some x) (Silent b) = some_none (serial, payload) messages q
dialogue_same g h ms ns vs ws rs ss end other p q r (Refused a a' serial payload messages e some x) (Answered b b' serial' payload' reply asked told verdicts messages' replies last x' y d) =
    let m = cons_same (serial, payload) (serial', payload') messages messages' q in
    answered_or_refused b a payload' payload asked e b' a' (sym p) (sym (ap (λ (t : ℕ × List ℕ). t.1) m.0)) some x' x
dialogue_same g h ms ns vs ws rs ss end other p q r (Refused a a' serial payload messages e some x) (Refused b b' serial' payload' messages' e' some' x') =
    let m = cons_same (serial, payload) (serial', payload') messages messages' q in
    (refl, ap (λ (t : HopRefused). Ended t) (refused_once a b payload payload' e e' a' b' p (ap (λ (t : ℕ × List ℕ). t.1) m.0) some some' x x'))

-- messages and verdicts lead to the same replies and the same end
pub one_dialogue_lem : OneDialogue
one_dialogue_lem greeted messages verdicts replies others end other d f = dialogue_same greeted greeted messages messages verdicts verdicts replies others end other refl refl refl d f

-- ---- dialogues go on

waits_same : (g h : Bool) → Waits g ≡ Waits h → g ≡ h
waits_same g h e = cc

joined : (g h : Bool) (ms ns : List (ℕ × List ℕ)) (vs ws : List Status) (rs ss : List (ℕ × List ℕ)) (end last : Standing) → IsDialogue g ms vs rs last → last ≡ Waits h → IsDialogue h ns ws ss end → IsDialogue g (ms ++ ns) (vs ++ ws) (rs ++ ss) end
joined g h ms ns vs ws rs ss end last (Silent a) e d = subst (λ (x : Bool). IsDialogue x ns ws ss end) (sym (waits_same a h e)) d
joined g h ms ns vs ws rs ss end last (Answered a a' serial payload reply asked told verdicts messages replies stands x y f) e d =
    subst (λ (t : List Status). IsDialogue a ((serial, payload) ∷ (messages ++ ns)) t ((serial, reply) ∷ (replies ++ ss)) end) (sym (append_assoc told verdicts ws))
    (Answered a a' serial payload reply asked told (verdicts ++ ws) (messages ++ ns) (replies ++ ss) end x y (joined a' h messages ns verdicts ws replies ss end stands f e d))
joined g h ms ns vs ws rs ss end last (Refused a a' serial payload messages refusal some x) e d = absurd cc

-- a dialogue that waits goes on with another one
pub dialogues_join : DialoguesJoin
dialogues_join greeted after messages more verdicts further replies later end d f = joined greeted after messages more verdicts further replies later end (Waits after) d refl f

kept : (g h : Bool) (ms : List (ℕ × List ℕ)) (vs : List Status) (rs : List (ℕ × List ℕ)) (last : Standing) → IsDialogue g ms vs rs last → last ≡ Waits h → serials rs ≡ serials ms
kept g h ms vs rs last (Silent a) e = refl
kept g h ms vs rs last (Answered a a' serial payload reply asked told verdicts messages replies stands x y f) e = ap (λ (t : List ℕ). serial ∷ t) (kept a' h messages verdicts replies stands f e)
kept g h ms vs rs last (Refused a a' serial payload messages refusal some x) e = absurd cc

-- a connection that waits has answered each message once, in order and under its serial
pub serials_are_kept : SerialsAreKept
serials_are_kept greeted after messages verdicts replies d = kept greeted after messages verdicts replies (Waits after) d refl

-- ---- the end

ended_same : (d e : HopRefused) → Ended d ≡ Ended e → d ≡ e
ended_same d e p = cc

ends_at : (g : Bool) (ms : List (ℕ × List ℕ)) (vs : List Status) (rs : List (ℕ × List ℕ)) (last : Standing) (e : HopRefused) → IsDialogue g ms vs rs last → last ≡ Ended e → EndsAt g ms vs rs e
ends_at g ms vs rs last e (Silent a) p = absurd cc
ends_at g ms vs rs last e (Answered a a' serial payload reply asked told verdicts messages replies stands x y f) p =
    let k = ends_at a' messages verdicts replies stands e f p in
    record {
      answered = (serial, payload) ∷ k.answered;
      serial = k.serial;
      payload = k.payload;
      behind = k.behind;
      before = k.before;
      after = k.after;
      whole = ap (λ (t : List (ℕ × List ℕ)). (serial, payload) ∷ t) k.whole;
      dialogue = Answered a a' serial payload reply asked told verdicts k.answered replies (Waits k.before) x y k.dialogue;
      refused = k.refused;
    }
ends_at g ms vs rs last e (Refused a a' serial payload messages refusal some x) p = record {
  answered = [];
  serial = serial;
  payload = payload;
  behind = messages;
  before = a;
  after = a';
  whole = refl;
  dialogue = Silent a;
  refused = subst (λ (t : HopRefused). Answers a payload (Err t) a') (ended_same refusal e p) x;
}

goes_no_further : (g : Bool) (ms more : List (ℕ × List ℕ)) (vs : List Status) (rs : List (ℕ × List ℕ)) (last : Standing) (e : HopRefused) → IsDialogue g ms vs rs last → last ≡ Ended e → IsDialogue g (ms ++ more) vs rs last
goes_no_further g ms more vs rs last e (Silent a) p = absurd cc
goes_no_further g ms more vs rs last e (Answered a a' serial payload reply asked told verdicts messages replies stands x y f) p =
    Answered a a' serial payload reply asked told verdicts (messages ++ more) replies stands x y (goes_no_further a' messages more verdicts replies stands e f p)
goes_no_further g ms more vs rs last e (Refused a a' serial payload messages refusal some x) p = Refused a a' serial payload (messages ++ more) refusal some x

-- a connection ends at a message that is refused, and what comes behind it changes nothing
pub ends_are_final : EndsAreFinal
ends_are_final greeted messages more verdicts replies e d = (ends_at greeted messages verdicts replies (Ended e) e d refl, goes_no_further greeted messages more verdicts replies (Ended e) e d refl)

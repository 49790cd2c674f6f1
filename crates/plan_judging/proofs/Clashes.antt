-- The clashes of claims are told by the least line on which each claim has stood.
use Rattle.std.proofs.Common.{◌≡◌, ℕ, ◌<◌, ◌≤◌, Bool, true, false, ◌||◌, ◌&&◌, ◌==◌, nat_lt, List, [], ◌∷◌, ◌++◌, Option, None, Some, option_map, min, max, ◌+◌, length, get_or, take, refl, sym, ap, ◌∙◌, arith, if◌then◌else◌, ⊎_elim}
use Rattle.std.proofs.lemmas.List.{take_more}
use Rattle.std.proofs.lemmas.Bool.{and_parts, eqb-true, cond-true, cond-false, cases_Bool, and_right, lt-ltb, le-ltb, ltb-true, ltb-false}
use Rattle.std.specs.Borrow.{Bor}
use Rattle.std.specs.Map.{lookup}
use Rattle.std.specs.Str.{bytes_eq}
use Rattle.std.specs.Cmp.Lexicographic.{bytes_decides}
use Rattle.indexmap.specs.IndexMap.{IndexMap, get, Updates}
use Rattle.plan_judging.specs.declared.claims.Claim.{Claim}
use Rattle.plan_judging.specs.declared.findings.Fault.{Fault}
use Rattle.plan_judging.specs.declared.findings.FaultKind.{FaultKind}
use Rattle.plan_judging.specs.declared.findings.FaultKind.TheVariants.{UnknownType, UnknownName, BadNumber, BadPattern, Unsupported, Clash}
use Rattle.plan_judging.specs.Candidates.{Seen, adds, first_of, precedes, rank, nothing, each}
use Rattle.plan_judging.specs.Rows.{one_fault}
use Rattle.plan_judging.specs.Claims.{Wish, code, wish, wishes, same_wish, clash, clashes, least_with, clash_with}
use Rattle.plan_judging.proofs.Joins.{adds_more}

-- the lesser of two lines, where there are any
abbrev pub lesser : Option ℕ → Option ℕ → Option ℕ
lesser None o = o
lesser (Some a) None = Some a
lesser (Some a) (Some b) = Some (min a b)

lesser_none : (o : Option ℕ) → lesser o None ≡ o
lesser_none None = refl
lesser_none (Some a) = refl

some_same : {a b : ℕ} → a ≡ b → Some a ≡ Some b
some_same e = ap (λ n. Some n) e

lesser_comm : (a b : Option ℕ) → lesser a b ≡ lesser b a
lesser_comm None None = refl
lesser_comm None (Some b) = refl
lesser_comm (Some a) None = refl
lesser_comm (Some a) (Some b) = some_same (omega arith)

lesser_assoc : (a b c : Option ℕ) → lesser (lesser a b) c ≡ lesser a (lesser b c)
lesser_assoc None b c = refl
lesser_assoc (Some a) None c = refl
lesser_assoc (Some a) (Some b) None = refl
lesser_assoc (Some a) (Some b) (Some c) = some_same (omega arith)

lesser_swaps : (a b c d : Option ℕ) → lesser (lesser a b) (lesser c d) ≡ lesser (lesser a c) (lesser b d)
lesser_swaps a b c d =
    lesser_assoc a b (lesser c d)
    ∙ ap (lesser a) (sym (lesser_assoc b c d) ∙ ap (λ o. lesser o d) (lesser_comm b c) ∙ lesser_assoc c b d)
    ∙ sym (lesser_assoc a c (lesser b d))

-- what was seen, and a clash on the line
abbrev pub with_line : Seen → Option ℕ → Seen
with_line s None = s
with_line s (Some line) = adds s (one_fault line Clash)

abbrev clash_on : ℕ → Fault
clash_on line = record { line = line; kind = Clash }

rank_is_low : (kind : FaultKind) → nat_lt 5 (rank kind) ≡ false
rank_is_low UnknownType = refl
rank_is_low UnknownName = refl
rank_is_low BadNumber = refl
rank_is_low BadPattern = refl
rank_is_low Unsupported = refl
rank_is_low Clash = refl

or_no : (a b : Bool) → b ≡ false → (a || b) ≡ a
or_no true b f = refl
or_no false b f = f

-- of two faults on one line a clash is the later
clash_precedes : (line : ℕ) (g : Fault) → precedes (clash_on line) g ≡ nat_lt line g.line
clash_precedes line g = or_no (nat_lt line g.line) _ (and_right (line == g.line) (nat_lt 5 (rank g.kind)) (rank_is_low g.kind))

first_clash : (line : ℕ) (g : Fault) → first_of (Some g) (clash_on line) ≡ (if nat_lt line g.line then Some (clash_on line) else Some g)
first_clash line g = ap (λ b. if b then Some (clash_on line) else Some g) (clash_precedes line g)

clash_before : (line : ℕ) (g : Fault) → line < g.line → first_of (Some g) (clash_on line) ≡ Some (clash_on line)
clash_before line g less = first_clash line g ∙ cond-true (nat_lt line g.line) (Some (clash_on line)) (Some g) (lt-ltb line g.line less)

clash_behind : (line : ℕ) (g : Fault) → g.line ≤ line → first_of (Some g) (clash_on line) ≡ Some g
clash_behind line g more = first_clash line g ∙ cond-false (nat_lt line g.line) (Some (clash_on line)) (Some g) (le-ltb line g.line more)

fault_on : {a b : ℕ} → a ≡ b → Some (clash_on a) ≡ Some (clash_on b)
fault_on e = ap (λ n. Some (clash_on n)) e

two_clashes : (a b : ℕ) → first_of (Some (clash_on a)) (clash_on b) ≡ Some (clash_on (min a b))
two_clashes a b =
    ⊎_elim
    (λ t. let less = ltb-true b a t in clash_before b (clash_on a) less ∙ fault_on (omega (arith, less)))
    (λ f. let more = ltb-false b a f in clash_behind b (clash_on a) more ∙ fault_on (omega (arith, more)))
    (cases_Bool (nat_lt b a))

first_of_two : (o : Option Fault) (a b : ℕ) → first_of (first_of o (clash_on a)) (clash_on b) ≡ first_of o (clash_on (min a b))
first_of_two None a b = two_clashes a b
first_of_two (Some g) a b =
    ⊎_elim
    (λ t.
    let less = ltb-true a g.line t in
    ap (λ o. first_of o (clash_on b)) (clash_before a g less) ∙ two_clashes a b ∙ sym (clash_before (min a b) g (omega (arith, less))))
    (λ f.
    let more = ltb-false a g.line f in
    ap (λ o. first_of o (clash_on b)) (clash_behind a g more) ∙ behind more)
    (cases_Bool (nat_lt a g.line))
  where
    behind : g.line ≤ a → first_of (Some g) (clash_on b) ≡ first_of (Some g) (clash_on (min a b))
    behind more =
        ⊎_elim
        (λ t. let less = ltb-true b g.line t in ap (λ n. first_of (Some g) (clash_on n)) (omega (arith, less, more)))
        (λ f. let later = ltb-false b g.line f in clash_behind b g later ∙ sym (clash_behind (min a b) g (omega (arith, more, later))))
        (cases_Bool (nat_lt b g.line))

-- of two clashes the one on the lesser line counts
pub line_and_line : (s : Seen) (a b : Option ℕ) → with_line (with_line s a) b ≡ with_line s (lesser a b)
unfolding adds
line_and_line s None b = refl
line_and_line s (Some a) None = refl
line_and_line s (Some a) (Some b) = λ i. record { fault = first_of_two s.fault a b i; missing = s.missing }

-- where the two claims are the same, the later line
abbrev both : Wish → Wish → Option ℕ
both v w = if same_wish v w then Some (max v.line w.line) else None

adds_clash : (s : Seen) (v w : Wish) → adds s (clash v w) ≡ with_line s (both v w)
unfolding adds
adds_clash s v w =
    ⊎_elim
    (λ t. ap (adds s) (cond-true (same_wish v w) (one_fault (max v.line w.line) Clash) nothing t) ∙ sym (ap (with_line s) (cond-true (same_wish v w) (Some (max v.line w.line)) None t)))
    (λ f. ap (adds s) (cond-false (same_wish v w) (one_fault (max v.line w.line) Clash) nothing f) ∙ sym (ap (with_line s) (cond-false (same_wish v w) (Some (max v.line w.line)) None f)))
    (cases_Bool (same_wish v w))

-- the least line of the clashes of a claim with those after it
abbrev later : Wish → List Wish → Option ℕ
later w [] = None
later w (v ∷ vs) = lesser (both w v) (later w vs)

-- and with those before it
abbrev earlier : Wish → List Wish → Option ℕ
earlier w [] = None
earlier w (v ∷ vs) = lesser (both v w) (earlier w vs)

-- the least line of all clashes
abbrev pub least_clash : List Wish → Option ℕ
least_clash [] = None
least_clash (w ∷ ws) = lesser (later w ws) (least_clash ws)

adds_later : (s : Seen) (w : Wish) (vs : List Wish) → adds s (each (clash w) vs) ≡ with_line s (later w vs)
unfolding adds
adds_later s w [] = refl
adds_later s w (v ∷ vs) =
    sym (adds_more s (clash w v) (each (clash w) vs))
    ∙ adds_later (adds s (clash w v)) w vs
    ∙ ap (λ t. with_line t (later w vs)) (adds_clash s w v)
    ∙ line_and_line s (both w v) (later w vs)

-- all clashes count as one, on the least line of them
pub adds_clashes : (s : Seen) (ws : List Wish) → adds s (clashes ws) ≡ with_line s (least_clash ws)
unfolding adds
adds_clashes s [] = refl
adds_clashes s (w ∷ ws) =
    sym (adds_more s (each (clash w) ws) (clashes ws))
    ∙ adds_clashes (adds s (each (clash w) ws)) ws
    ∙ ap (λ t. with_line t (least_clash ws)) (adds_later s w ws)
    ∙ line_and_line s (later w ws) (least_clash ws)

later_more : (p w : Wish) (ps : List Wish) → later p (ps ++ w ∷ []) ≡ lesser (later p ps) (both p w)
later_more p w [] = lesser_none (both p w)
later_more p w (q ∷ ps) = ap (lesser (both p q)) (later_more p w ps) ∙ sym (lesser_assoc (both p q) (later p ps) (both p w))

least_more : (ps : List Wish) (w : Wish) → least_clash (ps ++ w ∷ []) ≡ lesser (least_clash ps) (earlier w ps)
least_more [] w = refl
least_more (p ∷ ps) w =
    (λ i. lesser (later_more p w ps i) (least_more ps w i))
    ∙ lesser_swaps (later p ps) (both p w) (least_clash ps) (earlier w ps)

-- whether a claim is of this kind, text and number
abbrev pub is_same : ℕ → List ℕ → ℕ → Wish → Bool
is_same kind text number v = (code v.what == kind && bytes_eq v.text text) && v.number == number

abbrev pub line_if : Bool → ℕ → Option ℕ
line_if b line = if b then Some line else None

-- the least line on which such a claim stands
abbrev pub least_line : ℕ → List ℕ → ℕ → List Wish → Option ℕ
least_line kind text number [] = None
least_line kind text number (v ∷ vs) = lesser (line_if (is_same kind text number v) v.line) (least_line kind text number vs)

-- the least line of a claim among others and one more
pub line_more : (kind : ℕ) (text : List ℕ) (number : ℕ) (ps : List Wish) (w : Wish) → least_line kind text number (ps ++ w ∷ []) ≡ lesser (least_line kind text number ps) (line_if (is_same kind text number w) w.line)
line_more kind text number [] w = lesser_none _
line_more kind text number (p ∷ ps) w =
    ap (lesser (line_if (is_same kind text number p) p.line)) (line_more kind text number ps w)
    ∙ sym (lesser_assoc (line_if (is_same kind text number p) p.line) (least_line kind text number ps) (line_if (is_same kind text number w) w.line))

-- the line of a clash with a claim that stood on the line
abbrev pub later_of : ℕ → Option ℕ → Option ℕ
later_of line o = option_map (λ first. max first line) o

later_of_lesser : (line : ℕ) (a b : Option ℕ) → later_of line (lesser a b) ≡ lesser (later_of line a) (later_of line b)
later_of_lesser line None b = refl
later_of_lesser line (Some a) None = refl
later_of_lesser line (Some a) (Some b) = some_same (omega arith)

both_is : (v w : Wish) → both v w ≡ later_of w.line (line_if (is_same (code w.what) w.text w.number v) v.line)
both_is v w =
    ⊎_elim
    (λ t. cond-true (same_wish v w) (Some (max v.line w.line)) None t ∙ sym (ap (later_of w.line) (cond-true (same_wish v w) (Some v.line) None t)))
    (λ f. cond-false (same_wish v w) (Some (max v.line w.line)) None f ∙ sym (ap (later_of w.line) (cond-false (same_wish v w) (Some v.line) None f)))
    (cases_Bool (same_wish v w))

earlier_is : (w : Wish) (ps : List Wish) → earlier w ps ≡ later_of w.line (least_line (code w.what) w.text w.number ps)
earlier_is w [] = refl
earlier_is w (p ∷ ps) =
    (λ i. lesser (both_is p w i) (earlier_is w ps i))
    ∙ sym (later_of_lesser w.line (line_if (is_same (code w.what) w.text w.number p) p.line) (least_line (code w.what) w.text w.number ps))

adds_clash_with : (s : Seen) (first : Option ℕ) (line : ℕ) → adds s (clash_with first line) ≡ with_line s (later_of line first)
unfolding adds
adds_clash_with s None line = refl
adds_clash_with s (Some first) line = refl

-- one more claim, and the least line on which such a claim stood before
pub one_more_claim : (start : Seen) (ps : List Wish) (w : Wish) (first : Option ℕ) → first ≡ least_line (code w.what) w.text w.number ps → adds (with_line start (least_clash ps)) (clash_with first w.line) ≡ with_line start (least_clash (ps ++ w ∷ []))
one_more_claim start ps w first is =
    adds_clash_with (with_line start (least_clash ps)) first w.line
    ∙ ap (λ o. with_line (with_line start (least_clash ps)) (later_of w.line o)) is
    ∙ line_and_line start (least_clash ps) (later_of w.line (least_line (code w.what) w.text w.number ps))
    ∙ ap (λ o. with_line start (lesser (least_clash ps) o)) (sym (earlier_is w ps))
    ∙ ap (with_line start) (sym (least_more ps w))

-- the lesser of a line that may have been seen and a new one
pub lesser_line : (first : Option ℕ) (line : ℕ) → Some (least_with first line) ≡ lesser first (Some line)
lesser_line None line = refl
lesser_line (Some first) line = refl

-- the kind, the text and the number of a claim
abbrev pub Key : Type 0
Key = ℕ × Bor (List ℕ) × ℕ

abbrev pub same_keys : Key → Key → Bool
same_keys x y = (x.0 == y.0 && bytes_eq x.1.now y.1.now) && x.2 == y.2

-- a table has the least line on which each claim stands
pub record HasLines {S : Type 0} (table : IndexMap Key ℕ S) (ws : List Wish) : Type 0 where
  pub each : (q : Key) → get same_keys table q ≡ least_line q.0 q.1.now q.2 ws

-- an empty table has the lines of no claims
pub no_lines : {S : Type 0} (table : IndexMap Key ℕ S) → table.entries ≡ [] → HasLines table []
no_lines table none = record { each = λ q. ap (λ es. get_in es q) none }
  where
    get_in : List (Key × ℕ) → Key → Option ℕ
    get_in es q = lookup (same_keys q) es

-- a table that took in one more claim has the least lines of all
pub lines_go_on : {S : Type 0} (old new : IndexMap Key ℕ S) (ws : List Wish) (w : Wish) (key : Key) (line : ℕ) → key.0 ≡ code w.what → key.1.now ≡ w.text → key.2 ≡ w.number → line ≡ least_with (get same_keys old key) w.line → Updates same_keys old new key (Some line) → HasLines old ws → HasLines new (ws ++ w ∷ [])
lines_go_on {S} old new ws w key line kind text number is updates before = record { each = at }
  where
    same : Key → Bool
    same q = is_same q.0 q.1.now q.2 w

    same_is : (q : Key) → same_keys key q ≡ same q
    same_is q = λ i. (kind i == q.0 && bytes_eq (text i) q.1.now) && number i == q.2

    least : Key → Option ℕ
    least q = least_line q.0 q.1.now q.2 ws

    at_other : (q : Key) → same q ≡ false → get same_keys new q ≡ lesser (least q) (line_if (same q) w.line)
    at_other q f =
        updates.0 q ∙ cond-false (same_keys key q) (Some line) (get same_keys old q) (same_is q ∙ f) ∙ before.each q
        ∙ sym (ap (lesser (least q)) (cond-false (same q) (Some w.line) None f) ∙ lesser_none (least q))

    at_same : (q : Key) → same q ≡ true → get same_keys new q ≡ lesser (least q) (line_if (same q) w.line)
    at_same q t =
        let parts = and_parts (code w.what == q.0 && bytes_eq w.text q.1.now) (w.number == q.2) t in
        let front = and_parts (code w.what == q.0) (bytes_eq w.text q.1.now) parts.0 in
        let kinds : key.0 ≡ q.0 = kind ∙ eqb-true (code w.what) q.0 front.0 in
        let texts : key.1.now ≡ q.1.now = text ∙ (bytes_decides w.text q.1.now).0 front.1 in
        let numbers : key.2 ≡ q.2 = number ∙ eqb-true w.number q.2 parts.1 in
        updates.0 q ∙ cond-true (same_keys key q) (Some line) (get same_keys old q) (same_is q ∙ t)
        ∙ ap (λ n. Some n) is ∙ lesser_line (get same_keys old key) w.line
        ∙ ap (λ o. lesser o (Some w.line)) (before.each key ∙ (λ i. least_line (kinds i) (texts i) (numbers i) ws))
        ∙ sym (ap (lesser (least q)) (cond-true (same q) (Some w.line) None t))

    at : (q : Key) → get same_keys new q ≡ least_line q.0 q.1.now q.2 (ws ++ w ∷ [])
    at q = ⊎_elim (at_same q) (at_other q) (cases_Bool (same q)) ∙ sym (line_more q.0 q.1.now q.2 ws w)

-- the claims that are seen are followed by one more
pub claims_more : (claims : List Claim) (i : ℕ) (claim : Claim) → i < length claims → claim ≡ get_or claims i claim → wishes (take (i + 1) claims) ≡ wishes (take i claims) ++ wish claim ∷ []
claims_more claims i claim lt is = ap wishes (take_more claims i claim lt) ∙ mapped (take i claims) ∙ ap (λ c. wishes (take i claims) ++ wish c ∷ []) (sym is)
  where
    mapped : (cs : List Claim) → wishes (cs ++ get_or claims i claim ∷ []) ≡ wishes cs ++ wish (get_or claims i claim) ∷ []
    mapped [] = refl
    mapped (c ∷ cs) = ap (λ l. wish c ∷ l) (mapped cs)

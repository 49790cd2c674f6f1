-- The first fault of a log.
use Rattle.std.proofs.Common.{◌≡◌, ◌++◌, ◌∷◌, [], ℕ, List, sym, ◌∙◌, subst}
use Rattle.event_core.specs.Journal.{Base}
use Rattle.channel_replay.specs.Laws.{HasOneFault, RecoversOrBad}
use Rattle.channel_replay.specs.Marks.{Past}
use Rattle.channel_replay.specs.Recover.{AreSound, Begins, Faulty, IsAt, IsSound, Line, Stands, empty_base, past_line, past_lines}
use Rattle.channel_replay.proofs.OneList.{has_one_list}

sound_behind : (base : Base) (past : Past) (a b : List Line) → AreSound base past (a ++ b) → AreSound base (past_lines past a) b
sound_behind base past [] b sound = sound
sound_behind base past (line ∷ a) b sound = sound_behind base (past_line past line) a b sound.1

-- a folder that recovers has no fault
pub not_both : RecoversOrBad
not_both files left txn file at recovers bad =
    let one = has_one_list files in
    let fault = bad one.0 one.1 in
    let sound : AreSound empty_base [] (fault.before ++ fault.line ∷ fault.behind) = subst (λ (l : List Line). AreSound empty_base [] l) fault.split (recovers one.0 one.1).sound in
    fault.bad (sound_behind empty_base [] fault.before (fault.line ∷ fault.behind) sound).0

heads : (x y : Line) (p q : List Line) → x ∷ p ≡ y ∷ q → x ≡ y
heads x y p q same = cc

tails : (x y : Line) (p q : List Line) → x ∷ p ≡ y ∷ q → p ≡ q
tails x y p q same = cc

same_line : (base : Base) (past : Past) (a b : List Line) (x y : Line) (p q : List Line) → a ++ x ∷ p ≡ b ++ y ∷ q → AreSound base past a → AreSound base past b → (IsSound base (past_lines past a) x → ⊥) → (IsSound base (past_lines past b) y → ⊥) → x ≡ y
same_line base past [] [] x y p q same sound sound' bad bad' = heads x y p q same
same_line base past [] (m ∷ b) x y p q same sound sound' bad bad' = absurd (bad (subst (λ (l : Line). IsSound base past l) (sym (heads x m p (b ++ y ∷ q) same)) sound'.0))
same_line base past (l ∷ a) [] x y p q same sound sound' bad bad' = absurd (bad' (subst (λ (k : Line). IsSound base past k) (heads l y (a ++ x ∷ p) q same) sound.0))
same_line base past (l ∷ a) (m ∷ b) x y p q same sound sound' bad bad' =
    let one : m ≡ l = sym (heads l m (a ++ x ∷ p) (b ++ y ∷ q) same) in
    same_line base (past_line past l) a b x y p q (tails l m (a ++ x ∷ p) (b ++ y ∷ q) same) sound.1
    (subst (λ (k : Line). AreSound base (past_line past k) b) one sound'.1) bad
    (λ is. bad' (subst (λ (k : Line). IsSound base (past_lines (past_line past k) b) y) (sym one) is))

same_place : (line : Line) (file at file' at' : ℕ) → IsAt line file at → IsAt line file' at' → (file ≡ file') × (at ≡ at')
same_place Begins file at file' at' here there = absurd here
same_place (Stands f a rec) file at file' at' here there = (here.0 ∙ sym there.0, here.1 ∙ sym there.1)
same_place (Faulty f a) file at file' at' here there = (here.0 ∙ sym there.0, here.1 ∙ sym there.1)

-- the first fault of a folder is at one place
pub one_fault : HasOneFault
one_fault files file at file' at' first second =
    let one = has_one_list files in
    let f = first one.0 one.1 in
    let g = second one.0 one.1 in
    let same : f.line ≡ g.line = same_line empty_base [] f.before g.before f.line g.line f.behind g.behind (sym f.split ∙ g.split) f.sound g.sound f.bad g.bad in
    same_place f.line file at file' at' f.place (subst (λ (l : Line). IsAt l file' at') (sym same) g.place)

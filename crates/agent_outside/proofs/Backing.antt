-- Folders of rolled files that are opened and come back, one after the other.
use Rattle.std.proofs.Common.{◌≡◌, ◌≢◌, ◌∙◌, ◌||◌, ℕ, List, [], ◌∷◌, ◌++◌, Bool, true, false, cond, Option, IsTrue, refl, sym, ap, bytes_eq, true≢false}
use Rattle.std.proofs.lemmas.List.{map-append}
use Rattle.std.proofs.lemmas.Slice.Eq.{bytes_eq-Decides}
use Rattle.flume_host.specs.HostState.{Folders, ButRoll}
use Rattle.flume_host.specs.Rolled.{Rolled, opened}
use Rattle.agent_outside.specs.Backs.{RollBack, RollsBack, RollsOut, Reopened, is_among, paths_of, told_of}

-- ---- texts

same_path : (a b : List ℕ) → bytes_eq a b ≡ true → a ≡ b
same_path a b is = (bytes_eq-Decides a b).0 is

other_path : (a b : List ℕ) → bytes_eq a b ≡ false → b ≢ a
other_path a b not is = absurd (true≢false (sym ((bytes_eq-Decides a b).1 (sym is)) ∙ not))

-- ---- truth values

or_assoc : (a b c : Bool) → ((a || b) || c) ≡ (a || (b || c))
or_assoc true b c = refl
or_assoc false b c = refl

or_twice : (a b : Bool) → (a || (a || b)) ≡ (a || b)
or_twice true b = refl
or_twice false b = refl

or_turned : (a b c : Bool) → (b || (a || c)) ≡ ((a || b) || c)
or_turned true true c = refl
or_turned true false c = refl
or_turned false true c = refl
or_turned false false c = refl

or_else : (a b : Bool) → (a || b) ≡ false → (a ≡ false) × (b ≡ false)
or_else true b not = absurd (true≢false not)
or_else false b not = (refl, not)

or_true : (a b : Bool) → b ≡ true → (a || b) ≡ true
or_true true b is = refl
or_true false b is = is

-- ---- paths

among_append : (xs ys : List (List ℕ)) (p : List ℕ) → is_among (xs ++ ys) p ≡ (is_among xs p || is_among ys p)
among_append [] ys p = refl
among_append (x ∷ xs) ys p = ap (λ (b : Bool). bytes_eq x p || b) (among_append xs ys p) ∙ sym (or_assoc (bytes_eq x p) (is_among xs p) (is_among ys p))

-- the paths of some folders, and then of more
pub paths_append : (a b : List RollBack) → paths_of (a ++ b) ≡ paths_of a ++ paths_of b
paths_append a b = map-append (λ (back : RollBack). back.path) a b

among_both : (a b : List RollBack) (p : List ℕ) → is_among (paths_of (a ++ b)) p ≡ (is_among (paths_of a) p || is_among (paths_of b) p)
among_both a b p = ap (λ (l : List (List ℕ)). is_among l p) (paths_append a b) ∙ among_append (paths_of a) (paths_of b) p

-- ---- what is told of a path

told_append : (a b : List RollBack) (p : List ℕ) (before : Option Rolled) → told_of (a ++ b) p before ≡ told_of a p (told_of b p before)
told_append [] b p before = refl
told_append (back ∷ a) b p before = ap (λ (told : Option Rolled). cond (bytes_eq back.path p) back.told told) (told_append a b p before)

-- of a path that is among them
told_steady : (backs : List RollBack) (p : List ℕ) (before other : Option Rolled) → is_among (paths_of backs) p ≡ true → told_of backs p before ≡ told_of backs p other
told_steady [] p before other is = absurd (true≢false (sym is))
told_steady (back ∷ backs) p before other is = here (λ rest. told_steady backs p before other rest) (bytes_eq back.path p) is
  where
    here : (is_among (paths_of backs) p ≡ true → told_of backs p before ≡ told_of backs p other) → (b : Bool) → (b || is_among (paths_of backs) p) ≡ true
        → cond b back.told (told_of backs p before) ≡ cond b back.told (told_of backs p other)
    here rest true is = refl
    here rest false is = rest is

-- and of one that isn't
told_else : (backs : List RollBack) (p : List ℕ) (before : Option Rolled) → is_among (paths_of backs) p ≡ false → told_of backs p before ≡ before
told_else [] p before not = refl
told_else (back ∷ backs) p before not = here (λ rest. told_else backs p before rest) (bytes_eq back.path p) not
  where
    here : (is_among (paths_of backs) p ≡ false → told_of backs p before ≡ before) → (b : Bool) → (b || is_among (paths_of backs) p) ≡ false
        → cond b back.told (told_of backs p before) ≡ before
    here rest true not = absurd (true≢false not)
    here rest false not = rest not

-- ---- folders come back

-- where no folder came back, all is as before
pub back_none : (f : Folders) → RollsBack [] f f
back_none f = record { rolls = λ p. refl; opened = λ p. refl; disks = refl; disks_opened = refl }

-- one folder did
pub back_one : (path : List ℕ) (told : Option Rolled) (f g : Folders) → ButRoll path f g → g.rolls path ≡ told → IsTrue (g.roll_opened path) → RollsBack (record { path = path; told = told } ∷ []) f g
back_one path told f g but is marked = record { rolls = λ p. rolls p (bytes_eq path p) refl; opened = λ p. marks p (bytes_eq path p) refl; disks = but.disks; disks_opened = but.disks_opened }
  where
    rolls : (p : List ℕ) (b : Bool) → bytes_eq path p ≡ b → g.rolls p ≡ cond b told (f.rolls p)
    rolls p true same = ap g.rolls (sym (same_path path p same)) ∙ is
    rolls p false other = but.rolls p (other_path path p other)

    marks : (p : List ℕ) (b : Bool) → bytes_eq path p ≡ b → g.roll_opened p ≡ ((b || false) || f.roll_opened p)
    marks p true same = ap g.roll_opened (sym (same_path path p same)) ∙ marked
    marks p false other = but.opened p (other_path path p other)

-- one after the other
pub back_then : (a b : List RollBack) (f g h : Folders) → RollsBack a f g → RollsBack b g h → RollsBack (b ++ a) f h
back_then a b f g h first second = record {
  rolls = λ p. second.rolls p ∙ ap (told_of b p) (first.rolls p) ∙ sym (told_append b a p (f.rolls p));
  opened = λ p. second.opened p ∙ ap (λ (r : Bool). is_among (paths_of b) p || r) (first.opened p) ∙ sym (or_assoc (is_among (paths_of b) p) (is_among (paths_of a) p) (f.roll_opened p))
      ∙ ap (λ (r : Bool). r || f.roll_opened p) (sym (among_both b a p));
  disks = second.disks ∙ first.disks;
  disks_opened = second.disks_opened ∙ first.disks_opened;
}

-- what was opened stays so
pub back_marks : (backs : List RollBack) (f g : Folders) → RollsBack backs f g → (p : List ℕ) → IsTrue (f.roll_opened p) → IsTrue (g.roll_opened p)
back_marks backs f g back p is = back.opened p ∙ or_true (is_among (paths_of backs) p) (f.roll_opened p) is

-- ---- folders are opened

-- where no folder was opened, all is as before
pub out_none : (f : Folders) → RollsOut [] f f
out_none f = record { told = λ p. refl; rolls = λ p not. refl; opened = λ p. refl; disks = refl; disks_opened = refl }

-- one folder was opened, and shows what it did then
pub out_one : (path : List ℕ) (told : Option Rolled) (f g : Folders) → ButRoll path f g → told ≡ opened (f.rolls path) → IsTrue (g.roll_opened path) → RollsOut (record { path = path; told = told } ∷ []) f g
out_one path told f g but is marked = record { told = λ p. tells p (bytes_eq path p) refl; rolls = λ p not. rolls p (bytes_eq path p) refl not; opened = λ p. marks p (bytes_eq path p) refl; disks = but.disks; disks_opened = but.disks_opened }
  where
    tells : (p : List ℕ) (b : Bool) → bytes_eq path p ≡ b → cond b told (opened (f.rolls p)) ≡ opened (f.rolls p)
    tells p true same = is ∙ ap (λ (q : List ℕ). opened (f.rolls q)) (same_path path p same)
    tells p false other = refl

    rolls : (p : List ℕ) (b : Bool) → bytes_eq path p ≡ b → (b || false) ≡ false → g.rolls p ≡ f.rolls p
    rolls p true same not = absurd (true≢false not)
    rolls p false other not = but.rolls p (other_path path p other)

    marks : (p : List ℕ) (b : Bool) → bytes_eq path p ≡ b → g.roll_opened p ≡ ((b || false) || f.roll_opened p)
    marks p true same = ap g.roll_opened (sym (same_path path p same)) ∙ marked
    marks p false other = but.opened p (other_path path p other)

-- folders were opened, and then more
pub out_then : (a b : List RollBack) (f g h : Folders) → RollsOut a f g → RollsOut b g h → RollsOut (a ++ b) f h
out_then a b f g h first second = record {
  told = λ p. told_append a b p (opened (f.rolls p)) ∙ tells p (is_among (paths_of a) p) refl;
  rolls = λ p not. rolls p (or_else (is_among (paths_of a) p) (is_among (paths_of b) p) (sym (among_both a b p) ∙ not));
  opened = λ p. second.opened p ∙ ap (λ (r : Bool). is_among (paths_of b) p || r) (first.opened p) ∙ or_turned (is_among (paths_of a) p) (is_among (paths_of b) p) (f.roll_opened p)
      ∙ ap (λ (r : Bool). r || f.roll_opened p) (sym (among_both a b p));
  disks = second.disks ∙ first.disks;
  disks_opened = second.disks_opened ∙ first.disks_opened;
}
  where
    tells : (p : List ℕ) (among : Bool) → is_among (paths_of a) p ≡ among → told_of a p (told_of b p (opened (f.rolls p))) ≡ opened (f.rolls p)
    tells p true is = told_steady a p (told_of b p (opened (f.rolls p))) (opened (f.rolls p)) is ∙ first.told p
    tells p false not = told_else a p (told_of b p (opened (f.rolls p))) not
        ∙ ap (λ (r : Option Rolled). told_of b p (opened r)) (sym (first.rolls p not)) ∙ second.told p ∙ ap opened (first.rolls p not)

    rolls : (p : List ℕ) → (is_among (paths_of a) p ≡ false) × (is_among (paths_of b) p ≡ false) → h.rolls p ≡ f.rolls p
    rolls p not = second.rolls p not.1 ∙ first.rolls p not.0

-- what was opened before stays so
pub out_marks : (backs : List RollBack) (f g : Folders) → RollsOut backs f g → (p : List ℕ) → IsTrue (f.roll_opened p) → IsTrue (g.roll_opened p)
out_marks backs f g out p is = out.opened p ∙ or_true (is_among (paths_of backs) p) (f.roll_opened p) is

-- ---- folders are opened and come back

-- what was opened before stays so after folders were opened and came back
pub reopened_marks : (paths : List (List ℕ)) (f g : Folders) → Reopened paths f g → (p : List ℕ) → IsTrue (f.roll_opened p) → IsTrue (g.roll_opened p)
reopened_marks paths f g back p is = back.opened p ∙ or_true (is_among paths p) (f.roll_opened p) is

-- where none was opened and came back, all is the same
pub reopened_none : (f g : Folders) → g ≡ f → Reopened [] f g
reopened_none f g same = record {
  rolls = λ p. ap (λ (x : Folders). x.rolls p) same;
  opened = λ p. ap (λ (x : Folders). x.roll_opened p) same;
  disks = ap (λ (x : Folders). x.disks) same;
  disks_opened = ap (λ (x : Folders). x.disk_opened) same;
}

-- those that were opened first come back last
pub reopened_then : (backs : List RollBack) (paths : List (List ℕ)) (f g h k : Folders) → RollsOut backs f g → Reopened paths g h → RollsBack backs h k → Reopened (paths_of backs ++ paths) f k
reopened_then backs paths f g h k out between back = record {
  rolls = λ p. rolls p (is_among (paths_of backs) p) refl ∙ ap (λ (b : Bool). cond b (opened (f.rolls p)) (f.rolls p)) (sym (among_append (paths_of backs) paths p));
  opened = λ p. back.opened p ∙ ap (λ (r : Bool). is_among (paths_of backs) p || r) (between.opened p ∙ ap (λ (r : Bool). is_among paths p || r) (out.opened p))
      ∙ marks (is_among (paths_of backs) p) (is_among paths p) (f.roll_opened p) ∙ ap (λ (r : Bool). r || f.roll_opened p) (sym (among_append (paths_of backs) paths p));
  disks = back.disks ∙ between.disks ∙ out.disks;
  disks_opened = back.disks_opened ∙ between.disks_opened ∙ out.disks_opened;
}
  where
    rolls : (p : List ℕ) (among : Bool) → is_among (paths_of backs) p ≡ among → k.rolls p ≡ cond (among || is_among paths p) (opened (f.rolls p)) (f.rolls p)
    rolls p true is = back.rolls p ∙ told_steady backs p (h.rolls p) (opened (f.rolls p)) is ∙ out.told p
    rolls p false not = back.rolls p ∙ told_else backs p (h.rolls p) not ∙ between.rolls p ∙ ap (λ (r : Option Rolled). cond (is_among paths p) (opened r) r) (out.rolls p not)

    marks : (a b c : Bool) → (a || (b || (a || c))) ≡ ((a || b) || c)
    marks true b c = refl
    marks false true c = refl
    marks false false c = refl

-- What a run of removals keeps.
use Rattle.std.specs.Prelude.{nat_le}
use Rattle.std.proofs.Common.{◌⊎◌, inl, inr, ◌≡◌, ◌≢◌, ◌≤◌, ◌<◌, ◌++◌, ℕ, List, ◌==◌, Bool, true, false, cond, Option, Result, refl, sym, ap, subst, ◌∙◌, arith, append_assoc}
use Rattle.std.proofs.lemmas.Bool.{cases_lt}
use Rattle.std.proofs.lemmas.Bool.Decides.{eqb_tells, nat_tests}
use Rattle.flume_host.specs.declared.names.FileName.{FileName}
use Rattle.flume_host.specs.declared.names.FileName.TheVariants.{Check, Log}
use Rattle.flume_host.specs.declared.names.Failed.{Failed}
use Rattle.flume_host.specs.Folder.{Allows, Entry, Files, Folder, IsImage, same_name}
use Rattle.flume_host.specs.Told.{IsLeftAt, Leads, On, Remove, Told, clock, entry_under, under_way}
use Rattle.flume_host.proofs.Moments.{earlier, goes_on, started}
use Rattle.flume_host.proofs.OneFile.{spared, with_at_other}
use Rattle.checkpoint_recovery.specs.Recovers.{RecoversTo}
use Rattle.checkpoint_recovery.proofs.Kept.{pruned_recovers}
use Rattle.checkpoint_pruning.specs.Laws.{PrunedAtAnyMoment}
use Rattle.checkpoint_pruning.specs.Pruning.{IsFrom, KeepsFrom}

-- before the first removal
pub keeps_start : (least laid : ℕ) (t : Told) → KeepsFrom least laid t t
keeps_start least laid t = record { images = started t _ (λ image left name from. left name); same = λ name from. (refl, refl) }

-- files from greater numbers on
from_less : (a b c d : ℕ) → a ≤ c → b ≤ d → (name : FileName) → IsFrom c d name → IsFrom a b name
from_less a b c d le le' (Log n) from = omega (arith, le, from)
from_less a b c d le le' (Check n) from = omega (arith, le', from)

-- what keeps files keeps fewer
pub keeps_less : (a b c d : ℕ) → a ≤ c → b ≤ d → (t u : Told) → KeepsFrom a b t u → KeepsFrom c d t u
keeps_less a b c d le le' t u keeps = record {
  images = record { more = keeps.images.more; past = keeps.images.past; each = λ m image since left name from. keeps.images.each m image since left name (from_less a b c d le le' name from) };
  same = λ name from. keeps.same name (from_less a b c d le le' name from);
}

-- one run after another
pub keeps_then : (least laid : ℕ) (t u v : Told) → KeepsFrom least laid t u → KeepsFrom least laid u v → KeepsFrom least laid t v
keeps_then least laid t u v one two = record {
  images = record {
    more = one.images.more ++ two.images.more;
    past = two.images.past ∙ (ap (λ (l : List Folder). l ++ two.images.more) one.images.past ∙ append_assoc t.past one.images.more two.images.more);
    each = λ m image since left. at m image since left (cases_lt m (clock u));
  };
  same = λ name from. let a = one.same name from in let b = two.same name from in (b.0 ∙ a.0, b.1 ∙ a.1);
}
  where
    at : (m : ℕ) (image : Files) → clock t ≤ m → IsLeftAt v m image → ((m < clock u) ⊎ (clock u ≤ m)) → (name : FileName) → IsFrom least laid name → Allows (t.now name) (image name)
    at m image since left (inl before) name from = one.images.each m image since (earlier u v _ two.images m image before left) name from
    at m image since left (inr not_before) name from = subst (λ (e : Entry). Allows e (image name)) (one.same name from).0 (two.images.each m image not_before left name from)

differs : (least laid : ℕ) (name n : FileName) → (IsFrom least laid name → ⊥) → IsFrom least laid n → same_name n name ≡ false
differs least laid (Log a) (Log b) not_from from = by (eqb_tells b a)
  where
    by : (((b == a) ≡ true) × (b ≡ a)) ⊎ (((b == a) ≡ false) × (b ≢ a)) → (b == a) ≡ false
    by (inl same) = absurd (not_from (omega (arith, from, same.1)))
    by (inr other) = other.0
differs least laid (Log a) (Check b) not_from from = refl
differs least laid (Check a) (Log b) not_from from = refl
differs least laid (Check a) (Check b) not_from from = by (eqb_tells b a)
  where
    by : (((b == a) ≡ true) × (b ≡ a)) ⊎ (((b == a) ≡ false) × (b ≢ a)) → (b == a) ≡ false
    by (inl same) = absurd (not_from (omega (arith, from, same.1)))
    by (inr other) = other.0

-- one removal more, of a file that is not kept
pub keeps_on : (least laid : ℕ) (name : FileName) (result : Result (Unit {0}) Failed) (t u v : Told) → (IsFrom least laid name → ⊥) → IsImage u.now u.reads → KeepsFrom least laid t u → Leads (On name Remove) result u v → KeepsFrom least laid t v
keeps_on least laid name result t u v not_kept reads so_far leads = record {
  images = goes_on (On name Remove) result t u v _ reads tt so_far.images leads during;
  same = λ n from. let s = spared Remove result u v name leads n (differs least laid name n not_kept from) in let b = so_far.same n from in (s.0 ∙ b.0, s.1 ∙ b.1);
}
  where
    during : (image : Files) → IsImage (under_way (On name Remove) u.now) image → (n : FileName) → IsFrom least laid n → Allows (t.now n) (image n)
    during image left n from =
        subst (λ (e : Entry). Allows e (image n)) (with_at_other u.now name n (entry_under Remove (u.now name)) (differs least laid name n not_kept from) ∙ (so_far.same n from).0) (left n)

-- an image's kept files, and the other files of a folder
abbrev pub mixed : ℕ → ℕ → Files → Files → Files
mixed least laid image reads (Log n) = cond (nat_le least n) (image (Log n)) (reads (Log n))
mixed least laid image reads (Check n) = cond (nat_le laid n) (image (Check n)) (reads (Check n))

-- a number that is at most another one is tested to be so
pub less_equal : (a b : ℕ) → a ≤ b → nat_le a b ≡ true
less_equal a b le = grind (arith, nat_tests)

either_file : (entry : Entry) (a b : Option (List ℕ)) (is : Bool) → (is ≡ true → Allows entry a) → Allows entry b → Allows entry (cond is a b)
either_file entry a b true one two = one refl
either_file entry a b false one two = two

less_from : (a b : ℕ) → nat_le a b ≡ true → a ≤ b
less_from a b is = grind (arith, nat_tests)

-- an image's kept file, or another as it reads, is one that a crash might have left before
pub mixed_left : (old : Told) (least laid : ℕ) (image : Files) (name : FileName) → Allows (old.now name) (old.reads name) → (IsFrom least laid name → Allows (old.now name) (image name)) → Allows (old.now name) (mixed least laid image old.reads name)
mixed_left old least laid image (Log n) reads kept = either_file (old.now (Log n)) (image (Log n)) (old.reads (Log n)) (nat_le least n) (λ is. kept (less_from least n is)) reads
mixed_left old least laid image (Check n) reads kept = either_file (old.now (Check n)) (image (Check n)) (old.reads (Check n)) (nat_le laid n) (λ is. kept (less_from laid n is)) reads

-- such files are an image of the folder before
mixed_image : (old : Told) (least laid : ℕ) (image : Files) → IsImage old.now old.reads → ((name : FileName) → IsFrom least laid name → Allows (old.now name) (image name)) → (name : FileName) → Allows (old.now name) (mixed least laid image old.reads name)
mixed_image old least laid image reads kept name = mixed_left old least laid image name (reads name) (kept name)

-- a crash while a folder is pruned leaves what it recovered to before
pub pruned_at_any_moment : PrunedAtAnyMoment
pruned_at_any_moment old new least laid left txn reads keeps before = record {
  more = keeps.images.more;
  past = keeps.images.past;
  each = λ m image since left'. recovers image (keeps.images.each m image since left');
}
  where
    recovers : (image : Files) → ((name : FileName) → IsFrom least laid name → Allows (old.now name) (image name)) → RecoversTo image left txn
    recovers image kept =
        let was : Files = mixed least laid image old.reads in
        let b = before was (mixed_image old least laid image reads kept) in
        pruned_recovers was image least laid left txn (λ n le. sym (ap (λ (is : Bool). cond is (image (Log n)) (old.reads (Log n))) (less_equal least n le)))
        (λ n le. sym (ap (λ (is : Bool). cond is (image (Check n)) (old.reads (Check n))) (less_equal laid n le))) b.0 b.1

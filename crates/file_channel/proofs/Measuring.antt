-- The log files of a folder, measured one after another.
use Rattle.std.proofs.Common.{◌⊎◌, inl, inr, ◌≡◌, ◌<◌, ◌≤◌, ◌^◌, ℕ, List, length, Option, Some, None, true, sym, ◌∙◌, ap, arith}
use Rattle.std.proofs.lemmas.Bool.Decides.{nat_tests}
use Rattle.flume_host.specs.Folder.{Files, IsAbove, IsNext, name_below}
use Rattle.flume_host.specs.declared.names.FileName.TheVariants.{Log}
use Rattle.channel_writing.specs.Folders.{log_name}
use Rattle.channel_writing.proofs.Opening.{floor_of}
use Rattle.file_channel.specs.Opened.{AreShort}

-- those up to this one are short
abbrev pub AreShortTo : Files → Option ℕ → Type 0
AreShortTo files last = (n : ℕ) (bytes : List ℕ) → n < floor_of last → files (Log n) ≡ Some bytes → length bytes < 2 ^ 63

-- before any is measured, those so far are short
pub none_short : (files : Files) → AreShortTo files None
none_short files n bytes low is = absurd (omega (arith, low))

is_above : (last : Option ℕ) (n : ℕ) → floor_of last ≤ n → IsAbove (log_name last) (Log n)
is_above None n low = tt
is_above (Some m) n low = grind (arith, nat_tests)

log_below : (n m : ℕ) → n < m → name_below (Log n) (Log m) ≡ true
log_below n m less = grind (arith, nat_tests)

side : (n m : ℕ) → (n < m) ⊎ (m ≤ n)
side n m = grind arith

gone : {A : Type 0} (o : Option (List ℕ)) (bytes : List ℕ) → o ≡ None → o ≡ Some bytes → A
gone o bytes none some = absurd (cc)

-- no log file is after them
pub all_short : (files : Files) (last : Option ℕ) → AreShortTo files last → ((n : ℕ) → IsAbove (log_name last) (Log n) → files (Log n) ≡ None) → AreShort files
all_short files last short none n bytes is = from (side n (floor_of last))
  where
    from : (n < floor_of last) ⊎ (floor_of last ≤ n) → length bytes < 2 ^ 63
    from (inl low) = short n bytes low is
    from (inr high) = gone (files (Log n)) bytes (none n (is_above last n high)) is

-- the next one is measured, too
pub one_more : (files : Files) (last : Option ℕ) (number size : ℕ) (was : List ℕ) → AreShortTo files last → IsNext files (log_name last) (Some (Log number)) → files (Log number) ≡ Some was → size ≡ length was → size < 2 ^ 63 → AreShortTo files (Some number)
one_more files last number size was short next there size_is less n bytes low is = from (side n (floor_of last)) (side n number)
  where
    same : (m : ℕ) → m ≡ number → files (Log m) ≡ Some bytes → length bytes < 2 ^ 63
    same m at reads =
        let both : Some was ≡ Some bytes = sym there ∙ (ap (λ (k : ℕ). files (Log k)) (sym at) ∙ reads) in
        let long : was ≡ bytes = cc in
        omega (arith, ap (λ (l : List ℕ). length l) long, size_is, less)

    from : (n < floor_of last) ⊎ (floor_of last ≤ n) → (n < number) ⊎ (number ≤ n) → length bytes < 2 ^ 63
    from (inl before) any = short n bytes before is
    from (inr high) (inl less_than) = gone (files (Log n)) bytes (next.2 (Log n) (is_above last n high) (log_below n number less_than)) is
    from (inr high) (inr from_it) = same n (omega (arith, low, from_it)) is

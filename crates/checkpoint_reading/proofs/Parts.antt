-- Parts of a block that was read of a log file.
use Rattle.std.proofs.Common.{Result, Ok, Err, OnOk, ◌≡◌, ◌≤◌, ◌+◌, ◌-◌, ℕ, List, length, take, drop, Option, Some, ap, subst, ◌∙◌, arith}
use Rattle.std.proofs.lemmas.List.{drop-drop, drop-take, length-take-le, take-take}
use Rattle.flume_host.specs.declared.names.FileName.TheVariants.{Log}
use Rattle.flume_host.specs.Told.{Told, WhereTold}
use Rattle.checkpoint_reading.specs.declared.logs.Logs.{Logs}
use Rattle.checkpoint_reading.specs.Logs.{HasPart, IsBlock, IsKnown, IsPart, held, part_of}

-- the first of what stands behind some bytes are the same, whether the end was cut off behind them or not
take_behind : (size behind whole : ℕ) (l : List ℕ) → behind + size ≤ whole → take size (drop behind (take whole l)) ≡ take size (drop behind l)
take_behind size behind whole l within =
    let whole_is : whole ≡ behind + (whole - behind) = omega (arith, within) in
    ap (λ n. take size (drop behind (take n l))) whole_is ∙ ap (take size) (drop-take behind (whole - behind) l) ∙ take-take size (whole - behind) (drop behind l) (omega (arith, within))

part_shows : (told : Option Told) (file : Option ℕ) (number start : ℕ) (part : List ℕ) → file ≡ Some number → IsPart told file start part → WhereTold told (λ t. (bytes : List ℕ) → t.reads (Log number) ≡ Some bytes → part ≡ take (length part) (drop start bytes))
part_shows told file number start part last is = subst (λ (f : Option ℕ). IsPart told f start part) last is

-- a block that covers the part has it
pub covered : (told : Option Told) (logs : Logs) (file at size : ℕ) → IsKnown told logs → logs.file ≡ Some file → logs.start ≤ at → at - logs.start + size ≤ logs.filled → HasPart told file at size logs
covered told logs file at size known last from to = record { from = from; to = omega (arith, to); part = shows }
  where
    whole : length (held logs) ≡ logs.filled
    whole = length-take-le logs.filled logs.block.items known.filled

    shows : (u : Told) → told ≡ Some u → (bytes : List ℕ) → u.reads (Log file) ≡ Some bytes → part_of at size logs ≡ take size (drop at bytes)
    shows u is bytes has =
        let behind : ℕ = at - logs.start in
        let there : logs.start + behind ≡ at = omega (arith, from) in
        ap (λ l. take size (drop behind l)) (part_shows told logs.file file logs.start (held logs) last known.part u is bytes has)
        ∙ take_behind size behind (length (held logs)) (drop logs.start bytes) (omega (arith, to, whole))
        ∙ ap (take size) (drop-drop behind logs.start bytes ∙ ap (λ n. drop n bytes) there)

-- a block that was filled from there on has it, if it is long enough
pub block_has : (told : Option Told) (logs : Logs) (file at size : ℕ) → IsBlock told file at logs → size ≤ length logs.block.items → HasPart told file at size logs
block_has told logs file at size block long = record { from = omega (arith, block.start); to = omega (arith, block.start); part = shows }
  where
    none : at - logs.start ≡ 0
    none = omega (arith, block.start)

    shows : WhereTold told (λ t. (bytes : List ℕ) → t.reads (Log file) ≡ Some bytes → part_of at size logs ≡ take size (drop at bytes))
    shows t same bytes has =
        ap (λ n. take size (drop n (held logs))) none ∙ ap (take size) (block.part t same bytes has) ∙ take-take size (length logs.block.items) (drop at bytes) long

-- what follows of a success follows where there is one
pub on_ok : {T E A B : Type 0} (r : Result T E) → (A → B) → OnOk r A → OnOk r B
on_ok (Ok x) f a = f a
on_ok (Err e) f a = tt

-- What calls leave of a host's folders.
use Rattle.std.proofs.Common.{◌≡◌, ◌∙◌, ap, List, ℕ}
use Rattle.flume_host.specs.HostState.{Folders, ButDisk}

-- where all is as before, so is all but one disk
pub but_same : (path : List ℕ) (old new : Folders) → new ≡ old → ButDisk path old new
but_same path old new same = record {
  disks = λ p _. ap (λ (f : Folders). f.disks p) same;
  opened = λ p _. ap (λ (f : Folders). f.disk_opened p) same;
  rolls = ap (λ (f : Folders). f.rolls) same;
  rolls_opened = ap (λ (f : Folders). f.roll_opened) same;
}

-- a disk was handed out, the folders stayed, and it was given back
pub but_between : (path : List ℕ) (a b c d : Folders) → ButDisk path a b → c ≡ b → ButDisk path c d → ButDisk path a d
but_between path a b c d out same back =
    let still = but_same path b c same in
    record {
      disks = λ p differ. back.disks p differ ∙ still.disks p differ ∙ out.disks p differ;
      opened = λ p differ. back.opened p differ ∙ still.opened p differ ∙ out.opened p differ;
      rolls = back.rolls ∙ still.rolls ∙ out.rolls;
      rolls_opened = back.rolls_opened ∙ still.rolls_opened ∙ out.rolls_opened;
    }

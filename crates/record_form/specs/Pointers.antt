-- What stands at a pointer in bytes.
use Rattle.std.specs.Prelude.{◌≡◌, ℕ, List, ◌++◌, length}
use Rattle.event_core.specs.Content.{Content, size}
use Rattle.record_form.specs.declared.record.Pointer.{Pointer}
use Rattle.record_form.specs.declared.record.Rec.TheVariants.{Put}
use Rattle.record_form.specs.Record.{HasFields, IsWithinLimits, spelling}

-- A whole PUT of this event stands at the pointer's offset of these bytes, and the event has the pointer's length.
pub record PutAt (bytes : List ℕ) (p : Pointer) (event : Content) : Type 0 where
  pub txn : ℕ
  pub before : List ℕ
  pub behind : List ℕ
  pub split : bytes ≡ before ++ (spelling (Put txn event) ++ behind)
  pub place : length before ≡ p.at
  pub long : size event ≡ p.length
  pub fields : HasFields (Put txn event)
  pub limits : IsWithinLimits (Put txn event)

-- The adapters to the system's files and streams: what they know of them.
use Rattle.std.specs.Prelude.{ℕ, Bool, false, List, [], Option, Some, None}

-- the bytes left of the open file, where its reader tells them, how often a call has failed, whether the last start
-- found no file, and how many bytes were given since
pub record DiskState : Type 0 where
  pub left : Option (List ℕ)
  pub faults : ℕ
  pub absent : Bool
  pub given : ℕ

-- an adapter that has opened no file
abbrev pub new_disk : DiskState
new_disk = record { left = Some []; faults = 0; absent = false; given = 0 }

-- the bytes that the stream holds, where it tells them, and how often a call has failed
pub record StreamState : Type 0 where
  pub held : Option (List ℕ)
  pub faults : ℕ

-- what the open file's reader tells of the bytes left; of no file nothing is left
abbrev pub left_of : {F : Type 0} → (F → Option (List ℕ)) → Option F → Option (List ℕ)
left_of remaining None = Some []
left_of remaining (Some file) = remaining file

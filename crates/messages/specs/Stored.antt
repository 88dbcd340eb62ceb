-- The set of messages that a table of rows stands for.
use Rattle.std.specs.Prelude.{ℕ, Bool, false, ◌&&◌, ◌||◌, List, slice_index}
use Rattle.basics.specs.Bit.{bit}
use Rattle.model.specs.World.{same}
use Rattle.model.specs.World.{Message as Said}
use Rattle.messages.specs.Rows.{subject_fits, row}
use Rattle.messages.specs.declared.set.MessageSet.{MessageSet}

-- the bit of its signer in its row
unfoldable pub in_rows : List ℕ → Said → Bool
in_rows rows m = subject_fits m.kind m.subject && bit (slice_index rows (row m.kind m.subject)) m.signer

-- the messages of a set
abbrev pub stored : MessageSet → Said → Bool
stored x m = in_rows x.rows m

-- one message more
abbrev pub joined : Said → (Said → Bool) → Said → Bool
joined m f x = same m x || f x

-- no message
abbrev pub nothing : Said → Bool
nothing m = false

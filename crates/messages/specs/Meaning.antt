-- What a message of the code is among the messages of the rules.
use Rattle.std.specs.Prelude.{ℕ}
use Rattle.model.specs.World.{block, notarization, finalization, message}
use Rattle.model.specs.World.{Message as Said}
use Rattle.messages.specs.declared.message.Share.{Share}
use Rattle.messages.specs.declared.message.Message.{Message}
use Rattle.messages.specs.declared.message.Message.TheVariants.{Block, Signed, Notarization, Finalization}
use Rattle.messages.specs.declared.message.Share.TheVariants.{Beacon}
use Rattle.messages.specs.declared.message.Share.TheVariants.{Notarization as Notarizes, Finalization as Finalizes}

-- the kind of a share's message: 2, 4 or 6
abbrev pub share_kind : Share → ℕ
share_kind (Notarizes b) = 2
share_kind (Finalizes b) = 4
share_kind (Beacon k) = 6

-- what a share is for: a block, or for a beacon a round
abbrev pub share_subject : Share → ℕ
share_subject (Notarizes b) = b.value
share_subject (Finalizes b) = b.value
share_subject (Beacon k) = k.value

-- the message of the rules
abbrev pub means : Message → Said
means (Block b) = block b.value
means (Signed x s) = message (share_kind x) s.value (share_subject x)
means (Notarization b) = notarization b.value
means (Finalization b) = finalization b.value

-- The messages that a rule hands back.
use Rattle.std.specs.Prelude.{Bool, ◌||◌, List, [], ◌∷◌, ◌++◌, Some, None, Ok, Err, Option, Result}
use Rattle.model.specs.World.{has}
use Rattle.model.specs.World.{Message as Said}
use Rattle.messages.specs.Meaning.{means}
use Rattle.messages.specs.declared.message.Message.{Message}
use Rattle.seats.specs.declared.outgoing.Outgoing.{Outgoing}

-- a message, if there is one
abbrev pub maybe : Option Message → List Said
maybe None = []
maybe (Some m) = means m ∷ []

-- the messages in the order of sending
abbrev pub listed : Outgoing → List Said
listed x = maybe x.block ++ (maybe x.whole ++ maybe x.share)

-- what an answer hands back: a refusal hands back nothing
abbrev pub sent : {E : Type 0} → Result Outgoing E → List Said
sent (Ok x) = listed x
sent (Err e) = []

-- a set with the messages of a list
abbrev pub with_all : List Said → (Said → Bool) → Said → Bool
with_all l f m = has l m || f m

-- The places of a payload.
use Rattle.std.specs.Prelude.{ℕ, cond, List, Some, None, Option}
use Rattle.basics.specs.Elements.{elements}
use Rattle.model.specs.Checks.{payload_ok}
use Rattle.tree.specs.declared.payload.Payload.{Payload}

-- the places, in their order
abbrev pub listed : Payload → List ℕ
listed x = elements x.places

-- the places of a payload, where there is one
abbrev pub payload_list : Option Payload → Option (List ℕ)
payload_list (Some x) = Some (listed x)
payload_list None = None

-- the places, if they can be a payload
abbrev pub list_if_ok : List ℕ → Option (List ℕ)
list_if_ok xs = cond (payload_ok xs) (Some xs) None

-- What an inline list holds.
use Rattle.std.specs.Prelude.{ℕ, Bool, List, take, min, cond, Option, Some, None}
use Rattle.basics.specs.declared.inline_list.InlineList.{InlineList}

-- the most elements that there is room for in n slots, since the length takes one byte
abbrev pub most : ℕ → ℕ
most n = min n 255

module _ {T : Type 0} {N : ℕ} where
  -- its elements, oldest first
  abbrev pub elements : InlineList T N → List T
  elements l = take l.len l.slots

  -- the elements of a list, where there is one
  abbrev pub elements_of : Option (InlineList T N) → Option (List T)
  elements_of (Some l) = Some (elements l)
  elements_of None = None

-- the list xs where the test holds, and otherwise none
abbrev pub list_if : {T : Type 0} → Bool → List T → Option (List T)
list_if b xs = cond b (Some xs) None

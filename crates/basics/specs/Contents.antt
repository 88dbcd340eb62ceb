-- What a bounded list holds.
use Rattle.std.specs.Prelude.{ℕ, List, length, take}
use Rattle.basics.specs.declared.list.BoundedList.{BoundedList}

module _ {T : Type 0} where
  -- its elements, oldest first
  abbrev pub contents : BoundedList T → List T
  contents l = take l.len l.items.now

  -- how many it has room for: the length of the lent buffer
  abbrev pub room : BoundedList T → ℕ
  room l = length l.items.now

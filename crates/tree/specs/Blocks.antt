-- The blocks that a tree holds.
use Rattle.std.specs.Prelude.{ℕ, Bool, List, [], Option, Some, None, is_some, slice_index_or}
use Rattle.model.specs.Setup.{Plan as Model}
use Rattle.model.specs.World.{chain_by, places_by, notarized_by, valid_by}
use Rattle.model.specs.World.{Message as Said}
use Rattle.tree.specs.Payloads.{listed}
use Rattle.tree.specs.declared.tree.Block.{Block}
use Rattle.tree.specs.declared.tree.Tree.{Tree}

-- the block of a number, if it was made
abbrev pub block_at : Tree → ℕ → Option Block
block_at x b = slice_index_or x.blocks b None

-- the parent of a block, the root where none was made
abbrev pub parent_of : Option Block → ℕ
parent_of None = 0
parent_of (Some x) = x.parent.value

-- the places of a block, none where none was made
abbrev pub places_of : Option Block → List ℕ
places_of None = []
places_of (Some x) = listed x.payload

-- whether a block was made
abbrev pub mades : Tree → ℕ → Bool
mades x b = is_some (block_at x b)

-- its parent
abbrev pub parents : Tree → ℕ → ℕ
parents x b = parent_of (block_at x b)

-- its places
abbrev pub payloads : Tree → ℕ → List ℕ
payloads x b = places_of (block_at x b)

-- the places of the chain of a block of round k
unfoldable pub chain_places : Tree → ℕ → ℕ → List ℕ
chain_places x k b = places_by (payloads x) (chain_by (parents x) k b)

-- whether a block of round k is notarized, as far as a pool says
unfoldable pub notarized_in : Model → Tree → (Said → Bool) → ℕ → ℕ → Bool
notarized_in p x pool k b = notarized_by p (parents x) (payloads x) pool k b

-- whether it is valid, as far as a pool says
unfoldable pub valid_in : Model → Tree → (Said → Bool) → ℕ → ℕ → Bool
valid_in p x pool k b = valid_by p (parents x) (payloads x) pool k b

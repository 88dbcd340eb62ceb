-- The chain of a block, as a walk from the block to the root meets it.
use Rattle.std.specs.Prelude.{◌≡◌, ℕ, ◌+◌, Bool, List}
use Rattle.model.specs.World.{unlike_all, sound}
use Rattle.model.specs.World.{Message as Said}
use Rattle.plans.specs.Planned.{model}
use Rattle.tree.specs.Blocks.{parents, payloads, chain_places, notarized_in, valid_in}
use Rattle.tree.specs.declared.tree.walks.Chain.{Chain}

-- the chain of the parent of the last block of x is p, as the same plan judges it
pub record HasParent (x p : Chain) : Type 0 where
  pub plan : p.plan ≡ x.plan
  pub tree : p.tree ≡ x.tree
  pub round : p.round + 1 ≡ x.round
  pub block : p.block.value ≡ parents x.tree.now x.block.value

-- the places of a chain's blocks
abbrev pub places_on : Chain → List ℕ
places_on x = chain_places x.tree.now x.round x.block.value

-- the places of its last block
abbrev pub last_places : Chain → List ℕ
last_places x = payloads x.tree.now x.block.value

-- whether the place y is like none of a list
abbrev pub unlike_by : Chain → ℕ → List ℕ → Bool
unlike_by x y ys = unlike_all (model x.plan.now) y ys

-- whether places are sound on a chain
abbrev pub sound_on : Chain → List ℕ → Bool
sound_on x ys = sound (model x.plan.now) (places_on x) ys

-- whether its last block is notarized, as far as a pool says
abbrev pub notarized_on : Chain → (Said → Bool) → Bool
notarized_on x pool = notarized_in (model x.plan.now) x.tree.now pool x.round x.block.value

-- whether it is valid, as far as a pool says
abbrev pub valid_on : Chain → (Said → Bool) → Bool
valid_on x pool = valid_in (model x.plan.now) x.tree.now pool x.round x.block.value

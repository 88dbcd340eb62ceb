-- Flags by number.
use Rattle.std.specs.Prelude.{◌≡◌, ℕ, Bool, true, false, List, slice_index_or}

-- a number whose flag is raised
pub record Raised (flags : List Bool) : Type 0 where
  pub at : ℕ
  pub is_raised : slice_index_or flags at false ≡ true

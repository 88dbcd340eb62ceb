-- Seals: a kind, a seat and a subject. Sets of seals are functions of the three.
use Rattle.std.specs.Prelude.{ℕ, Bool, false, ◌&&◌, ◌||◌, ◌==◌, nat_le, nat_lt}

-- x is from lo to hi
abbrev pub between : ℕ → ℕ → ℕ → Bool
between lo hi x = nat_le lo x && nat_le x hi

-- the seals that there can be: of a seat below 13; kinds 2 and 4 on a block from 1 to 312, kind 6 on a round from 1 to 8
abbrev pub allowed : ℕ → ℕ → ℕ → Bool
allowed k s b = nat_lt s 13 && (((k == 2 || k == 4) && between 1 312 b) || (k == 6 && between 1 8 b))

-- the empty set
abbrev pub none : ℕ → ℕ → ℕ → Bool
none k s b = false

-- the set with the seal (k, s, b) in it, if there can be such a seal
abbrev pub added : ℕ → ℕ → ℕ → (ℕ → ℕ → ℕ → Bool) → ℕ → ℕ → ℕ → Bool
added k s b f k' s' b' = (allowed k s b && (k' == k && (s' == s && b' == b))) || f k' s' b'

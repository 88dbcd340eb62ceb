-- What is written: bytes as lines of hexadecimal.
use Rattle.std.specs.Prelude.{ℕ, ◌+◌, ◌*◌, ◌/◌, ◌%◌, cond, List, [], ◌∷◌, ◌++◌, length, take, drop, nat_le, nat_lt}

-- the character of a digit
abbrev pub numeral : ℕ → ℕ
numeral d = cond (nat_lt d 10) (d + 48) (d + 87)

-- the characters of bytes
abbrev pub hexed : List ℕ → List ℕ
hexed [] = []
hexed (b ∷ bs) = numeral (b / 16) ∷ numeral (b % 16) ∷ hexed bs

-- the line of some bytes
abbrev pub line : List ℕ → List ℕ
line bs = hexed bs ++ 10 ∷ []

-- lines one after the other
abbrev pub text : List (List ℕ) → List ℕ
text [] = []
text (bs ∷ more) = line bs ++ text more

-- two bytes, high first, then more
abbrev pub wide : ℕ → List ℕ → List ℕ
wide k more = k / 256 ∷ k % 256 ∷ more

-- xs, with ys written over it from a place on
abbrev pub written : List ℕ → ℕ → List ℕ → List ℕ
written xs at ys = take at xs ++ ys ++ drop (at + length ys) xs

-- xs, with ys written over its start
abbrev pub over : List ℕ → List ℕ → List ℕ
over ys xs = ys ++ drop (length ys) xs

-- where the line after that of some bytes may stand
abbrev pub next_place : ℕ → List ℕ → ℕ
next_place at bs = at + 2 * length bs + 1

-- the buffer with a line put at a place, and the place after it: where the line does not fit, both stay as they are
abbrev pub put : List ℕ → ℕ → List ℕ → List ℕ
put xs at bs = cond (nat_le (next_place at bs) (length xs)) (written xs at (line bs)) xs

abbrev pub place_after : List ℕ → ℕ → List ℕ → ℕ
place_after xs at bs = cond (nat_le (next_place at bs) (length xs)) (next_place at bs) at

-- the buffer with lines put one after the other from a place on, and the place after them
abbrev pub put_all : List ℕ → ℕ → List (List ℕ) → List ℕ
put_all xs at [] = xs
put_all xs at (bs ∷ more) = put_all (put xs at bs) (place_after xs at bs) more

abbrev pub place_after_all : List ℕ → ℕ → List (List ℕ) → ℕ
place_after_all xs at [] = at
place_after_all xs at (bs ∷ more) = place_after_all (put xs at bs) (place_after xs at bs) more

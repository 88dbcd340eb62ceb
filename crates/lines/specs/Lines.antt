-- A text is a list of bytes; each line of it is lower-case hexadecimal, two digits to a byte, and a line feed.
use Rattle.std.specs.Prelude.{ℕ, zero, suc, ◌+◌, ◌-◌, ◌*◌, Bool, true, false, cond, ◌&&◌, List, [], ◌∷◌, ◌++◌, length, ◌==◌, nat_le, Option, Some, None, is_some, unwrap_or, option_map, option_and_then}

-- what a character says as a digit, if it is one
abbrev pub digit : ℕ → Option ℕ
digit c = cond (nat_le 48 c && nat_le c 57) (Some (c - 48)) (cond (nat_le 97 c && nat_le c 102) (Some (c - 87)) None)

-- the byte that two characters say, if both are digits
abbrev pub pair : ℕ → ℕ → Option ℕ
pair x y = option_and_then (λ high. option_map (λ low. high * 16 + low) (digit y)) (digit x)

-- whether the characters are digits, two for each byte
abbrev pub paired : List ℕ → Bool
paired [] = true
paired (x ∷ []) = false
paired (x ∷ y ∷ rest) = is_some (pair x y) && paired rest

-- the bytes that pairs of digits say
abbrev pub bytes : List ℕ → List ℕ
bytes [] = []
bytes (x ∷ []) = []
bytes (x ∷ y ∷ rest) = unwrap_or (pair x y) 0 ∷ bytes rest

-- The bytes of a line's characters: none where they are not pairs of digits, nor where there are more than 16 bytes.
-- So a line that says nothing has no bytes.
abbrev pub line_bytes : List ℕ → List ℕ
line_bytes cs = cond (nat_le (length cs) 32 && paired cs) (bytes cs) []

abbrev pub none : List ℕ → Bool
none [] = true
none (x ∷ xs) = false

-- The lines of a text, each by its bytes; so far are the characters of the line that is being read.
-- A last line without a line feed has no bytes; nothing after the last line feed is no line.
abbrev pub lines_after : List ℕ → List ℕ → List (List ℕ)
lines_after sofar [] = cond (none sofar) [] ([] ∷ [])
lines_after sofar (x ∷ xs) = cond (x == 10) (line_bytes sofar ∷ lines_after [] xs) (lines_after (sofar ++ x ∷ []) xs)

abbrev pub lines : List ℕ → List (List ℕ)
lines text = lines_after [] text

-- what follows the first line feed
abbrev pub later : List ℕ → List ℕ
later [] = []
later (x ∷ xs) = cond (x == 10) xs (later xs)

-- the bytes of the pairs of digits that a text begins with, at most so many
abbrev pub leading_bytes : ℕ → List ℕ → List ℕ
leading_bytes zero text = []
leading_bytes (suc k) [] = []
leading_bytes (suc k) (x ∷ []) = []
leading_bytes (suc k) (x ∷ y ∷ rest) = elim (pair x y) [
  | Some b ↦ b ∷ leading_bytes k rest
  | None ↦ []
]

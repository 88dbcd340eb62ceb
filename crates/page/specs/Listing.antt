-- Worked pages, computed by the rules.
use Rattle.std.specs.Prelude.{◌≡◌, ℕ, List, [], ◌∷◌, ◌++◌, codes}
use Rattle.page.specs.Run.{page}
use Rattle.page.specs.declared.types.Sort.TheVariants.{Cards, Slips}

-- lines of characters, each with its line feed
abbrev pub sheet : List (List ℕ) → List ℕ
sheet [] = []
sheet (x ∷ xs) = x ++ 10 ∷ sheet xs

pub record WorkedPages : Type 0 where
  -- one seat proposes, notes, finishes and commits a block with one card; its second echo is refused
  pub one_seat : page Cards (sheet (codes "01010001000000000000" ∷ codes "02000500000011" ∷ codes "1100" ∷ codes "1200000000" ∷ codes "13000001" ∷ codes "13000001" ∷ codes "14000001" ∷ codes "15000001" ∷ []))
      ≡ sheet (codes "f000061004000001" ∷ codes "e0000201010001" ∷ codes "ef000600050001" ∷ [])
  -- an empty submission is malformed at line 1, and so is a line without its line feed
  pub empty : page Cards [] ≡ sheet (codes "f000011701000000" ∷ [])
  pub cut : page Cards (codes "01010001000000000000") ≡ sheet (codes "f000011701000000" ∷ [])
  -- a missing rank line is malformed where it would stand
  pub no_ranks : page Slips (sheet (codes "01040101000000000002" ∷ [])) ≡ sheet (codes "f000021701000000" ∷ [])
  -- a second corrupt seat, where one is allowed, is refused before any rank line
  pub two_corrupt : page Slips (sheet (codes "01040101000000000006" ∷ [])) ≡ sheet (codes "f000010502020000" ∷ [])
  -- no calls: the honest seats wait for round 1
  pub no_calls : page Slips (sheet (codes "01040101000000000002" ∷ codes "0400010203" ∷ []))
      ≡ sheet (codes "e000000100" ∷ codes "e002000100" ∷ codes "e003000100" ∷ codes "ef000000000000" ∷ [])
  -- malformed lines and refused calls do not end a run; an entry line after the first call is malformed
  pub goes_on : page Slips (sheet (codes "01040101000000000002" ∷ codes "0403010200" ∷ codes "1100" ∷ codes "1601060300" ∷ codes "160006030001" ∷ codes "1100" ∷ codes "110d" ∷ codes "0300000001000000ff" ∷ []))
      ≡ sheet (codes "f000030d04000000" ∷ codes "f000041701000000" ∷ codes "f0000708030d0000" ∷ codes "f000081701000000" ∷ codes "e000010100" ∷ codes "e002000100" ∷ codes "e003000100" ∷ codes "ef000400020002" ∷ [])

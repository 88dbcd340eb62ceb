-- A list of seals that can be, none twice, is never longer than there are such seals: 632 rows of 13 seats.
use Rattle.std.proofs.Common.{◌≡◌, ℕ, ◌+◌, ◌*◌, ◌/◌, ◌%◌, ◌<◌, ◌≤◌, Bool, true, false, eqb, List, [], ◌∷◌, length, sym, refl, ap, ◌∙◌, arith, lit≤}
use Rattle.std.specs.List.{list_any}
use Rattle.std.proofs.lemmas.Bool.{ne_eqb, or_parts, or_from, true≢false}
use Rattle.std.proofs.lemmas.Bool.Decides.{nat_tests}
use Rattle.std.proofs.lemmas.Nat.{mul-add-lt, div-mul-add, mod-mul-add}
use Rattle.basics.specs.Count.{tally}
use Rattle.basics.proofs.CountLaws.{tally_add, tally_le}
use Rattle.seals.specs.declared.record.SealRecord.{SealRecord}
use Rattle.seals.specs.Seals.{allowed}
use Rattle.seals.specs.Rows.{row_at}
use Rattle.seals.specs.Listed.{is, listed, sound}
use Rattle.seals.proofs.RowLaws.{allowed_row, row_apart}

-- there can be such a seal
abbrev pub can : SealRecord → Bool
can x = allowed x.kind x.seat x.subject

-- the seal as one number: its row and its seat
abbrev code : SealRecord → ℕ
code x = row_at x.kind x.subject * 13 + x.seat

pub can_parts : (x : SealRecord) → can x ≡ true → (row_at x.kind x.subject < 632) × (x.seat < 13)
can_parts x h = let a = allowed_row x.kind x.seat x.subject in (grind (arith, nat_tests), grind (arith, nat_tests))

code_low : (x : SealRecord) → can x ≡ true → code x < 8216
code_low x h = let p = can_parts x h in omega (arith, mul-add-lt (row_at x.kind x.subject) 13 x.seat 632 p.0 p.1)

code_same : (x y : SealRecord) → can x ≡ true → can y ≡ true → code x ≡ code y → is y x.kind x.seat x.subject ≡ true
code_same x y h g e =
    let p = can_parts x h in
    let q = can_parts y g in
    let r = row_at x.kind x.subject in
    let r' = row_at y.kind y.subject in
    let rows : r ≡ r' = sym (div-mul-add r 13 x.seat p.1) ∙ ap (λ c. c / 13) e ∙ div-mul-add r' 13 y.seat q.1 in
    let seats : x.seat ≡ y.seat = sym (mod-mul-add r 13 x.seat p.1) ∙ ap (λ c. c % 13) e ∙ mod-mul-add r' 13 y.seat q.1 in
    let a = row_apart x.kind x.subject y.kind y.subject p.0 rows in
    grind (arith, nat_tests)

pub sound_parts : (x : SealRecord) (xs : List SealRecord) → sound (x ∷ xs) ≡ true → (can x ≡ true) × (listed xs x.kind x.seat x.subject ≡ false) × (sound xs ≡ true)
sound_parts x xs h = (grind arith, grind arith, grind arith)

-- some seal of the list has this number
abbrev coded : List SealRecord → ℕ → Bool
coded xs c = list_any (λ x. eqb c (code x)) xs

-- a seal that is not in a sound list has a number that is not
no_code : (x : SealRecord) (xs : List SealRecord) → can x ≡ true → sound xs ≡ true → listed xs x.kind x.seat x.subject ≡ false → coded xs (code x) ≡ false
no_code x [] h g gone = refl
no_code x (y ∷ ys) h g gone =
    let s = sound_parts y ys g in
    let n = or_parts (is y x.kind x.seat x.subject) (listed ys x.kind x.seat x.subject) gone in
    or_from (eqb (code x) (code y)) (coded ys (code x))
    (ne_eqb _ _ (λ e. true≢false (sym (code_same x y h s.0 e) ∙ n.0)))
    (no_code x ys h s.2 n.1)

-- (the bound is a variable here, since a count up to a numeral would be written out)
as_many : (top : ℕ) → 8216 ≤ top → (xs : List SealRecord) → sound xs ≡ true → length xs ≤ tally (coded xs) top
as_many top big [] h = omega arith
as_many top big (x ∷ xs) h =
    let s = sound_parts x xs h in
    let low = code_low x s.0 in
    let more = tally_add (coded xs) top (code x) (omega arith) (no_code x xs s.0 s.2 s.1) in
    let rest = as_many top big xs s.2 in
    omega arith

-- where a seal is not listed yet, the list is shorter than 8,216
pub room_left : (x : SealRecord) (xs : List SealRecord) → sound xs ≡ true → can x ≡ true → listed xs x.kind x.seat x.subject ≡ false → length xs < 8216
room_left x xs h ok gone = below 8216 (lit≤ tt)
  where
    below : (top : ℕ) → 8216 ≤ top → length xs < top
    below top big =
        let all : sound (x ∷ xs) ≡ true = grind arith in
        omega (arith, as_many top big (x ∷ xs) all, tally_le (coded (x ∷ xs)) top)

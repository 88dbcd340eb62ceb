-- What a list of seals holds with one more, and how many seats have sealed one thing.
use Rattle.std.proofs.Common.{◌≡◌, ℕ, ◌<◌, ◌≤◌, Bool, true, false, cond, ◌&&◌, ◌||◌, eqb, List, [], ◌∷◌, ◌++◌, count_by, ◌==◌, sym, refl, ap, ◌∙◌, ⊎_elim, arith}
use Rattle.std.proofs.lemmas.Bool.{cases_Bool, eqb-true, and_from, and_right, and_parts}
use Rattle.std.proofs.lemmas.Bool.Decides.{nat_tests}
use Rattle.std.proofs.lemmas.List.Folds.{list_any-append}
use Rattle.std.proofs.lemmas.List.Sums.{sum_by-cons}
use Rattle.basics.specs.Count.{tally}
use Rattle.basics.proofs.CountLaws.{tally_same, tally_add, tally_none}
use Rattle.seals.specs.declared.record.SealRecord.{SealRecord}
use Rattle.seals.specs.Seals.{allowed, added}
use Rattle.seals.specs.Listed.{is, listed, sound, list_holds}
use Rattle.seals.proofs.AddedLaws.{same_seal}
use Rattle.seals.proofs.RoomLaws.{can, can_parts, sound_parts}

-- one seal more at the end
pub listed_push : (xs : List SealRecord) (z : SealRecord) (k s b : ℕ) → listed (xs ++ z ∷ []) k s b ≡ (listed xs k s b || is z k s b)
listed_push xs z k s b = list_any-append (λ x. is x k s b) xs (z ∷ []) ∙ ap (λ y. listed xs k s b || y) (off (is z k s b))
  where
    off : (a : Bool) → (a || false) ≡ a
    off a = grind arith

pub sound_push : (xs : List SealRecord) (z : SealRecord) → sound xs ≡ true → can z ≡ true → listed xs z.kind z.seat z.subject ≡ false → sound (xs ++ z ∷ []) ≡ true
sound_push [] z h ok gone = and_from _ _ (and_from _ _ ok refl) refl
sound_push (x ∷ xs) z h ok gone =
    let s = sound_parts x xs h in
    let more = listed_push xs z x.kind x.seat x.subject in
    let turn : is z x.kind x.seat x.subject ≡ is x z.kind z.seat z.subject = grind (arith, nat_tests) in
    let rest : listed xs z.kind z.seat z.subject ≡ false → sound (xs ++ z ∷ []) ≡ true = sound_push xs z s.2 ok in
    grind arith

flip : (x y : ℕ) → eqb x y ≡ eqb y x
flip x y = grind (arith, nat_tests)

pub list_sealed : (xs : List SealRecord) (z : SealRecord) → can z ≡ true → list_holds (xs ++ z ∷ []) ≡ added z.kind z.seat z.subject (list_holds xs)
list_sealed xs z ok =
    let each : (k s b : ℕ) → list_holds (xs ++ z ∷ []) k s b ≡ added z.kind z.seat z.subject (list_holds xs) k s b =
    (λ k s b. joins (allowed k s b) (can z) (listed xs k s b) (eqb z.kind k) (eqb z.seat s) (eqb z.subject b) _ _ _ _ (listed_push xs z k s b) ok (flip z.kind k) (flip z.seat s) (flip z.subject b) (same_seal allowed z.kind z.seat z.subject k s b)) in
    λ i k s b. each k s b i
  where
    joins : (q p y kk ss bb kk' ss' bb' more : Bool) → more ≡ (y || (kk && (ss && bb))) → p ≡ true → kk ≡ kk' → ss ≡ ss' → bb ≡ bb' → ((kk' && (ss' && bb')) ≡ true → q ≡ p)
        → (q && more) ≡ ((p && (kk' && (ss' && bb'))) || (q && y))
    joins q p y kk ss bb kk' ss' bb' more m ok e f g same = grind arith

-- one seal more at the front
holds_more : (x : SealRecord) (xs : List SealRecord) (k s b : ℕ) → can x ≡ true → list_holds (x ∷ xs) k s b ≡ (is x k s b || list_holds xs k s b)
holds_more x xs k s b ok = joins (allowed k s b) (can x) (is x k s b) (listed xs k s b) ok (same_seal allowed k s b x.kind x.seat x.subject)
  where
    joins : (q p w y : Bool) → p ≡ true → (w ≡ true → p ≡ q) → (q && (w || y)) ≡ (w || (q && y))
    joins q p w y ok same = grind arith

-- in a sound list there are only seals that there can be
pub listed_allowed : (xs : List SealRecord) (k s b : ℕ) → sound xs ≡ true → listed xs k s b ≡ list_holds xs k s b
listed_allowed [] k s b h = sym (and_right (allowed k s b) false refl)
listed_allowed (x ∷ xs) k s b h =
    let p = sound_parts x xs h in
    ap (λ y. is x k s b || y) (listed_allowed xs k s b p.2) ∙ sym (holds_more x xs k s b p.0)

-- The records of one kind and subject are as many as the seats that have sealed it.
-- (the bound is a variable here, since a count up to a numeral would be written out)
pub counted : (top : ℕ) → 13 ≤ top → (k b : ℕ) (xs : List SealRecord) → sound xs ≡ true
    → count_by (λ x. x.kind == k && x.subject == b) xs ≡ tally (λ s. list_holds xs k s b) top
counted top big k b [] h = sym (tally_none (λ s. list_holds [] k s b) top (λ s low. and_right (allowed k s b) false refl))
counted top big k b (x ∷ xs) h =
    let p = sound_parts x xs h in
    let rest = counted top big k b xs p.2 in
    let more : (s : ℕ) → list_holds (x ∷ xs) k s b ≡ (is x k s b || list_holds xs k s b) = (λ s. holds_more x xs k s b p.0) in
    let longer = sum_by-cons (λ x. cond {A = ℕ} (x.kind == k && x.subject == b) 1 0) x xs in
    ⊎_elim
    (λ (mine : (x.kind == k && x.subject == b) ≡ true).
    let e = and_parts (x.kind == k) (x.subject == b) mine in
    let gone : listed xs k x.seat b ≡ false = sym (λ i. listed xs (eqb-true _ _ e.0 i) x.seat (eqb-true _ _ e.1 i)) ∙ p.1 in
    let seat : x.seat < top = omega (arith, (can_parts x p.0).1) in
    let one = tally_add (λ s. list_holds xs k s b) top x.seat seat (and_right (allowed k x.seat b) _ gone) in
    let same = tally_same (λ c. eqb c x.seat || list_holds xs k c b) (λ s. list_holds (x ∷ xs) k s b) top (λ s low. here (eqb x.kind k) (eqb x.seat s) (eqb s x.seat) (eqb x.subject b) _ _ mine (flip x.seat s) (more s)) in
    let this : cond {A = ℕ} (x.kind == k && x.subject == b) 1 0 ≡ 1 = ap (λ t. cond {A = ℕ} t 1 0) mine in
    omega (arith, longer, rest, one, same, this))
    (λ (other : (x.kind == k && x.subject == b) ≡ false).
    let same = tally_same (λ s. list_holds xs k s b) (λ s. list_holds (x ∷ xs) k s b) top (λ s low. there (eqb x.kind k) (eqb x.seat s) (eqb x.subject b) _ _ other (more s)) in
    let this : cond {A = ℕ} (x.kind == k && x.subject == b) 1 0 ≡ 0 = ap (λ t. cond {A = ℕ} t 1 0) other in
    omega (arith, longer, rest, same, this))
    (cases_Bool (x.kind == k && x.subject == b))
  where
    here : (kk ss ss' bb y z : Bool) → (kk && bb) ≡ true → ss ≡ ss' → z ≡ ((kk && (ss && bb)) || y) → (ss' || y) ≡ z
    here kk ss ss' bb y z m e h = grind arith

    there : (kk ss bb y z : Bool) → (kk && bb) ≡ false → z ≡ ((kk && (ss && bb)) || y) → y ≡ z
    there kk ss bb y z m h = grind arith

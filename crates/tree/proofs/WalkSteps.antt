-- Walks from a block to the root, one step at a time.
use Rattle.std.proofs.Common.{◌≡◌, ℕ, suc, ◌+◌, Bool, true, false, not, ◌&&◌, eqb, ltb, List, [], ◌∷◌, ◌++◌, length, take, sym, refl, ap, ◌∙◌, ap₂, append_assoc, append-nil, arith}
use Rattle.std.specs.List.{list_all, enumerate_from}
use Rattle.std.proofs.lemmas.List.{length_push}
use Rattle.std.proofs.lemmas.Grind.{common_steps}
use Rattle.model.specs.Setup.{Plan as Model}
use Rattle.model.specs.World.{unlike_all, sound, chain_by, places_by, block, notarization}
use Rattle.model.specs.World.{Message as Said}
use Rattle.plans.specs.Planned.{model}
use Rattle.tree.specs.declared.tree.walks.Chain.{Chain}
use Rattle.tree.specs.Blocks.{parents, payloads, chain_places, notarized_in, valid_in}
use Rattle.tree.specs.Chains.{HasParent, places_on, last_places, unlike_by, sound_on, notarized_on, valid_on}

-- what `u && r` answers, at the turn where u says whether to go on to r
pub and_then : {a b u r : Bool} → u ≡ true → u ≡ a → r ≡ b → r ≡ (a && b)
and_then {b = b} t e f = f ∙ ap (λ x. x && b) (sym t ∙ e)

pub and_else : {a u : Bool} (b : Bool) → u ≡ false → u ≡ a → u ≡ (a && b)
and_else b t e = t ∙ ap (λ x. x && b) (sym t ∙ e)

and_comm : (a b : Bool) → (a && b) ≡ (b && a)
and_comm a b = grind arith

and_assoc : (a b d : Bool) → ((a && b) && d) ≡ (a && (b && d))
and_assoc a b d = grind arith

places_by-append : (ps : ℕ → List ℕ) (xs ys : List ℕ) → places_by ps (xs ++ ys) ≡ places_by ps xs ++ places_by ps ys
places_by-append ps [] ys = refl
places_by-append ps (x ∷ xs) ys = ap (λ l. ps x ++ l) (places_by-append ps xs ys) ∙ sym (append_assoc (ps x) (places_by ps xs) (places_by ps ys))

pub unlike_all-append : (p : Model) (x : ℕ) (xs ys : List ℕ) → unlike_all p x (xs ++ ys) ≡ (unlike_all p x xs && unlike_all p x ys)
unlike_all-append p x [] ys = refl
unlike_all-append p x (z ∷ xs) ys = ap (λ b. not (p.like x z) && b) (unlike_all-append p x xs ys) ∙ sym (and_assoc (not (p.like x z)) (unlike_all p x xs) (unlike_all p x ys))

-- a chain of no round has no place
pub places_on-root : (x : Chain) → x.round ≡ 0 → places_on x ≡ []
unfolding chain_places
places_on-root x e = ap (λ k. chain_places x.tree.now k x.block.value) e

-- a chain has the places of the parent's, and then those of its last block
places_on-step : {x p : Chain} → HasParent x p → places_on x ≡ places_on p ++ last_places x
unfolding chain_places
places_on-step {x} {p} up =
    let t = x.tree.now in
    let e : x.round ≡ suc p.round = omega (arith, up.round) in
    ap (λ k. chain_places t k x.block.value) e
    ∙ places_by-append (payloads t) (chain_by (parents t) p.round (parents t x.block.value)) (x.block.value ∷ [])
    ∙ ap₂ (λ b l. chain_places t p.round b ++ l) (sym up.block) (append-nil (last_places x))
    ∙ ap (λ s. chain_places s.now p.round p.block.value ++ last_places x) (sym up.tree)

-- no place of a chain is like y if none of the last block is, which r says, nor any of the parent's chain
pub unlike-step : {x p : Chain} {ys : List ℕ} {r : Bool} (y : ℕ) → HasParent x p → ys ≡ last_places x → r ≡ unlike_by x y ys
    → unlike_by x y (places_on x) ≡ (r && unlike_by p y (places_on p))
unlike-step {x} {p} {ys} y up own said =
    ap (unlike_by x y) (places_on-step up) ∙ unlike_all-append (model x.plan.now) y (places_on p) (last_places x)
    ∙ and_comm (unlike_by x y (places_on p)) (unlike_by x y (last_places x))
    ∙ (λ i. (sym (said ∙ ap (unlike_by x y) own)) i && unlike_all (model ((sym up.plan) i).now) y (places_on p))

-- whether the place y, at i in a list, may stand there, after those of a chain and those before it
abbrev pub may_stand : Chain → List ℕ → ℕ × ℕ → Bool
may_stand x ys (i, y) = ltb y (model x.plan.now).entries && (unlike_by x y (places_on x) && unlike_by x y (take i ys))

sound-from : (x : Chain) (before ys : List ℕ)
    → list_all (may_stand x (before ++ ys)) (enumerate_from (length before) ys) ≡ sound (model x.plan.now) (places_on x ++ before) ys
sound-from x before [] = refl
sound-from x before (y ∷ ys) =
    let m = model x.plan.now in
    let chain = places_on x in
    let front : take (length before) (before ++ y ∷ ys) ≡ before = grind (arith, common_steps) in
    let next : list_all (may_stand x (before ++ y ∷ ys)) (enumerate_from (length before + 1) ys) ≡ sound m ((chain ++ before) ++ (y ∷ [])) ys =
    ap₂ (λ l n. list_all (may_stand x l) (enumerate_from n ys)) (sym (append_assoc before (y ∷ []) ys)) (sym (length_push before y))
    ∙ sound-from x (before ++ y ∷ []) ys
    ∙ ap (λ l. sound m l ys) (sym (append_assoc chain before (y ∷ []))) in
    ap₂ (λ a b. ltb y m.entries && a && b) (ap (λ l. unlike_by x y chain && unlike_by x y l) front ∙ sym (unlike_all-append m y chain before)) next
    ∙ and_assoc (ltb y m.entries) (unlike_all m y (chain ++ before)) (sound m ((chain ++ before) ++ (y ∷ [])) ys)

-- places are sound on a chain if each may stand where it is
pub sound_on-places : (x : Chain) (ys : List ℕ) → list_all (may_stand x ys) (enumerate_from 0 ys) ≡ sound_on x ys
sound_on-places x ys = sound-from x [] ys ∙ ap (λ l. sound (model x.plan.now) l ys) (append-nil (places_on x))

pub notarized_on-root : (x : Chain) (pool : Said → Bool) → x.round ≡ 0 → notarized_on x pool ≡ eqb x.block.value 0
unfolding notarized_in
notarized_on-root x pool e = ap (λ k. notarized_in (model x.plan.now) x.tree.now pool k x.block.value) e

pub valid_on-root : (x : Chain) (pool : Said → Bool) → x.round ≡ 0 → valid_on x pool ≡ eqb x.block.value 0
unfolding valid_in
valid_on-root x pool e = ap (λ k. valid_in (model x.plan.now) x.tree.now pool k x.block.value) e

-- a block is valid if it is in the pool, its parent is notarized, and its payload is sound on the parent's chain
pub valid_on-step : {x p : Chain} (pool : Said → Bool) → HasParent x p
    → valid_on x pool ≡ (pool (block x.block.value) && notarized_on p pool && sound_on p (last_places x))
unfolding notarized_in valid_in chain_places
valid_on-step {x} {p} pool up =
    let e : x.round ≡ suc p.round = omega (arith, up.round) in
    let plan = sym up.plan in
    let tree = sym up.tree in
    let above = sym up.block in
    ap (λ k. valid_in (model x.plan.now) x.tree.now pool k x.block.value) e
    ∙ (λ i. pool (block x.block.value)
    && (notarized_in (model (plan i).now) (tree i).now pool p.round (above i) && sound (model (plan i).now) (chain_places (tree i).now p.round (above i)) (last_places x)))
    ∙ sym (and_assoc (pool (block x.block.value)) (notarized_on p pool) (sound_on p (last_places x)))

-- it is notarized if it is valid and its notarization is in the pool
notarized_on-valid : (x : Chain) (j : ℕ) (pool : Said → Bool) → x.round ≡ suc j → notarized_on x pool ≡ (valid_on x pool && pool (notarization x.block.value))
unfolding notarized_in valid_in
notarized_on-valid x j pool e =
    let m = model x.plan.now in
    let t = x.tree.now in
    let b = x.block.value in
    ap (λ k. notarized_in m t pool k b) e ∙ ap (λ k. valid_in m t pool k b && pool (notarization b)) (sym e)

regroup : (a b d e : Bool) → (((a && b) && d) && e) ≡ (((a && e) && d) && b)
regroup a b d e = grind arith

-- so it is notarized if it and its notarization are in the pool, its payload is sound on the parent's chain, and the parent is notarized
pub notarized_on-step : {x p : Chain} (pool : Said → Bool) → HasParent x p
    → notarized_on x pool ≡ (((pool (block x.block.value) && pool (notarization x.block.value)) && sound_on p (last_places x)) && notarized_on p pool)
notarized_on-step {x} {p} pool up =
    let it = pool (block x.block.value) in
    let whole = pool (notarization x.block.value) in
    let e : x.round ≡ suc p.round = omega (arith, up.round) in
    notarized_on-valid x p.round pool e ∙ ap (λ b. b && whole) (valid_on-step pool up)
    ∙ regroup it (notarized_on p pool) (sound_on p (last_places x)) whole

-- Sets of places: what is like none of them, and what one place more adds.
use Rattle.std.proofs.Common.{◌≡◌, ℕ, ◌<◌, ◌≤◌, Bool, true, false, not, ◌&&◌, ◌||◌, eqb, ltb, List, [], ◌∷◌, ◌++◌, get_or, sym, refl, ap, ◌∙◌, inl, inr, ⊎_elim, arith}
use Rattle.std.proofs.lemmas.Bool.{both_ways, cases_Bool, cases_eq, and_parts, and_from, and_left, and_right, or_cases, or_left, or_right, not_from_true, not_from_false, eqb-true, eq-eqb, ne_eqb, lt-ltb, le-ltb}
use Rattle.std.specs.List.{list_all}
use Rattle.basics.specs.Bit.{bit, Meets}
use Rattle.basics.specs.Put.{put, put_below}
use Rattle.basics.proofs.BitLaws.{put_here, put_there, put_inside}
use Rattle.model.specs.Setup.{Plan as Model}
use Rattle.model.specs.World.{unlike_all}
use Rattle.plans.specs.declared.plan.Plan.{Plan}
use Rattle.plans.specs.Planned.{model}
use Rattle.plans.specs.Places.{among, SetOf}

-- an entry that is like none of a list, as a test of all of them
pub unlike_listed : (p : Model) (x : ℕ) (ys : List ℕ) → list_all (λ y. not (p.like x y)) ys ≡ unlike_all p x ys
unlike_listed p x [] = refl
unlike_listed p x (y ∷ ys) = ap (λ b. not (p.like x y) && b) (unlike_listed p x ys)

like_none : (p : Model) (x : ℕ) (ys : List ℕ) → ((y : ℕ) → among ys y ≡ true → p.like x y ≡ false) → unlike_all p x ys ≡ true
like_none p x [] h = refl
like_none p x (y ∷ ys) h =
    and_from _ _ (not_from_false (p.like x y) (h y (or_left (eqb y y) (among ys y) (eq-eqb y y refl)))) (like_none p x ys (λ z e. h z (or_right (eqb y z) (among ys z) e)))

like_one : (p : Model) (x : ℕ) (ys : List ℕ) (y : ℕ) → among ys y ≡ true → p.like x y ≡ true → unlike_all p x ys ≡ false
like_one p x [] y h e = absurd (both_ways false refl h)
like_one p x (z ∷ ys) y h e =
    elim (or_cases (eqb z y) (among ys y) h) [
      | inl s ↦ and_left _ _ (not_from_true (p.like x z) (ap (p.like x) (eqb-true z y s) ∙ e))
      | inr r ↦ and_right (not (p.like x z)) _ (like_one p x ys y r e)
    ]

-- a place of the table is like none of a set where its row of bits and the set have nothing in common
pub meets_unlike : (plan : Plan) (x set : ℕ) (b : Bool) → x < plan.entries → Meets b (get_or plan.likeness x 0) set
    → (ys : List ℕ) → SetOf (model plan) set ys → not b ≡ unlike_all (model plan) x ys
meets_unlike plan x set true low common ys is =
    let y = common.0 in
    let in_List = and_parts (ltb y plan.entries) (among ys y) (sym (is y) ∙ common.2) in
    let alike : (model plan).like x y ≡ true = and_from _ _ (and_from _ _ (lt-ltb x plan.entries low) in_List.0) common.1 in
    sym (like_one (model plan) x ys y in_List.1 alike)
meets_unlike plan x set false low apart ys is =
    sym (like_none (model plan) x ys (λ y e. ⊎_elim
    (λ (alike : (model plan).like x y ≡ true).
    let parts = and_parts (ltb x plan.entries && ltb y plan.entries) (bit (get_or plan.likeness x 0) y) alike in
    let low_too = and_parts (ltb x plan.entries) (ltb y plan.entries) parts.0 in
    absurd (apart y parts.1 (is y ∙ and_from _ _ low_too.1 e)))
    (λ (no' : (model plan).like x y ≡ false). no')
    (cases_Bool ((model plan).like x y))))

among_here : (ys : List ℕ) (x y : ℕ) → x ≡ y → among (ys ++ (x ∷ [])) y ≡ true
among_here [] x y e = or_left (eqb x y) false (eq-eqb x y e)
among_here (z ∷ ys) x y e = or_right (eqb z y) _ (among_here ys x y e)

among_there : (ys : List ℕ) (x y : ℕ) → (x ≡ y → ⊥) → among (ys ++ (x ∷ [])) y ≡ among ys y
among_there [] x y ne = ap (λ b. b || false) (ne_eqb x y ne)
among_there (z ∷ ys) x y ne = ap (λ b. eqb z y || b) (among_there ys x y ne)

-- the set with a place of the table in it
pub set_more : (p : Model) (mask more x : ℕ) → x < p.entries → p.entries ≤ 128 → bit more ≡ put_below 128 x true (bit mask)
    → (ys : List ℕ) → SetOf p mask ys → SetOf p more (ys ++ (x ∷ []))
set_more p mask more x low few e ys is y =
    let at : bit more y ≡ put x true (bit mask) y = ap (λ f. f y) (e ∙ put_inside 128 x true (bit mask) (omega arith)) in
    ⊎_elim
    (λ (here : x ≡ y). at ∙ put_here x true (bit mask) y here ∙ sym (and_from _ _ (lt-ltb y p.entries (omega arith)) (among_here ys x y here)))
    (λ (ne : x ≡ y → ⊥). at ∙ put_there x true (bit mask) y ne ∙ is y ∙ ap (λ b. ltb y p.entries && b) (sym (among_there ys x y ne)))
    (cases_eq x y)

-- a place past the table leaves the set as it is
pub set_same : (p : Model) (mask x : ℕ) → p.entries ≤ x → (ys : List ℕ) → SetOf p mask ys → SetOf p mask (ys ++ (x ∷ []))
set_same p mask x past ys is y =
    ⊎_elim
    (λ (here : x ≡ y).
    let out : ltb y p.entries ≡ false = le-ltb y p.entries (omega arith) in
    is y ∙ and_left _ (among ys y) out ∙ sym (and_left _ (among (ys ++ (x ∷ [])) y) out))
    (λ (ne : x ≡ y → ⊥). is y ∙ ap (λ b. ltb y p.entries && b) (sym (among_there ys x y ne)))
    (cases_eq x y)

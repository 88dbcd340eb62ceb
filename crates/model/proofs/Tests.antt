-- Tests: two answers at once, a value put in a function, equal messages, messages of a list, phases.
use Rattle.std.proofs.Common.{◌≡◌, ℕ, Bool, true, false, cond, ◌&&◌, eqb, List, [], ◌∷◌, ◌++◌, refl, ap, subst, inl, inr}
use Rattle.std.proofs.lemmas.Bool.{both_ways, and_parts, and_from, or_cases, or_left, or_right, eqb-true, eq-eqb, ne_eqb, cond-true, cond-false}
use Rattle.model.specs.World.{Message, Phase, same, has}
use Rattle.basics.specs.Put.{put}
use Rattle.model.specs.World.Phase.{waiting, in_round, done}
use Rattle.model.specs.Checks.{is_in_round, is_waiting}

pub not_both : {A : Type 0} (b : Bool) → b ≡ true → b ≡ false → A
not_both b p q = absurd (both_ways b q p)

pub and_fails : (a b : Bool) → (a && b) ≡ false → a ≡ true → b ≡ false
and_fails true b h p = h
and_fails false b h p = not_both false p refl

-- a function with one value put
pub put_each : {A : Type 0} (P : ℕ → A → Type 0) (i : ℕ) (v : A) (f : ℕ → A) (j : ℕ) → P i v → P j (f j) → P j (put i v f j)
put_each {A} P i v f j here there = go (eqb i j) refl
  where
    go : (b : Bool) → eqb i j ≡ b → P j (cond b v (f j))
    go true e = subst (λ (k : ℕ). P k v) (eqb-true i j e) here
    go false e = there

pub put_here : {A : Type 0} (i : ℕ) (v : A) (f : ℕ → A) → put i v f i ≡ v
put_here i v f = cond-true (eqb i i) v (f i) (eq-eqb i i refl)

pub put_other : {A : Type 0} (i j : ℕ) (v : A) (f : ℕ → A) → (i ≡ j → ⊥) → put i v f j ≡ f j
put_other i j v f h = cond-false (eqb i j) v (f j) (ne_eqb i j h)

-- messages
pub same_true : (a b : Message) → same a b ≡ true → a ≡ b
same_true a b h =
    let u = and_parts (eqb a.kind b.kind) _ h in
    let v = and_parts (eqb a.signer b.signer) (eqb a.subject b.subject) u.1 in
    let e = eqb-true a.kind b.kind u.0 in
    let f = eqb-true a.signer b.signer v.0 in
    let g = eqb-true a.subject b.subject v.1 in
    λ i. record { kind = e i; signer = f i; subject = g i }

same_self : (a : Message) → same a a ≡ true
same_self a =
    and_from _ _ (eq-eqb a.kind a.kind refl) (and_from _ _ (eq-eqb a.signer a.signer refl) (eq-eqb a.subject a.subject refl))

-- Each P ms: P holds of every message of the list
abbrev pub Each : (Message → Type 0) → List Message → Type 0
Each P [] = Unit {0}
Each P (m ∷ ms) = P m × Each P ms

pub each_of : (P : Message → Type 0) (ms : List Message) → Each P ms → (m : Message) → has ms m ≡ true → P m
each_of P [] x m h = not_both false h refl
each_of P (y ∷ ms) x m h =
    elim (or_cases (same y m) (has ms m) h) [ inl e ↦ subst P (same_true y m e) x.0 | inr e ↦ each_of P ms x.1 m e ]

pub each_append : (P : Message → Type 0) (ms ns : List Message) → Each P ms → Each P ns → Each P (ms ++ ns)
each_append P [] ns x y = y
each_append P (m ∷ ms) ns x y = (x.0, each_append P ms ns x.1 y)

pub each_map : (P Q : Message → Type 0) (ms : List Message) → ((m : Message) → P m → Q m) → Each P ms → Each Q ms
each_map P Q [] f x = tt
each_map P Q (m ∷ ms) f x = (f m x.0, each_map P Q ms f x.1)

pub has_first : (m : Message) (ms : List Message) → has (m ∷ ms) m ≡ true
has_first m ms = or_left _ _ (same_self m)

pub has_left : (ms ns : List Message) (m : Message) → has ms m ≡ true → has (ms ++ ns) m ≡ true
has_left [] ns m h = not_both false h refl
has_left (x ∷ ms) ns m h = elim (or_cases (same x m) (has ms m) h) [ inl e ↦ or_left _ _ e | inr e ↦ or_right _ _ (has_left ms ns m e) ]

pub has_right : (ms ns : List Message) (m : Message) → has ns m ≡ true → has (ms ++ ns) m ≡ true
has_right [] ns m h = h
has_right (x ∷ ms) ns m h = or_right _ _ (has_right ms ns m h)

-- phases
abbrev pub is_done : Phase → Bool
is_done waiting = false
is_done in_round = false
is_done done = true

pub done_is : (x : Phase) → is_done x ≡ true → x ≡ done
done_is waiting h = not_both false h refl
done_is in_round h = not_both false h refl
done_is done h = refl

pub waiting_is : (x : Phase) → is_waiting x ≡ true → x ≡ waiting
waiting_is waiting h = refl
waiting_is in_round h = not_both false h refl
waiting_is done h = not_both false h refl

pub in_round_is : (x : Phase) → is_in_round x ≡ true → x ≡ in_round
in_round_is waiting h = not_both false h refl
in_round_is in_round h = refl
in_round_is done h = not_both false h refl

pub neither_is : (x : Phase) → is_done x ≡ false → is_waiting x ≡ false → x ≡ in_round
neither_is waiting h k = not_both true refl k
neither_is in_round h k = refl
neither_is done h k = not_both true refl h

pub waiting_not_in_round : {A : Type 0} → waiting ≡ in_round → A
waiting_not_in_round h = not_both false (ap is_in_round h) refl

pub done_not_in_round : {A : Type 0} → done ≡ in_round → A
done_not_in_round h = not_both false (ap is_in_round h) refl

pub waiting_not_done : {A : Type 0} → waiting ≡ done → A
waiting_not_done h = not_both false (ap is_done h) refl

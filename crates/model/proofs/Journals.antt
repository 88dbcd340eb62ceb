-- Two points of one journal: each state is replayed from the lines above it, each answer is the verdict there, and what was there stays.
use Rattle.std.proofs.Common.{◌≡◌, List, [], ◌∷◌, ◌++◌, sym, refl, ap, ◌∙◌, subst}
use Rattle.model.specs.Setup.{Plan, Lawful}
use Rattle.model.specs.World.{World}
use Rattle.model.specs.Checks.{Call, verdict}
use Rattle.model.specs.Checks.Verdict.{accepted}
use Rattle.model.specs.Effects.{after, opening}
use Rattle.model.specs.Journal.{Line, Kept, AcceptedAt}
use Rattle.model.specs.Journal.Kept.{opened, called}
use Rattle.model.proofs.Growth.{Grows, grows_none, grows_more}
use Rattle.model.proofs.Invariant.{Inv}
use Rattle.model.proofs.Always.{after_keeps, after_grows, always}

module _ (p : Plan) where
  -- the calls of a journal's lines, made one after another
  abbrev replay : World → List Line → World
  replay w [] = w
  replay w (j ∷ js) = replay (after p w j.call) js

  -- each line's answer is the verdict on its call
  abbrev Answered : World → List Line → Type 0
  Answered w [] = Unit {0}
  Answered w (j ∷ js) = (j.answer ≡ verdict p w j.call) × Answered (after p w j.call) js

  replay_append : (w : World) (js ks : List Line) → replay w (js ++ ks) ≡ replay (replay w js) ks
  replay_append w [] ks = refl
  replay_append w (j ∷ js) ks = replay_append (after p w j.call) js ks

  answered_append : (w : World) (js ks : List Line) → Answered w js → Answered (replay w js) ks → Answered w (js ++ ks)
  answered_append w [] ks x y = y
  answered_append w (j ∷ js) ks x y = (x.0, answered_append (after p w j.call) js ks x.1 y)

  answered_rest : (w : World) (js ks : List Line) → Answered w (js ++ ks) → Answered (replay w js) ks
  answered_rest w [] ks x = x
  answered_rest w (j ∷ js) ks x = answered_rest (after p w j.call) js ks x.1

  kept_replayed : (js : List Line) (w : World) → Kept p js w → w ≡ replay (opening p) js
  kept_replayed js w opened = refl
  kept_replayed js w (called {js = ls} {w = v} k c) =
      ap (λ x. after p x c) (kept_replayed ls v k) ∙ sym (replay_append (opening p) ls (record { call = c; answer = verdict p v c } ∷ []))

  kept_answered : (js : List Line) (w : World) → Kept p js w → Answered (opening p) js
  kept_answered js w opened = tt
  kept_answered js w (called {js = ls} {w = v} k c) = answered_append (opening p) ls _ (kept_answered ls v k)
      (subst (λ x. Answered x (record { call = c; answer = verdict p v c } ∷ [])) (kept_replayed ls v k) (refl, tt))

  -- where a journal goes on from a point of it
  kept_on : (js ks : List Line) (v w : World) → Kept p js v → Kept p (js ++ ks) w → replay v ks ≡ w
  kept_on js ks v w kv kw =
      ap (λ x. replay x ks) (kept_replayed js v kv) ∙ sym (replay_append (opening p) js ks) ∙ sym (kept_replayed (js ++ ks) w kw)

  -- a line that accepts a call: the call was accepted there, and what followed is replayed from its effect
  pub accepted_verdict : (js : List Line) (v w : World) (c : Call) → Kept p js w → AcceptedAt p js v c → verdict p v c ≡ accepted
  accepted_verdict js v w c k a =
      let x = answered_rest (opening p) a.above _ (subst (Answered (opening p)) a.here (kept_answered js w k)) in
      let y = subst (λ u. Answered u (record { call = c; answer = accepted } ∷ a.under)) (sym (kept_replayed a.above v a.kept)) x in
      sym y.0

  accepted_on : (js : List Line) (v w : World) (c : Call) → Kept p js w → (a : AcceptedAt p js v c) → replay (after p v c) a.under ≡ w
  accepted_on js v w c k a = kept_on a.above _ v w a.kept (subst (λ ls. Kept p ls w) a.here k)

  module _ (l : Lawful p) where
    replay_grows : (w : World) → Inv p w → (ks : List Line) → Grows w (replay w ks)
    replay_grows w i [] = grows_none w
    replay_grows w i (k ∷ ks) = grows_more w _ _ (after_grows p l w i k.call) (replay_grows (after p w k.call) (after_keeps p l w i k.call) ks)

    -- what was there at one point of a journal is there at every later one
    pub kept_grows : (js ks : List Line) (v w : World) → Kept p js v → Kept p (js ++ ks) w → Grows v w
    kept_grows js ks v w kv kw = subst (Grows v) (kept_on js ks v w kv kw) (replay_grows v (always p l js v kv) ks)

    pub accepted_grows : (js : List Line) (v w : World) (c : Call) → Kept p js w → AcceptedAt p js v c → Grows (after p v c) w
    accepted_grows js v w c k a =
        subst (Grows (after p v c)) (accepted_on js v w c k a)
        (replay_grows (after p v c) (after_keeps p l v (always p l a.above v a.kept) c) a.under)

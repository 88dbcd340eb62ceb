-- From what the parts of a call promise to what the rules say of the call.
use Rattle.std.proofs.Common.{◌≡◌, ℕ, Bool, true, false, cond, ltb, List, [], ◌∷◌, ◌++◌, drop, Ok, Err, Result, sym, refl, ap, ◌∙◌, subst, ap₂, arith}
use Rattle.std.proofs.lemmas.Result.{err_from_is_err_and}
use Rattle.std.specs.Result.{IsErrAnd}
use Rattle.std.proofs.lemmas.Bool.{cond-true, cond-false}
use Rattle.std.proofs.lemmas.Bool.Decides.{nat_tests}
use Rattle.model.specs.Setup.{Plan as Model}
use Rattle.model.specs.World.{World, message}
use Rattle.model.specs.World.{Message as Said}
use Rattle.model.specs.Checks.{Call, Check, Verdict, caller, checks, verdict, first_failed, known, in_range}
use Rattle.model.specs.Checks.Check.{must}
use Rattle.model.specs.Checks.Verdict.{accepted, refused}
use Rattle.model.specs.Effects.{is_accepted, after, effect, broadcast, seals, seat_after, with_new_block}
use Rattle.model.specs.Journal.{Kept}
use Rattle.model.specs.Journal.Kept.{called}
use Rattle.model.proofs.Law.{law_stands}
use Rattle.plans.specs.declared.plan.Plan.{Plan}
use Rattle.plans.specs.Planned.{model}
use Rattle.plans.proofs.Lawfulness.{plan_is_lawful}
use Rattle.seats.specs.declared.fault.SeatFault.{SeatFault}
use Rattle.seats.specs.Faults.{seat_fault_number, seat_fault_subject}
use Rattle.seats.specs.Desk.{verdict_past, accepts}
use Rattle.hall.specs.declared.hall.Hall.{Hall}
use Rattle.hall.specs.declared.fault.HallFault.{HallFault}
use Rattle.hall.specs.declared.fault.HallFault.TheVariants.{Seat}
use Rattle.hall.specs.Faults.{fault_verdict, answer}
use Rattle.hall.specs.Worlds.{world}
use Rattle.hall.specs.Steps.{posting, seating, Ran, Decided}
use Rattle.hall.specs.Answers.{seat_if, block_if, message_if, Called}

-- The checks that begin a call, by what the code found.
pub seat_found : (p : Model) (ok : Bool) (s x i : ℕ) (rest : List Check) → Ok i ≡ seat_if p ok s
    → (i ≡ s) × ((ltb s p.n ≡ true) × (first_failed (must (ltb s p.n) 8 3 s x ∷ must ok 9 3 s x ∷ rest) ≡ first_failed rest))
seat_found p ok s x i rest e = (grind arith, (grind arith, grind arith))

pub seat_missed : (p : Model) (ok : Bool) (s x : ℕ) (f : HallFault) (rest : List Check) → Err f ≡ seat_if p ok s
    → fault_verdict s x f ≡ first_failed (must (ltb s p.n) 8 3 s x ∷ must ok 9 3 s x ∷ rest)
seat_missed p ok s x f rest e = grind arith

pub block_found : (p : Model) (w : World) (s b i : ℕ) (rest : List Check) → Ok i ≡ block_if p w b
    → (i ≡ b) × ((known p w b ≡ true) × (first_failed (must (known p w b) 10 3 s b ∷ rest) ≡ first_failed rest))
block_found p w s b i rest e = (grind arith, (grind arith, grind arith))

pub block_missed : (p : Model) (w : World) (s b : ℕ) (f : HallFault) (rest : List Check) → Err f ≡ block_if p w b
    → fault_verdict s b f ≡ first_failed (must (known p w b) 10 3 s b ∷ rest)
block_missed p w s b f rest e = grind arith

pub message_found : (p : Model) (w : World) (s kind signer x : ℕ) (m : Said) (rest : List Check) → Ok m ≡ message_if p w kind signer x
    → (m ≡ message kind signer x) × ((in_range p w kind signer x ≡ true) × (first_failed (must (in_range p w kind signer x) 10 3 s x ∷ rest) ≡ first_failed rest))
message_found p w s kind signer x m rest e = (grind arith, (grind arith, grind arith))

pub message_missed : (p : Model) (w : World) (s kind signer x : ℕ) (f : HallFault) (rest : List Check) → Err f ≡ message_if p w kind signer x
    → (in_range p w kind signer x ≡ false) × (fault_verdict s x f ≡ first_failed (must (in_range p w kind signer x) 10 3 s x ∷ rest))
message_missed p w s kind signer x f rest e = (grind arith, grind arith)

-- a message about an unknown block
pub unknown_message : (p : Model) (w : World) (kind signer x : ℕ) (f : HallFault) → (kind ≡ 6 → ⊥) → Err f ≡ block_if p w x → Err f ≡ message_if p w kind signer x
unknown_message p w kind signer x f ne e = grind (arith, nat_tests)

-- What every call owes, from its verdict and the state after it.
module _ {B : Type 0} (held : B → ℕ → ℕ → ℕ → Bool) (h : Hall B) (c : Call) where
  settles : (h' : Hall B) (v : Verdict) → h'.plan ≡ h.plan → v ≡ verdict (model h.plan) (world held h) c
      → world held h' ≡ after (model h.plan) (world held h) c → Called held h h' c v
  settles h' v plan said left =
      let p = model h.plan in
      let w = world held h in
      record {
        plan_stays = plan;
        judged = said;
        left = left;
        journal = λ js kept.
            let one : Kept p (js ++ (record { call = c; answer = verdict p w c } ∷ [])) (after p w c) = called kept c in
            let two : Kept p (js ++ (record { call = c; answer = v } ∷ [])) (after p w c) = subst (λ (u : Verdict). Kept p (js ++ (record { call = c; answer = u } ∷ [])) (after p w c)) (sym said) one in
            let three : Kept p (js ++ (record { call = c; answer = v } ∷ [])) (world held h') = subst (λ (u : World). Kept p (js ++ (record { call = c; answer = v } ∷ [])) u) (sym left) two in
            subst (λ (q : Plan). Kept (model q) (js ++ (record { call = c; answer = v } ∷ [])) (world held h')) (sym plan) three;
        promises = law_stands (model h'.plan) (plan_is_lawful h'.plan);
      }

  -- a refused call, and a state that is as it was
  pub refuses : (h' : Hall B) (s x : ℕ) (f : HallFault) → h'.plan ≡ h.plan → fault_verdict s x f ≡ verdict (model h.plan) (world held h) c
      → world held h' ≡ world held h → Called held h h' c (fault_verdict s x f)
  refuses h' s x f plan said same =
      let p = model h.plan in
      let w = world held h in
      settles h' (fault_verdict s x f) plan said (same ∙ sym (cond-false (is_accepted (verdict p w c)) (effect p w c) w (sym (ap is_accepted said))))

  -- a refusal that a `?` hands on, where nothing has changed
  pub turned_away : (s x : ℕ) (f : HallFault) (r : Result (Unit {0}) HallFault) → IsErrAnd r (λ e. e ≡ f) → fault_verdict s x f ≡ verdict (model h.plan) (world held h) c
      → Called held h h c (answer s x r)
  turned_away s x f r handed said =
      let q = err_from_is_err_and r handed in
      subst (λ (o : Result (Unit {0}) HallFault). Called held h h c (answer s x o)) (sym (q.1 ∙ ap Err q.2)) (refuses h s x f refl said refl)

  -- an accepted call, and the state that the rules say
  pub accepts_call : (h' : Hall B) → h'.plan ≡ h.plan → accepted ≡ verdict (model h.plan) (world held h) c
      → world held h' ≡ effect (model h.plan) (world held h) c → Called held h h' c accepted
  accepts_call h' plan said left =
      let p = model h.plan in
      let w = world held h in
      settles h' accepted plan said (left ∙ sym (cond-true (is_accepted (verdict p w c)) (effect p w c) w (sym (ap is_accepted said))))

  -- past the hall's k checks the seat's rule decides
  module _ (k : ℕ) (past : verdict (model h.plan) (world held h) c ≡ verdict_past k (model h.plan) (world held h) c) where
    pub rule_refused : (h' : Hall B) (s x : ℕ) (f : SeatFault) {out : List Said}
        → Ran held k h h' c (refused (seat_fault_number f) 4 s (seat_fault_subject x f)) out → Called held h h' c (fault_verdict s x (Seat f))
    rule_refused h' s x f ran =
        let p = model h.plan in
        let w = world held h in
        let stop : accepts k p w c ≡ false = sym (ap is_accepted ran.judged) in
        refuses h' s x (Seat f) ran.plan_stays (ran.judged ∙ sym past)
        (ran.left ∙ cond-false (accepts k p w c) (seating (caller c) (seat_after p w c) (seals p w c) (with_new_block p w c)) w stop)

    -- the same, where a `?` hands the refusal on
    pub rule_turned_away : (h' : Hall B) (s x : ℕ) (f : SeatFault) (r : Result (Unit {0}) HallFault) {out : List Said} → IsErrAnd r (λ e. e ≡ Seat f)
        → Ran held k h h' c (refused (seat_fault_number f) 4 s (seat_fault_subject x f)) out → Called held h h' c (answer s x r)
    rule_turned_away h' s x f r handed ran =
        let q = err_from_is_err_and r handed in
        subst (λ (o : Result (Unit {0}) HallFault). Called held h h' c (answer s x o)) (sym (q.1 ∙ ap Err q.2)) (rule_refused h' s x f ran)

    pub rule_accepted : (h₁ h' : Hall B) (out : List Said) → Ran held k h h₁ c accepted out → h'.plan ≡ h₁.plan
        → world held h' ≡ posting (caller c) out (world held h₁)
        → posting (caller c) (broadcast (model h.plan) (world held h) c) (seating (caller c) (seat_after (model h.plan) (world held h) c) (seals (model h.plan) (world held h) c) (with_new_block (model h.plan) (world held h) c)) ≡ effect (model h.plan) (world held h) c
        → Called held h h' c accepted
    rule_accepted h₁ h' out ran plan posts whole =
        let p = model h.plan in
        let w = world held h in
        let go : accepts k p w c ≡ true = sym (ap is_accepted ran.judged) in
        accepts_call h' (plan ∙ ran.plan_stays) (ran.judged ∙ sym past)
        (posts
        ∙ ap₂ (posting (caller c))
        (ran.sends ∙ cond-true (accepts k p w c) (broadcast p w c) [] go)
        (ran.left ∙ cond-true (accepts k p w c) (seating (caller c) (seat_after p w c) (seals p w c) (with_new_block p w c)) w go)
        ∙ whole)

    -- past the hall's k checks its own rule decides
    pub decided : (h' : Hall B) (v : Verdict) → Decided held k h h' c v → Called held h h' c v
    decided h' v d =
        let p = model h.plan in
        let w = world held h in
        settles h' v d.plan_stays (d.judged ∙ sym past) (d.left ∙ ap (λ (u : Verdict). cond (is_accepted u) (effect p w c) w) (sym past))

-- The first checks of a call c that names x: that there is such a seat, and of the right sort.
module _ {B : Type 0} (held : B → ℕ → ℕ → ℕ → Bool) (h : Hall B) (c : Call) (ok : Bool) (x : ℕ) (begins : checks (model h.plan) (world held h) c
    ≡ must (ltb (caller c) h.plan.sizes.seats) 8 3 (caller c) x ∷ must ok 9 3 (caller c) x ∷ drop 2 (checks (model h.plan) (world held h) c)) where
  pub seat_refused : (f : HallFault) (r : Result (Unit {0}) HallFault) → Err f ≡ seat_if (model h.plan) ok (caller c) → IsErrAnd r (λ e. e ≡ f)
      → Called held h h c (answer (caller c) x r)
  seat_refused f r e handed =
      turned_away held h c (caller c) x f r handed
      (seat_missed (model h.plan) ok (caller c) x f (drop 2 (checks (model h.plan) (world held h) c)) e ∙ sym (ap first_failed begins))

  module _ (i : ℕ) (seat : Ok i ≡ seat_if (model h.plan) ok (caller c)) where
    pub past_seat : (i ≡ caller c) × (verdict (model h.plan) (world held h) c ≡ verdict_past 2 (model h.plan) (world held h) c)
    past_seat =
        let q = seat_found (model h.plan) ok (caller c) x i (drop 2 (checks (model h.plan) (world held h) c)) seat in
        (q.0, ap first_failed begins ∙ q.1.1)

    -- the next check: that the block is known
    module _ (next : drop 2 (checks (model h.plan) (world held h) c)
        ≡ must (known (model h.plan) (world held h) x) 10 3 (caller c) x ∷ drop 3 (checks (model h.plan) (world held h) c)) where
      pub block_refused : (f : HallFault) (r : Result (Unit {0}) HallFault) → Err f ≡ block_if (model h.plan) (world held h) x → IsErrAnd r (λ e. e ≡ f)
          → Called held h h c (answer (caller c) x r)
      block_refused f r e handed =
          turned_away held h c (caller c) x f r handed
          (block_missed (model h.plan) (world held h) (caller c) x f (drop 3 (checks (model h.plan) (world held h) c)) e ∙ sym (past_seat.1 ∙ ap first_failed next))

      pub past_block : (j : ℕ) → Ok j ≡ block_if (model h.plan) (world held h) x
          → (j ≡ x) × (verdict (model h.plan) (world held h) c ≡ verdict_past 3 (model h.plan) (world held h) c)
      past_block j block =
          let q = block_found (model h.plan) (world held h) (caller c) x j (drop 3 (checks (model h.plan) (world held h) c)) block in
          (q.0, past_seat.1 ∙ ap first_failed next ∙ q.1.1)

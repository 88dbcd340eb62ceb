use Rattle.std.proofs.Common.{◌≡◌, ℕ, ◌+◌, ◌<◌, min, true, false, cond, not, eqb, ltb, sym, refl, ap, ◌∙◌, subst, arith}
use Rattle.std.proofs.lemmas.Bool.{cond-true, lt-ltb, eq-eqb}
use Rattle.model.specs.Setup.{number, round_of}
use Rattle.model.specs.Checks.{made_in, forged_before}
use Rattle.model.specs.Checks.Call.{forge}
use Rattle.model.specs.Checks.Verdict.{accepted, refused}
use Rattle.model.specs.Effects.{effect, is_accepted}
use Rattle.plans.specs.Planned.{model}
use Rattle.seats.specs.Desk.{verdict_past, accepts}
use Rattle.hall.specs.Worlds.{world}
use Rattle.hall.proofs.Updates.{quietly}
use Rattle.tree.specs.Payloads.{listed}
use Rattle.model.specs.Effects.{forgery, with_block}
use Rattle.hall.proofs.hall.Hall.run_forge.Goals as goal

pub returns : goal.returns
returns g c =
    let h = c.args.self.now in
    let held = g.B.SealView.held in
    let p = model h.plan in
    let w = world held h in
    let s = c.args.who.value in
    let k = c.args.round.value in
    let par = c.args.parent.value in
    let xs = listed c.args.payload in
    let call = forge s k par xs in
    let below : eqb (round_of p par + 1) k ≡ true = eq-eqb _ _ (ap (λ (r : ℕ). r + 1) (sym c.round_of.ensures.is) ∙ c.if-round_of-value.false ∙ c.value.ensures.same) in
    let new : forged_before p w s k par xs ≡ false = sym c.if-forged_before.ensures in
    let few : made_in p w s k < 3 = subst (λ (n : ℕ). n < 3) c.forged_count-variant.ensures c.if-variant-ge3.false in
    let said : accepted ≡ verdict_past 3 p w call =
    sym ((λ i. cond (below i) (cond (not (new i)) (cond (ltb (made_in p w s k) 3) accepted (refused 15 3 s par)) (refused 16 3 s par)) (refused 17 3 s par))
    ∙ cond-true (ltb (made_in p w s k) 3) accepted (refused 15 3 s par) (lt-ltb _ _ few)) in
    let b : c.number-block.result.value ≡ forgery p w s k =
    let v : min c.forged_count-variant.result 2 ≡ made_in p w s k = omega (arith, c.forged_count-variant.ensures, c.if-variant-ge3.false) in
    c.number-block.ensures ∙ ap (number p k s) v in
    let m = c.make.ensures in
    record {
      plan_stays = refl;
      judged = said;
      left = (λ i. record { made = m.made i; parent = m.parent i; places = m.places i; sealed = w.sealed; pool = w.pool; posted = w.posted; seat = w.seat })
          ∙ ap (λ (n : ℕ). with_block n par xs w) b
          ∙ quietly s (with_block (forgery p w s k) par xs w)
          ∙ sym (cond-true (accepts 3 p w call) (effect p w call) w (sym (ap is_accepted said)));
    }

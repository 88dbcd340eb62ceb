-- The safety promises: catalogues agree, and no entry stands twice in one.
use Rattle.std.proofs.Common.{ℕ, ◌++◌, inl, inr, arith}
use Rattle.std.proofs.lemmas.Bool.{cases_lt}
use Rattle.model.specs.Setup.{Plan, Lawful}
use Rattle.model.specs.World.{chain, places_of}
use Rattle.model.specs.Promises.{CataloguesAgree, NoEntryTwice}
use Rattle.model.proofs.Accepted.{acting}
use Rattle.model.proofs.Invariant.{Anchor, Inv}
use Rattle.model.proofs.Stays.{anchor_stays}
use Rattle.model.proofs.Chains.{lower_first}
use Rattle.model.proofs.Payload.{sound_alone, valid_sound}
use Rattle.model.proofs.Always.{always}
use Rattle.model.proofs.Journals.{kept_grows}

pub catalogues_agree : (p : Plan) → Lawful p → CataloguesAgree p
catalogues_agree p l js ks v w kv kw r s r_below r_honest s_below s_honest =
    rw (ra.2, sa.2) (elim (cases_lt j k) [
      | inl h ↦ inl (lower_first p w iw l r s j k ra.0 sa.0 (omega arith) ra.1 sa.1)
      | inr h ↦ inr (lower_first p w iw l s r k j sa.0 ra.0 h sa.1 ra.1)
    ])
  where
    j : ℕ
    j = (v.seat r).k_max

    k : ℕ
    k = (w.seat s).k_max

    iv : Inv p v
    iv = always p l js v kv

    iw : Inv p w
    iw = always p l (js ++ ks) w kw

    ra : Anchor p w r j (v.seat r).catalogue
    ra = anchor_stays p v w iv (kept_grows p l js ks v w kv kw) r j _ (iv.seats r (acting r_below r_honest)).anchor

    sa : Anchor p w s k (w.seat s).catalogue
    sa = (iw.seats s (acting s_below s_honest)).anchor

pub no_entry_twice : (p : Plan) → Lawful p → NoEntryTwice p
no_entry_twice p l js w k s below honest_seat =
    let a = ((always p l js w k).seats s (acting below honest_seat)).anchor in
    rw a.2 (sound_alone p l (places_of w (chain w (w.seat s).k_max a.0)) (valid_sound p w s (w.seat s).k_max a.0 a.1.sits))

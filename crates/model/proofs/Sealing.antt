-- What each call seals and for whom: the table of seals read both ways; and that an honest call's shares then exist.
use Rattle.std.proofs.Common.{◌≡◌, ℕ, ◌+◌, ◌≤◌, true, false, leb, [], sym, refl, ap, subst}
use Rattle.std.proofs.lemmas.Bool.{cond_both, or_left, le-leb, leb-true}
use Rattle.model.specs.Setup.{Plan, rank_of}
use Rattle.model.specs.World.{World, Message, message, notarization_share, finalization_share, beacon_share, has, exists}
use Rattle.model.specs.Checks.{Call, caller, noted_rank, noted_other}
use Rattle.model.specs.Checks.Call.{tick, enter, propose, echo, finish, commit, deliver, forge, seal}
use Rattle.model.specs.Effects.{seals, broadcast, arrivals, effect}
use Rattle.model.proofs.Tests.{Each, each_of, each_map, has_first, not_both}

module _ (p : Plan) (w : World) where
  abbrev pub SealedBy : Call → Message → Type 0
  SealedBy (tick s time) m = ⊥
  SealedBy (enter s) m = (m ≡ beacon_share s ((w.seat s).round + 1)) × ((w.seat s).round + 1 ≤ p.rounds)
  SealedBy (propose s par xs) m = ⊥
  SealedBy (echo s b) m = (m ≡ notarization_share s b) × (noted_rank p (w.seat s) (rank_of p b) ≡ false)
  SealedBy (finish s b) m = (m ≡ finalization_share s b) × (noted_other p (w.seat s) b ≡ false)
  SealedBy (commit s b) m = ⊥
  SealedBy (deliver s kind signer x) m = ⊥
  SealedBy (forge s k par xs) m = ⊥
  SealedBy (seal s kind x) m = m ≡ message kind s x

  pub seals_each : (c : Call) → Each (SealedBy c) (seals p w c)
  seals_each (tick s time) = tt
  seals_each (enter s) =
      cond_both (leb ((w.seat s).round + 1) p.rounds) _ [] (Each (SealedBy (enter s))) (λ e. ((refl, leb-true _ _ e), tt)) (λ _. tt)
  seals_each (propose s par xs) = tt
  seals_each (echo s b) =
      cond_both (noted_rank p (w.seat s) (rank_of p b)) [] _ (Each (SealedBy (echo s b))) (λ _. tt) (λ e. ((refl, e), tt))
  seals_each (finish s b) =
      cond_both (noted_other p (w.seat s) b) [] _ (Each (SealedBy (finish s b))) (λ _. tt) (λ e. ((refl, e), tt))
  seals_each (commit s b) = tt
  seals_each (deliver s kind signer x) = tt
  seals_each (forge s k par xs) = tt
  seals_each (seal s kind x) = (refl, tt)

  pub sealed_by : (c : Call) (m : Message) → has (seals p w c) m ≡ true → SealedBy c m
  sealed_by c = each_of (SealedBy c) (seals p w c) (seals_each c)

  pub by_sealed : (c : Call) (m : Message) → SealedBy c m → has (seals p w c) m ≡ true
  by_sealed (tick s time) m x = absurd x
  by_sealed (enter s) m x = rw (x.0, le-leb _ _ x.1) (has_first (beacon_share s ((w.seat s).round + 1)) [])
  by_sealed (propose s par xs) m x = absurd x
  by_sealed (echo s b) m x = rw (x.0, x.1) (has_first (notarization_share s b) [])
  by_sealed (finish s b) m x = rw (x.0, x.1) (has_first (finalization_share s b) [])
  by_sealed (commit s b) m x = absurd x
  by_sealed (deliver s kind signer y) m x = absurd x
  by_sealed (forge s k par xs) m x = absurd x
  by_sealed (seal s kind y) m x = rw x (has_first (message kind s y) [])

  -- a call seals for its caller
  pub seals_own : (c : Call) (m : Message) → SealedBy c m → m.signer ≡ caller c
  seals_own (tick s time) m x = absurd x
  seals_own (enter s) m x = ap (λ (y : Message). y.signer) x.0
  seals_own (propose s par xs) m x = absurd x
  seals_own (echo s b) m x = ap (λ (y : Message). y.signer) x.0
  seals_own (finish s b) m x = ap (λ (y : Message). y.signer) x.0
  seals_own (commit s b) m x = absurd x
  seals_own (deliver s kind signer y) m x = absurd x
  seals_own (forge s k par xs) m x = absurd x
  seals_own (seal s kind y) m x = ap (λ (z : Message). z.signer) x

  -- what a call broadcasts comes into its caller's pool too
  pub broadcast_arrives : (c : Call) (m : Message) → has (broadcast p w c) m ≡ true → has (arrivals p w c) m ≡ true
  broadcast_arrives (tick s time) m h = h
  broadcast_arrives (enter s) m h = h
  broadcast_arrives (propose s par xs) m h = h
  broadcast_arrives (echo s b) m h = h
  broadcast_arrives (finish s b) m h = h
  broadcast_arrives (commit s b) m h = h
  broadcast_arrives (deliver s kind signer x) m h = not_both false h refl
  broadcast_arrives (forge s k par xs) m h = h
  broadcast_arrives (seal s kind x) m h = h

  -- the shares that an honest call seals are in the state after it
  abbrev There : Call → Message → Type 0
  There c m = exists p (effect p w c) m ≡ true

  pub enter_shares : (s : ℕ) → Each (There (enter s)) (seals p w (enter s))
  enter_shares s = each_map (SealedBy (enter s)) (There (enter s)) (seals p w (enter s))
      (λ m x. subst (There (enter s)) (sym x.0) (or_left _ _ (by_sealed (enter s) (beacon_share s ((w.seat s).round + 1)) (refl, x.1)))) (seals_each (enter s))

  pub echo_shares : (s b : ℕ) → Each (There (echo s b)) (seals p w (echo s b))
  echo_shares s b = each_map (SealedBy (echo s b)) (There (echo s b)) (seals p w (echo s b))
      (λ m x. subst (There (echo s b)) (sym x.0) (or_left _ _ (by_sealed (echo s b) (notarization_share s b) (refl, x.1)))) (seals_each (echo s b))

  pub finish_shares : (s b : ℕ) → Each (There (finish s b)) (seals p w (finish s b))
  finish_shares s b = each_map (SealedBy (finish s b)) (There (finish s b)) (seals p w (finish s b))
      (λ m x. subst (There (finish s b)) (sym x.0) (or_left _ _ (by_sealed (finish s b) (finalization_share s b) (refl, x.1)))) (seals_each (finish s b))

-- The state's seals and posted messages are those that the journal's accepted calls made; a final block is alone in the journal's terms.
use Rattle.std.proofs.Common.{◌≡◌, ℕ, Bool, true, false, ◌||◌, ◌⊎◌, List, [], ◌∷◌, ◌++◌, sym, refl, ap, ◌∙◌, subst, inl, inr, append_assoc, arith}
use Rattle.std.proofs.lemmas.Bool.{and_from, or_cases, or_left, lt-ltb}
use Rattle.model.specs.Setup.{Plan, Lawful, honest, rank_of}
use Rattle.model.specs.World.{World, Message, notarization_share, finalization_share, has}
use Rattle.model.specs.Checks.{Call, caller, verdict, noted_rank, noted_other}
use Rattle.model.specs.Checks.Call.{tick, enter, propose, echo, finish, commit, deliver, forge, seal}
use Rattle.model.specs.Checks.Verdict.{accepted}
use Rattle.model.specs.Effects.{seals, broadcast, effect, after, opening}
use Rattle.model.specs.Journal.{Line, Kept, AcceptedAt}
use Rattle.model.specs.Journal.Kept.{opened, called}
use Rattle.model.specs.Promises.{NotarizationSeal, FinalizationSeal, FirstShare, BroadcastIn, SealsAreJournaled, PostsAreJournaled, FinalizedAlone}
use Rattle.model.proofs.Tests.{not_both}
use Rattle.model.proofs.Counting.{tally_grows}
use Rattle.model.proofs.Verdicts.{after_any}
use Rattle.model.proofs.Accepted.{enter_met, propose_met, echo_met, finish_met, commit_met}
use Rattle.model.proofs.Growth.{Grows}
use Rattle.model.proofs.Sealing.{SealedBy, sealed_by, by_sealed}
use Rattle.model.proofs.Chains.{alone}
use Rattle.model.proofs.Always.{first_share, always}
use Rattle.model.proofs.Journals.{accepted_verdict, accepted_grows, kept_grows}

-- A part of the state that each accepted call adds a list of messages to.
module _ (p : Plan) (marked : World → Message → Bool) (adds : World → Call → List Message)
    (step : (w : World) (c : Call) (m : Message) → marked (effect p w c) m ≡ (has (adds w c) m || marked w m))
    (stays : (w v : World) (m : Message) → Grows w v → marked w m ≡ true → marked v m ≡ true) where
  abbrev Added : List Line → Message → Type 0
  Added js m = (v : World) × (c : Call) × AcceptedAt p js v c × (has (adds v c) m ≡ true)

  later : (js : List Line) (j : Line) (v : World) (c : Call) → AcceptedAt p js v c → AcceptedAt p (js ++ (j ∷ [])) v c
  later js j v c a = record {
    above = a.above;
    under = a.under ++ (j ∷ []);
    kept = a.kept;
    here = ap (λ (ls : List Line). ls ++ (j ∷ [])) a.here ∙ append_assoc a.above _ (j ∷ []);
  }

  now : (js : List Line) (w : World) (c : Call) → Kept p js w → verdict p w c ≡ accepted →
      AcceptedAt p (js ++ (record { call = c; answer = verdict p w c } ∷ [])) w c
  now js w c k e = record { above = js; under = []; kept = k; here = λ n. js ++ (record { call = c; answer = e n } ∷ []) }

  added : (m : Message) (js : List Line) (w : World) → Kept p js w → marked w m ≡ true → (marked (opening p) m ≡ true) ⊎ Added js m
  added m js w opened h = inl h
  added m js w (called {js = ls} {w = v} k c) h =
      let line : Line = record { call = c; answer = verdict p v c } in
      let old : marked v m ≡ true → (marked (opening p) m ≡ true) ⊎ Added (ls ++ (line ∷ [])) m =
      λ o. elim (added m ls v k o) [ inl z ↦ inl z | inr x ↦ inr (x.0, x.1, later ls line x.0 x.1 x.2, x.3) ] in
      after_any (λ u. marked u m ≡ true → (marked (opening p) m ≡ true) ⊎ Added (ls ++ (line ∷ [])) m) p v c old
      (λ e o. elim (or_cases (has (adds v c) m) (marked v m) (sym (step v c m) ∙ o)) [ inl n ↦ inr (v, c, now ls v c k e, n) | inr z ↦ old z ]) h

  is_marked : Lawful p → (m : Message) (js : List Line) (w : World) → Kept p js w → Added js m → marked w m ≡ true
  is_marked l m js w k (v, c, a, n) = stays (after p v c) w m (accepted_grows p l js v w c k a)
      (rw (accepted_verdict p js v w c k a) (step v c m ∙ or_left (has (adds v c) m) (marked v m) n))

module _ (p : Plan) (l : Lawful p) where
  -- Seals.
  abbrev seal_of : World → Message → Bool
  seal_of w m = w.sealed m.kind m.signer m.subject

  abbrev SealAdded : List Line → Message → Type 0
  SealAdded = Added p seal_of (seals p) (λ w c m. refl) (λ w v m g. g.seals_stay m.kind m.signer m.subject)

  sealed_added : (js : List Line) (w : World) → Kept p js w → (m : Message) → seal_of w m ≡ true → (seal_of (opening p) m ≡ true) ⊎ SealAdded js m
  sealed_added js w k m = added p seal_of (seals p) (λ w c m. refl) (λ w v m g. g.seals_stay m.kind m.signer m.subject) m js w k

  added_sealed : (js : List Line) (w : World) → Kept p js w → (m : Message) → SealAdded js m → seal_of w m ≡ true
  added_sealed js w k m = is_marked p seal_of (seals p) (λ w c m. refl) (λ w v m g. g.seals_stay m.kind m.signer m.subject) l m js w k

  module _ (js : List Line) (v : World) (s b : ℕ) where
    kinds : {A : Type 0} (m n : Message) → m ≡ n → (m.kind ≡ n.kind → ⊥) → A
    kinds m n e apart = absurd (apart (ap (λ (z : Message). z.kind) e))

    notarization_from : (c : Call) → AcceptedAt p js v c → SealedBy p v c (notarization_share s b) → NotarizationSeal p js s b
    notarization_from (tick _ _) a x = absurd x
    notarization_from (enter r) a x = kinds (notarization_share s b) _ x.0 (λ z. omega arith)
    notarization_from (propose _ _ _) a x = absurd x
    notarization_from (echo r c) a x = (
      v,
      inr (subst
          (λ (z : Message). AcceptedAt p js v (echo z.signer z.subject) × (noted_rank p (v.seat z.signer) (rank_of p z.subject) ≡ false))
          (sym x.0) (a, x.1)),
    )
    notarization_from (finish r c) a x = kinds (notarization_share s b) _ x.0 (λ z. omega arith)
    notarization_from (commit _ _) a x = absurd x
    notarization_from (deliver _ _ _ _) a x = absurd x
    notarization_from (forge _ _ _ _) a x = absurd x
    notarization_from (seal r kind y) a x = (v, inl (subst (λ (z : Message). AcceptedAt p js v (seal z.signer z.kind z.subject)) (sym x) a))

    finalization_from : (c : Call) → AcceptedAt p js v c → SealedBy p v c (finalization_share s b) → FinalizationSeal p js s b
    finalization_from (tick _ _) a x = absurd x
    finalization_from (enter r) a x = kinds (finalization_share s b) _ x.0 (λ z. omega arith)
    finalization_from (propose _ _ _) a x = absurd x
    finalization_from (echo r c) a x = kinds (finalization_share s b) _ x.0 (λ z. omega arith)
    finalization_from (finish r c) a x = (
      v,
      inr (subst
          (λ (z : Message). AcceptedAt p js v (finish z.signer z.subject) × (noted_other p (v.seat z.signer) z.subject ≡ false))
          (sym x.0) (a, x.1)),
    )
    finalization_from (commit _ _) a x = absurd x
    finalization_from (deliver _ _ _ _) a x = absurd x
    finalization_from (forge _ _ _ _) a x = absurd x
    finalization_from (seal r kind y) a x = (v, inl (subst (λ (z : Message). AcceptedAt p js v (seal z.signer z.kind z.subject)) (sym x) a))

  pub seals_are_journaled : SealsAreJournaled p
  seals_are_journaled js w k s b = ((notarization_told, notarization_made), (finalization_told, finalization_made))
    where
      notarization_told : w.sealed 2 s b ≡ true → NotarizationSeal p js s b
      notarization_told h = elim (sealed_added js w k (notarization_share s b) h) [
        | inl z ↦ not_both false z refl
        | inr x ↦ notarization_from js x.0 s b x.1 x.2 (sealed_by p x.0 x.1 (notarization_share s b) x.3)
      ]

      notarization_made : NotarizationSeal p js s b → w.sealed 2 s b ≡ true
      notarization_made (v, inl a) = added_sealed js w k (notarization_share s b) (v, seal s 2 b, a, by_sealed p v (seal s 2 b) (notarization_share s b) refl)
      notarization_made (v, inr x) = added_sealed js w k (notarization_share s b) (v, echo s b, x.0, by_sealed p v (echo s b) (notarization_share s b) (refl, x.1))

      finalization_told : w.sealed 4 s b ≡ true → FinalizationSeal p js s b
      finalization_told h = elim (sealed_added js w k (finalization_share s b) h) [
        | inl z ↦ not_both false z refl
        | inr x ↦ finalization_from js x.0 s b x.1 x.2 (sealed_by p x.0 x.1 (finalization_share s b) x.3)
      ]

      finalization_made : FinalizationSeal p js s b → w.sealed 4 s b ≡ true
      finalization_made (v, inl a) = added_sealed js w k (finalization_share s b) (v, seal s 4 b, a, by_sealed p v (seal s 4 b) (finalization_share s b) refl)
      finalization_made (v, inr x) = added_sealed js w k (finalization_share s b) (v, finish s b, x.0, by_sealed p v (finish s b) (finalization_share s b) (refl, x.1))

  -- Broadcasts.
  broadcasts_honest : (v : World) (c : Call) (m : Message) → verdict p v c ≡ accepted → has (broadcast p v c) m ≡ true → honest p (caller c) ≡ true
  broadcasts_honest v (tick _ _) m h n = not_both false n refl
  broadcasts_honest v (enter s) m h n = (enter_met p v s h).acts.honest_seat
  broadcasts_honest v (propose s par xs) m h n = (propose_met p v s par xs h).acts.honest_seat
  broadcasts_honest v (echo s b) m h n = (echo_met p v s b h).acts.honest_seat
  broadcasts_honest v (finish s b) m h n = (finish_met p v s b h).acts.honest_seat
  broadcasts_honest v (commit s b) m h n = (commit_met p v s b h).acts.honest_seat
  broadcasts_honest v (deliver _ _ _ _) m h n = not_both false n refl
  broadcasts_honest v (forge _ _ _ _) m h n = not_both false n refl
  broadcasts_honest v (seal _ _ _) m h n = not_both false n refl

  pub posts_are_journaled : PostsAreJournaled p
  posts_are_journaled js w k m = (told, made)
    where
      told : w.posted m ≡ true → FirstShare p m ⊎ BroadcastIn p js m
      told h = elim (added p (λ w. w.posted) (broadcast p) (λ w c m. refl) (λ w v m g. g.posts_stay m) m js w k h) [
        | inl z ↦ inl (first_share p m z)
        | inr (v, c, a, n) ↦ inr (v, c, a, broadcasts_honest v c m (accepted_verdict p js v w c k a) n, n)
      ]

      made : FirstShare p m ⊎ BroadcastIn p js m → w.posted m ≡ true
      made (inl (s, below, honest_seat, e)) = (kept_grows p l [] js (opening p) w opened k).posts_stay m
          (subst (λ (z : Message). (opening p).posted z ≡ true) (sym e) (and_from _ _ (lt-ltb s p.n below) honest_seat))
      made (inr (v, c, a, _, n)) = is_marked p (λ w. w.posted) (broadcast p) (λ w c m. refl) (λ w v m g. g.posts_stay m) l m js w k (v, c, a, n)

  -- A quorum's seals in the journal are the state's.
  pub finalized_alone : FinalizedAlone p
  finalized_alone js w k b c _ _ e (f, f_seals, f_many) (g, g_seals, g_many) = alone p w (always p l js w k) l b c e
      (omega (arith, f_many, tally_grows f (λ s. w.sealed 4 s b) p.n (λ s below h. (seals_are_journaled js w k s b).1.1 (f_seals s below h))))
      (omega (arith, g_many, tally_grows g (λ s. w.sealed 2 s c) p.n (λ s below h. (seals_are_journaled js w k s c).0.1 (g_seals s below h))))

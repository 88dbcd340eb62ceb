-- What holds of every complete journal, above its first line and under every line.
use Rattle.std.specs.Prelude.{◌≡◌, ℕ, ◌+◌, ◌-◌, ◌*◌, ◌<◌, ◌≤◌, Bool, true, false, cond, ◌&&◌, ◌⊎◌, List, [], ◌∷◌, ◌++◌, length, ◌≢◌, slice_index}
use Rattle.basics.specs.Count.{tally}
use Rattle.model.specs.Setup.{Plan, honest, quorum, round_of, rank_of, elapsed}
use Rattle.model.specs.World.{World, Message, beacon_share, has, places_of}
use Rattle.model.specs.World.Phase.{in_round, done}
use Rattle.model.specs.Checks.{Call, caller, noted_rank, noted_other, better, some_better, first_better, verdict}
use Rattle.model.specs.Checks.Call.{tick, enter, propose, echo, finish, commit, deliver, forge, seal}
use Rattle.model.specs.Checks.Verdict.{accepted}
use Rattle.model.specs.Effects.{broadcast, is_accepted}
use Rattle.model.specs.Journal.{Line, Kept, AcceptedAt}

-- What a journal's lines say.
-- s sealed b for notarization: by a corrupt seat's call, or by an echo with no noted block of b's rank
abbrev pub NotarizationSeal : Plan → List Line → ℕ → ℕ → Type 0
NotarizationSeal p js s b =
    (v : World) × (AcceptedAt p js v (seal s 2 b) ⊎ (AcceptedAt p js v (echo s b) × (noted_rank p (v.seat s) (rank_of p b) ≡ false)))

-- s sealed b for finalization: by a corrupt seat's call, or by a finish with no other block noted
abbrev pub FinalizationSeal : Plan → List Line → ℕ → ℕ → Type 0
FinalizationSeal p js s b =
    (v : World) × (AcceptedAt p js v (seal s 4 b) ⊎ (AcceptedAt p js v (finish s b) × (noted_other p (v.seat s) b ≡ false)))

-- an honest seat's share for round 1, there from the opening
abbrev pub FirstShare : Plan → Message → Type 0
FirstShare p m = (s : ℕ) × (s < p.n) × (honest p s ≡ true) × (m ≡ beacon_share s 1)

-- an accepted call of an honest seat broadcast m
abbrev pub BroadcastIn : Plan → List Line → Message → Type 0
BroadcastIn p js m =
    (v : World) × (c : Call) × AcceptedAt p js v c × (honest p (caller c) ≡ true) × (has (broadcast p v c) m ≡ true)

-- each follows from the other
abbrev pub Iff : Type 0 → Type 0 → Type 0
Iff A B = (A → B) × (B → A)

-- the state's seals are those of the journal
abbrev pub SealsAreJournaled : Plan → Type 0
SealsAreJournaled p =
    (js : List Line) (w : World) → Kept p js w → (s b : ℕ) →
    Iff (w.sealed 2 s b ≡ true) (NotarizationSeal p js s b) × Iff (w.sealed 4 s b ≡ true) (FinalizationSeal p js s b)

-- the state's posted messages are those of the journal
abbrev pub PostsAreJournaled : Plan → Type 0
PostsAreJournaled p =
    (js : List Line) (w : World) → Kept p js w → (m : Message) →
    Iff (w.posted m ≡ true) (FirstShare p m ⊎ BroadcastIn p js m)

-- a quorum of seats has sealed, each of them as Seal says
abbrev pub QuorumOf : Plan → (ℕ → Type 0) → Type 0
QuorumOf p Seal = (f : ℕ → Bool) × ((s : ℕ) → s < p.n → f s ≡ true → Seal s) × (quorum p ≤ tally f p.n)

-- where one block of a round is finalized, no other of that round is notarized
abbrev pub FinalizedAlone : Plan → Type 0
FinalizedAlone p =
    (js : List Line) (w : World) → Kept p js w →
    (b c : ℕ) → 1 ≤ b → 1 ≤ c → round_of p b ≡ round_of p c →
    QuorumOf p (λ s. FinalizationSeal p js s b) → QuorumOf p (λ s. NotarizationSeal p js s c) → b ≡ c

-- ys begins with all of xs
abbrev pub Begins : List ℕ → List ℕ → Type 0
Begins xs ys = (zs : List ℕ) × (xs ++ zs ≡ ys)

-- the longer begins with all of the shorter
abbrev pub Agree : List ℕ → List ℕ → Type 0
Agree xs ys = Begins xs ys ⊎ Begins ys xs

-- Any two honest catalogues agree, of two seats or one, read at two points of one journal or at one: the journal to the later point begins with that to the earlier.
abbrev pub CataloguesAgree : Plan → Type 0
CataloguesAgree p =
    (js ks : List Line) (v w : World) → Kept p js v → Kept p (js ++ ks) w →
    (r s : ℕ) → r < p.n → honest p r ≡ true → s < p.n → honest p s ≡ true →
    Agree (v.seat r).catalogue (w.seat s).catalogue

-- no two of a list's places are alike: at different positions, whatever they name
abbrev pub NoTwoAlike : Plan → List ℕ → Type 0
NoTwoAlike p xs = (i j : ℕ) → i < j → j < length xs → p.like (slice_index xs i) (slice_index xs j) ≢ true

-- an honest catalogue has no two alike entries
abbrev pub NoEntryTwice : Plan → Type 0
NoEntryTwice p =
    (js : List Line) (w : World) → Kept p js w →
    (s : ℕ) → s < p.n → honest p s ≡ true →
    NoTwoAlike p (places_of w (w.seat s).catalogue)

-- every honest pool holds every posted message
abbrev pub AllDelivered : Plan → World → Type 0
AllDelivered p w =
    (s : ℕ) (m : Message) → s < p.n → honest p s ≡ true → w.posted m ≡ true → w.pool s m ≡ true

-- so it can be: what was posted can be delivered to each honest seat
abbrev pub PostsCanArrive : Plan → Type 0
PostsCanArrive p =
    (js : List Line) (w : World) → Kept p js w → (m : Message) → w.posted m ≡ true →
    (s : ℕ) → s < p.n → honest p s ≡ true → verdict p w (deliver s m.kind m.signer m.subject) ≡ accepted

-- every honest seat in a round has waited long enough for any rank
abbrev pub AllPatient : Plan → World → Type 0
AllPatient p w =
    (s : ℕ) → s < p.n → honest p s ≡ true → (w.seat s).phase ≡ in_round →
    2 * p.d * (p.n - 1) + p.e ≤ elapsed p s (w.seat s).start (w.seat s).clock

-- every honest seat is done
abbrev pub AllDone : Plan → World → Type 0
AllDone p w = (s : ℕ) → s < p.n → honest p s ≡ true → (w.seat s).phase ≡ done

-- some honest seat may enter, propose, echo or finish now, with some parent, payload or block
abbrev pub Ready : Plan → World → Type 0
Ready p w =
    (s : ℕ) × (s < p.n) × (honest p s ≡ true) ×
    ((verdict p w (enter s) ≡ accepted)
    ⊎ (((par : ℕ) × (xs : List ℕ) × (verdict p w (propose s par xs) ≡ accepted))
    ⊎ (((b : ℕ) × (verdict p w (echo s b) ≡ accepted))
    ⊎ ((b : ℕ) × (verdict p w (finish s b) ≡ accepted)))))

-- where all is delivered and all have waited, a hall is done or some seat may go on
abbrev pub NeverStuck : Plan → Type 0
NeverStuck p =
    (js : List Line) (w : World) → Kept p js w → AllDelivered p w → AllPatient p w →
    AllDone p w ⊎ Ready p w

-- c is before d in the order by rank, then by number, or is d
abbrev pub NotAfter : Plan → ℕ → ℕ → Type 0
NotAfter p c d = (rank_of p c < rank_of p d) ⊎ ((rank_of p c ≡ rank_of p d) × (c ≤ d))

-- where some block is better than a rank, an echo's search finds one, and names the first of them
abbrev pub BetterIsNamed : Plan → Type 0
BetterIsNamed p =
    (js : List Line) (w : World) → Kept p js w → (s r c : ℕ) → s < p.n → honest p s ≡ true → better p w s r c ≡ true →
    (some_better p w s r ≡ true) × (better p w s r (first_better p w s r) ≡ true) × NotAfter p (first_better p w s r) c

-- the rules of a seat: enter, propose, echo, finish and commit
abbrev pub is_seat_rule : Call → Bool
is_seat_rule (tick _ _) = false
is_seat_rule (enter _) = true
is_seat_rule (propose _ _ _) = true
is_seat_rule (echo _ _) = true
is_seat_rule (finish _ _) = true
is_seat_rule (commit _ _) = true
is_seat_rule (deliver _ _ _ _) = false
is_seat_rule (forge _ _ _ _) = false
is_seat_rule (seal _ _ _) = false

-- how many lines of a journal accept one of them
abbrev pub rules_used : List Line → ℕ
rules_used [] = 0
rules_used (j ∷ js) = cond (is_accepted j.answer && is_seat_rule j.call) 1 0 + rules_used js

-- only so many do, however long the journal is: for each seat and round an enter, a proposal, two echoes to a rank, a finish and a commit
abbrev pub RunsEnd : Plan → Type 0
RunsEnd p = (js : List Line) (w : World) → Kept p js w → rules_used js ≤ p.n * (p.rounds * (2 * p.n + 4))

-- all that is promised of a plan
pub record Promises (p : Plan) : Type 0 where
  pub catalogues_agree : CataloguesAgree p
  pub no_entry_twice : NoEntryTwice p
  pub finalized_alone : FinalizedAlone p
  pub never_stuck : NeverStuck p
  pub posts_can_arrive : PostsCanArrive p
  pub seals_are_journaled : SealsAreJournaled p
  pub posts_are_journaled : PostsAreJournaled p
  pub better_is_named : BetterIsNamed p
  pub runs_end : RunsEnd p

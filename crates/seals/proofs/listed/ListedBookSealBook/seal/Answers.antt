-- A seal that is there changes nothing; a new one always finds room.
use Rattle.std.proofs.Common.{◌≡◌, ℕ, ◌<◌, ◌≤◌, true, false, cond, List, [], ◌∷◌, ◌++◌, length, sym, ap, ◌∙◌, subst, arith}
use Rattle.std.proofs.lemmas.Bool.{lt-ltb}
use Rattle.basics.specs.Contents.{contents, room}
use Rattle.seals.specs.declared.record.SealRecord.{SealRecord}
use Rattle.seals.specs.Listed.{listed, sound, list_holds}
use Rattle.seals.proofs.AddedLaws.{not_added}
use Rattle.seals.proofs.RoomLaws.{can, room_left}
use Rattle.seals.proofs.ListLaws.{sound_push, list_sealed}
use Rattle.seals.proofs.listed.ListedBookSealBook.seal.Goals as goal
use Rattle.seals.proofs.listed.ListedBookSealBook.seal.Goals.{After-push, then-not-is_allowed-via-then-not-is_allowed, then-not-is_allowed-via-else-not-is_allowed+then-lists}

pub returns-then-not-is_allowed-clause-after : goal.returns-then-not-is_allowed-clause-after
returns-then-not-is_allowed-clause-after c =
    not_added (list_holds (contents c.args.self.now.records)) c.args.kind c.args.seat c.args.subject
    (λ ok. elim c.then-not-is_allowed.branch [ then-not-is_allowed-via-then-not-is_allowed w ↦ grind arith | then-not-is_allowed-via-else-not-is_allowed+then-lists w ↦ grind arith ])

-- the seal that is pushed, and the list before
abbrev new : After-push → SealRecord
new c = record { kind = c.args.kind; seat = c.args.seat; subject = c.args.subject }

abbrev old : After-push → List SealRecord
old c = contents c.args.self.now.records

can_be : (c : After-push) → can (new c) ≡ true
can_be c = sym c.is_allowed.ensures ∙ c.if-not-is_allowed.false

is_new : (c : After-push) → listed (old c) c.args.kind c.args.seat c.args.subject ≡ false
is_new c = sym (ap (λ l. listed l c.args.kind c.args.seat c.args.subject) c.as_slice.ensures) ∙ sym c.lists.ensures ∙ c.if-lists.false

finds_room : (c : After-push) → c.push.result ≡ true
finds_room c =
    let low : length (old c) < 8216 = room_left (new c) (old c) c.args.self.now.good (can_be c) (is_new c) in
    let big : 8216 ≤ room c.args.self.now.records = c.args.self.now.big in
    c.push.ensures.answer ∙ lt-ltb (length (old c)) (room c.args.self.now.records) (omega arith)

grown : (c : After-push) → contents c.push.new.self ≡ old c ++ new c ∷ []
grown c = c.push.ensures.after ∙ ap (λ r. cond r (old c ++ new c ∷ []) (old c)) (finds_room c)

pub invariant_of-self : goal.invariant_of-self
invariant_of-self c = record {
  big = subst (λ (n : ℕ). 8216 ≤ n) (sym c.push.ensures.space) c.args.self.now.big;
  good = ap sound (grown c) ∙ sound_push (old c) (new c) c.args.self.now.good (can_be c) (is_new c);
}

pub returns-clause-answer : goal.returns-clause-answer
returns-clause-answer c =
    let a = (goal.at.returns-clause-answer c).After-push in
    let ok = can_be a in
    let gone = is_new a in
    let done = finds_room a in
    grind arith

pub returns-clause-after : goal.returns-clause-after
returns-clause-after c = let a = (goal.at.returns-clause-after c).After-push in ap list_holds (grown a) ∙ list_sealed (old a) (new a) (can_be a)

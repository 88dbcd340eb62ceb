-- The rows of a set of messages: each message that there can be has a bit of its own.
use Rattle.std.proofs.Common.{◌≡◌, ℕ, zero, suc, ◌<◌, ◌≤◌, true, false, ◌&&◌, ◌||◌, eqb, List, length, get_or, set, replicate, sym, refl, ap, ◌∙◌, arith, get_or-set_other}
use Rattle.std.proofs.lemmas.Bool.Decides.{nat_tests}
use Rattle.std.proofs.lemmas.Grind.{get_or-set_at}
use Rattle.std.proofs.lemmas.Bool.{and_right}
use Rattle.basics.specs.Bit.{bit}
use Rattle.basics.specs.Put.{put}
use Rattle.basics.specs.Count.{tally}
use Rattle.basics.proofs.BitLaws.{bit_none}
use Rattle.basics.proofs.CountLaws.{tally_same}
use Rattle.model.specs.World.{message}
use Rattle.model.specs.World.{Message as Said}
use Rattle.messages.specs.Meaning.{means, share_kind, share_subject}
use Rattle.messages.specs.Rows.{subject_fits, row}
use Rattle.messages.specs.Stored.{in_rows, joined, nothing}
use Rattle.messages.specs.declared.message.Share.{Share}
use Rattle.messages.specs.declared.message.Message.{Message}
use Rattle.messages.specs.declared.message.Message.TheVariants.{Block, Signed, Notarization, Finalization}
use Rattle.messages.specs.declared.message.Share.TheVariants.{Beacon}
use Rattle.messages.specs.declared.message.Share.TheVariants.{Notarization as Notarizes, Finalization as Finalizes}

-- a share of the code is one that there can be
pub share_fits : (x : Share) → subject_fits (share_kind x) (share_subject x) ≡ true
share_fits (Notarizes b) = let h = b.low in grind (arith, nat_tests)
share_fits (Finalizes b) = let h = b.low in grind (arith, nat_tests)
share_fits (Beacon k) = let h = k.first in let g = k.last in grind (arith, nat_tests)

-- and so is a message
pub message_fits : (m : Message) → subject_fits (means m).kind (means m).subject ≡ true
message_fits (Block b) = let h = b.low in grind (arith, nat_tests)
message_fits (Signed x s) = share_fits x
message_fits (Notarization b) = let h = b.low in grind (arith, nat_tests)
message_fits (Finalization b) = let h = b.low in grind (arith, nat_tests)

-- two messages that there can be share a row only where kind and subject are the same
row_eq : (k x k' x' : ℕ) → subject_fits k x ≡ true → subject_fits k' x' ≡ true → eqb (row k x) (row k' x') ≡ (eqb k k' && eqb x x')
row_eq k x k' x' h h' = grind (arith, nat_tests)

-- one row written, with one bit more
at_row : (ms : List ℕ) (r s v r' s' : ℕ) → r < length ms → bit v ≡ put s true (bit (get_or ms r 0))
    → bit (get_or (set ms r v) r' 0) s' ≡ ((eqb r r' && eqb s s') || bit (get_or ms r' 0) s')
at_row ms r s v r' s' h more = let m : bit v s' ≡ put s true (bit (get_or ms r 0)) s' = ap (λ f. f s') more in grind (arith, nat_tests, get_or-set_at, get_or-set_other)

-- a message joins the set where its bit, s in row r, is set
pub row_joined : (ms : List ℕ) (m : Said) (r s v : ℕ) → 1574 ≤ length ms → r < 1574 → subject_fits m.kind m.subject ≡ true
    → r ≡ row m.kind m.subject → s ≡ m.signer → bit v ≡ put s true (bit (get_or ms r 0))
    → in_rows (set ms r v) ≡ joined m (in_rows ms)
unfolding in_rows
row_joined ms m r s v long low ok at by here =
    let each : (x : Said) → in_rows (set ms r v) x ≡ joined m (in_rows ms) x =
    (λ x.
    let a = at_row ms r s v (row x.kind x.subject) x.signer (omega arith) here in
    let b : subject_fits x.kind x.subject ≡ true → eqb r (row x.kind x.subject) ≡ (eqb m.kind x.kind && eqb m.subject x.subject) = (λ fits. ap (λ z. eqb z (row x.kind x.subject)) at ∙ row_eq m.kind m.subject x.kind x.subject ok fits) in
    grind (arith, nat_tests)) in
    λ i x. each x i

pub in_row : (ms : List ℕ) (k s b : ℕ) → subject_fits k b ≡ true → bit (get_or ms (row k b) 0) s ≡ in_rows ms (message k s b)
unfolding in_rows
in_row ms k s b ok = sym (ap (λ p. p && bit (get_or ms (row k b) 0) s) ok)

pub row_count : (ms : List ℕ) (k b n : ℕ) → subject_fits k b ≡ true → tally (bit (get_or ms (row k b) 0)) n ≡ tally (λ s. in_rows ms (message k s b)) n
row_count ms k b n ok = tally_same _ _ n (λ s small. in_row ms k s b ok)

pub none_in_rows : (ms : List ℕ) → ((r : ℕ) → get_or ms r 0 ≡ 0) → in_rows ms ≡ nothing
unfolding in_rows
none_in_rows ms h =
    let each : (m : Said) → in_rows ms m ≡ false = (λ m. and_right _ _ (ap (λ x. bit x m.signer) (h (row m.kind m.subject)) ∙ bit_none m.signer)) in
    λ i m. each m i

-- rows of nothing but zeros read 0, past their end too
pub zero_rows : (n r : ℕ) → get_or {A = ℕ} (replicate n 0) r 0 ≡ 0
zero_rows zero r = refl
zero_rows (suc n) zero = refl
zero_rows (suc n) (suc r) = zero_rows n r

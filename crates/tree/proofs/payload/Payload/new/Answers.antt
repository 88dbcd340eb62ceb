use Rattle.std.proofs.Common.{◌≡◌, ℕ, Bool, true, false, cond, ◌&&◌, ltb, leb, List, [], ◌∷◌, length, Some, None, refl, sym, ap, ◌∙◌, rules, tests}
use Rattle.std.specs.Bool.{then_some}
use Rattle.std.specs.List.{list_all}
use Rattle.std.proofs.lemmas.Iterator.{YieldsList-from_slice}
use Rattle.std.proofs.lemmas.Iterator.Search.{all_from_yields_List}
use Rattle.basics.specs.Elements.{elements_of}
use Rattle.model.specs.Checks.{all_below_128}
use Rattle.tree.specs.declared.payload.Payload.{Payload}
use Rattle.tree.specs.Payloads.{listed, payload_list}
use Rattle.tree.proofs.payload.Payload.new.Goals as goal

list_all-low : (xs : List ℕ) → list_all (λ x. ltb x 128) xs ≡ all_below_128 xs
list_all-low [] = refl
list_all-low (x ∷ xs) = ap (λ b. ltb x 128 && b) (list_all-low xs)

-- a payload of the places xs, which are few, is kept if they are low
kept : (few low : Bool) (xs : List ℕ) (p : Payload) → Some (listed p) ≡ cond few (Some xs) None → payload_list (then_some low p) ≡ cond (few && low) (Some xs) None
kept true true xs p e = e
kept true false xs p e = refl
kept false low xs p e = cc

pub returns : goal.returns
returns c =
    let xs = c.args.places.now in
    let taken = ap elements_of (sym c.in_ok-list.was) ∙ c.from_slice.ensures in
    let low : c.all-are_low.result ≡ list_all (λ x. ltb x 128) xs =
    all_from_yields_List (λ x. ltb x 128) _ _ _ c.all-are_low.ensures.ran (YieldsList-from_slice xs cc) (λ x b q k. search (rules, tests)) in
    ap payload_list c.then_some.ensures ∙ kept (leb (length xs) 4) c.all-are_low.result xs _ taken
    ∙ ap (λ b. cond (leb (length xs) 4 && b) (Some xs) None) (low ∙ list_all-low xs)

use Rattle.std.proofs.Common.{◌≡◌, ℕ, ◌-◌, ◌<◌, List, [], ◌∷◌, ◌++◌, length, drop, ap, ◌∙◌, arith, rules}
use Rattle.basics.specs.Elements.{elements}
use Rattle.model.specs.World.{chain_by}
use Rattle.tree.specs.Blocks.{parents}
use Rattle.seats.proofs.Chains.{chain_done, chain_block}
use Rattle.seats.proofs.seat.commit.+list_chain.Goals as goal

pub returns-then-from-len-clause-listed : goal.returns-then-from-len-clause-listed
returns-then-from-len-clause-listed t c =
    let par = parents c.args.tree.now in
    let list = elements c.args.list.now in
    let n = length list in
    let b = c.args.block.value in
    let more : n < c.args.to = omega (arith, c.if-from-len.true) in
    let pushed : elements c.push.new.self ≡ elements c.list_chain.new.list ++ (b ∷ []) = search rules in
    pushed
    ∙ ap (λ (l : List ℕ). l ++ (b ∷ [])) (c.list_chain.ensures.listed ∙ ap (λ (q : ℕ). list ++ drop n (chain_by par (c.args.to - 1) q)) c.parent.ensures)
    ∙ chain_block par n c.args.to b list more

pub returns-else-from-len-clause-listed : goal.returns-else-from-len-clause-listed
returns-else-from-len-clause-listed t c =
    chain_done (parents c.args.tree.now) c.args.to c.args.block.value (elements c.args.list.now) (omega arith)

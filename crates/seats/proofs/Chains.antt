-- The blocks of a chain that are past the end of a list: the parent's first, then the block.
use Rattle.std.proofs.Common.{◌≡◌, ℕ, zero, suc, ◌-◌, ◌<◌, ◌≤◌, List, [], ◌∷◌, ◌++◌, length, drop, sym, refl, ap, ◌∙◌, append_assoc, append-nil, arith, length-append}
use lib.Seq.{drop-append-le, drop-length}
use Rattle.model.specs.World.{chain_by}

chain_length : (par : ℕ → ℕ) (k b : ℕ) → length (chain_by par k b) ≡ k
chain_length par zero b = refl
chain_length par (suc k) b = omega (arith, length-append (chain_by par k (par b)) (b ∷ []), chain_length par k (par b))

-- nothing of the chain is past the end
pub chain_done : (par : ℕ → ℕ) (to b : ℕ) (list : List ℕ) → length list ≡ to → list ≡ list ++ drop (length list) (chain_by par to b)
chain_done par to b list full =
    let e : length list ≡ length (chain_by par to b) = full ∙ sym (chain_length par to b) in
    sym (ap (λ (k : ℕ). list ++ drop k (chain_by par to b)) e ∙ ap (λ (l : List ℕ). list ++ l) (drop-length (chain_by par to b)) ∙ append-nil list)

-- after the parent's chain comes the block
pub chain_block : (par : ℕ → ℕ) (n to b : ℕ) (list : List ℕ) → n < to
    → (list ++ drop n (chain_by par (to - 1) (par b))) ++ (b ∷ []) ≡ list ++ drop n (chain_by par to b)
chain_block par n to b list more =
    let e : suc (to - 1) ≡ to = omega arith in
    let short : n ≤ length (chain_by par (to - 1) (par b)) = omega (arith, chain_length par (to - 1) (par b)) in
    append_assoc list (drop n (chain_by par (to - 1) (par b))) (b ∷ [])
    ∙ ap (λ (l : List ℕ). list ++ l) (sym (drop-append-le n (chain_by par (to - 1) (par b)) (b ∷ []) short))
    ∙ ap (λ (k : ℕ). list ++ drop n (chain_by par k b)) e

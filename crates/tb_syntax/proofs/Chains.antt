-- Pieces one behind another at the front of a state.
use Rattle.std.proofs.Common.{◌≡◌, ◌≤◌, List, [], ◌∷◌, ◌++◌, length, refl, sym, ap, subst, inl, inr, arith}
use Rattle.tb_ast.specs.declared.piece.Piece.{Piece}
use Rattle.tb_syntax.specs.State.{State, Begins, Stands}

pub stands-then : (first second : List Piece) (state middle rest : State) → Stands first state middle → Stands second middle rest → Stands (first ++ second) state rest
stands-then [] second state middle rest a b = subst (λ s. Stands second s rest) (sym a) b
stands-then (piece ∷ first) second state middle rest a b = (a.0, a.1, stands-then first second a.0 middle rest a.2 b)

pub stands-split : (first second : List Piece) (state rest : State) → Stands (first ++ second) state rest
    → (middle : State) × Stands first state middle × Stands second middle rest
stands-split [] second state rest h = (state, refl, h)
stands-split (piece ∷ first) second state rest h =
    let others = stands-split first second h.0 rest h.2 in
    (others.0, (h.0, h.1, others.1), others.2)

pub stands-one : (piece : Piece) (state rest : State) → Stands (piece ∷ []) state rest → Begins piece state rest
stands-one piece state rest h = let last : h.0 ≡ rest = h.2 in subst (λ r. Begins piece state r) last h.1

pub one-stands : (piece : Piece) (state rest : State) → Begins piece state rest → Stands (piece ∷ []) state rest
one-stands piece state rest h = (rest, h, refl)

-- what follows is no longer
pub begins-shrinks : (piece : Piece) (state rest : State) → Begins piece state rest → length rest ≤ length state
begins-shrinks piece state rest (inl e) = let l : length state ≡ length (piece ∷ rest) = ap length e in omega arith
begins-shrinks piece state rest (inr part) =
    let l : length state ≡ length (part.left ∷ part.after) = ap length part.stands in
    let r : length rest ≡ length (part.left ∷ part.after) = ap length part.follows in
    omega arith

pub stands-shrinks : (pieces : List Piece) (state rest : State) → Stands pieces state rest → length rest ≤ length state
stands-shrinks [] state rest h = let e : length state ≡ length rest = ap length h in omega arith
stands-shrinks (piece ∷ pieces) state rest h =
    let first = begins-shrinks piece state h.0 h.1 in
    let others = stands-shrinks pieces h.0 rest h.2 in
    omega arith

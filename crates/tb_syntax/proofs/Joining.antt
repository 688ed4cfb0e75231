-- Pieces that stand at the front are joined before what follows, and joined pieces stand there.
use Rattle.std.proofs.Common.{◌≡◌, Bool, false, if◌then◌else◌, List, [], ◌∷◌, Option, Some, None, refl, sym, ap, subst, ◌∙◌, inl, inr}
use Rattle.std.specs.List.{AllByRecursion}
use Rattle.tb_lex.specs.declared.punctuation.Punctuation.{Punctuation}
use Rattle.tb_ast.specs.declared.piece.Piece.{Piece}
use Rattle.tb_ast.specs.Joined.{joint, put_joint, put_before, joined_before, with_kind, IsApart}
use Rattle.tb_syntax.specs.State.{State, IsState, Begins, Stands, Meets, AreTight}

apart-joint : (first second : Piece) (glued : Bool) → second.glued ≡ glued → glued ≡ false → joint first second ≡ None
apart-joint first second glued is apart = ap (λ b. if b then with_kind first.kind second.kind else None) (is ∙ apart)

put-apart : (first : Piece) (state : State) → AllByRecursion IsApart state → put_before first state ≡ first ∷ state
put-apart first [] apart = refl
put-apart first (second ∷ state) apart = ap (put_joint first second state) (apart-joint first second second.glued refl apart.0)

tail-state : (state : State) → AllByRecursion IsApart state → IsState state
tail-state [] apart = tt
tail-state (first ∷ state) apart = apart.1

begins-joined : (piece : Piece) (state after : State) → IsState state → Begins piece state after → (state ≡ put_before piece after) × IsState after
begins-joined piece state after is (inl e) =
    let apart : AllByRecursion IsApart after = subst IsState e is in
    (e ∙ sym (put-apart piece after apart), tail-state after apart)
begins-joined piece state after is (inr part) =
    let apart : AllByRecursion IsApart part.after = subst IsState part.stands is in
    (part.stands ∙ sym (ap (put_before piece) part.follows ∙ ap (put_joint piece part.left part.after) part.joint), subst IsState (sym part.follows) apart)

pub stands-joined : (pieces : List Piece) (state rest : State) → IsState state → Stands pieces state rest → (state ≡ joined_before pieces rest) × IsState rest
stands-joined [] state rest is h = (h, subst IsState h is)
stands-joined (piece ∷ pieces) state rest is h =
    let first = begins-joined piece state h.0 is h.1 in
    let others = stands-joined pieces h.0 rest first.1 h.2 in
    (first.0 ∙ ap (put_before piece) others.0, others.1)

put-begins : (piece : Piece) (state : State) → Meets piece state → Begins piece (put_before piece state) state
put-begins piece [] meets = inl refl
put-begins piece (second ∷ state) meets = by_joint (joint piece second) refl where
  by_joint : (o : Option Punctuation) → joint piece second ≡ o → Begins piece (put_joint piece second state o) (second ∷ state)
  by_joint None e = inl refl
  by_joint (Some whole) e =
      let m = meets whole e in
      inr (record { left = second; after = state; whole = whole; joint = e; short = m.0; tight = m.1; stands = refl; follows = refl })

pub joined-stands : (pieces : List Piece) (rest : State) → AreTight pieces rest → Stands pieces (joined_before pieces rest) rest
joined-stands [] rest tight = refl
joined-stands (piece ∷ pieces) rest tight =
    (joined_before pieces rest, put-begins piece (joined_before pieces rest) tight.0, joined-stands pieces rest tight.1)

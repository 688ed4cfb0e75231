-- Joining pieces from the last on.
use Rattle.std.proofs.Common.{◌≡◌, ◌∷◌, [], ◌++◌, List, Bool, false, if◌then◌else◌, None, refl, ap, sym, ◌∙◌, reverse, map}
use Rattle.std.proofs.lemmas.List.{reverse-append, append_assoc}
use Rattle.std.specs.List.{AllByRecursion}
use Rattle.tb_lex.specs.declared.token.Token.{Token}
use Rattle.tb_ast.specs.declared.piece.Piece.{Piece}
use Rattle.tb_ast.specs.Joined.{joint, put_joint, put_before, joined_before, joined, token_of, IsApart, with_kind}

-- the last piece is joined first
pub joined_last : (pieces : List Piece) (piece : Piece) (rest : List Piece) → joined_before (pieces ++ piece ∷ []) rest ≡ joined_before pieces (put_before piece rest)
joined_last [] piece rest = refl
joined_last (first ∷ pieces) piece rest = ap (put_before first) (joined_last pieces piece rest)

pub join_step : (before pieces : List Piece) (piece : Piece) (old new : List Piece) (whole : List Piece)
    → before ≡ pieces ++ piece ∷ [] → reverse new ≡ put_before piece (reverse old)
    → joined_before before (reverse old) ≡ whole → joined_before pieces (reverse new) ≡ whole
join_step before pieces piece old new whole last put all =
    ap (joined_before pieces) put ∙ sym (joined_last pieces piece (reverse old)) ∙ ap (λ ps. joined_before ps (reverse old)) (sym last) ∙ all

pub token_step : (before pieces : List Piece) (piece : Piece) (old new whole : List Token)
    → before ≡ pieces ++ piece ∷ [] → new ≡ old ++ token_of piece ∷ []
    → old ++ map token_of (reverse before) ≡ whole → new ++ map token_of (reverse pieces) ≡ whole
token_step before pieces piece old new whole last put all =
    ap (λ ts. ts ++ map token_of (reverse pieces)) put
    ∙ append_assoc old (token_of piece ∷ []) (map token_of (reverse pieces))
    ∙ ap (λ ps. old ++ map token_of ps) (sym (ap reverse last ∙ reverse-append pieces (piece ∷ [])))
    ∙ all

unglued : (first second : Piece) (glued : Bool) → second.glued ≡ glued → glued ≡ false → joint first second ≡ None
unglued first second glued is apart = ap (λ b. if b then with_kind first.kind second.kind else None) (is ∙ apart)

put_apart : (first : Piece) (rest : List Piece) → AllByRecursion IsApart rest → put_before first rest ≡ first ∷ rest
put_apart first [] apart = refl
put_apart first (second ∷ rest) apart = ap (put_joint first second rest) (unglued first second second.glued refl apart.0)

pub nothing_glued : (pieces : List Piece) → AllByRecursion IsApart pieces → joined pieces ≡ pieces
nothing_glued [] apart = refl
nothing_glued (piece ∷ pieces) apart = ap (put_before piece) (nothing_glued pieces apart.1) ∙ put_apart piece pieces apart.1

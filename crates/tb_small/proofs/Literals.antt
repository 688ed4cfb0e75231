-- Texts in quotes: what is read is spelled so, and what is spelled so is read.
use Rattle.std.proofs.Common.{◌≡◌, ℕ, ◌+◌, ◌-◌, ◌<◌, inl, inr, true, false, cond, eqb, leb, ◌&&◌, ◌||◌, not, List, [], ◌∷◌, ◌++◌, length, map, take, Option, Some, None, refl, sym, ap, subst, ◌∙◌, append_assoc, length-append, arith}
use Rattle.std.specs.Prelude.{codes}
use Rattle.std.specs.List.{flat_map, fold, AllByRecursion}
use Rattle.std.proofs.lemmas.Bool.{eqb-true}
use Rattle.std.proofs.lemmas.List.{take_at}
use Rattle.std.proofs.lemmas.List.Concat.{flat_map-cons}
use Rattle.tb_small.specs.declared.tree.Text.{Text}
use Rattle.tb_small.specs.Words.{after_space, Begins}
use Rattle.tb_small.specs.Grammar.{is_plain, Piece, Plain, Feed, Hole, IsPiece, spelled, holes, IsFormat, literal, spanned}
use Rattle.tb_small.specs.Words.{begins_with}
use Rattle.tb_small.specs.Reading.{eat, piece_at, holes_at, text_at}
use Rattle.tb_small.proofs.Options.{bind_some, kept, chosen, some_is, both, neither, not_is}
use Rattle.tb_small.proofs.Tokens.{eat-takes, eat-again, exactly}
use Rattle.tb_small.proofs.Many.{Chain, many-takes, many-again, chain-length}

abbrev pub add : ℕ → ℕ → ℕ
add taken more = taken + more

-- the text begins with a piece that takes so many arguments
abbrev pub PieceItem : ℕ → ℕ → List ℕ → List ℕ → Type 0
PieceItem taken count text after = (piece : Piece) × IsPiece piece × (text ≡ spelled piece ++ after) × (holes piece ≡ count)

piece-takes : (taken count : ℕ) (text after : List ℕ) → piece_at text ≡ Some (count, after) → PieceItem taken count text after
piece-takes taken count [] after e = absurd cc
piece-takes taken count (byte ∷ []) after e =
    let k = kept (is_plain byte) (Some (0, [])) (count, after) e in
    let at : ℕ × List ℕ → Type 0 = λ y. PieceItem taken y.0 (byte ∷ []) y.1 in
    subst at (some_is (0, []) (count, after) k.1) (Plain byte, k.0, refl, refl)
piece-takes taken count (byte ∷ next ∷ text) after e =
    let at : ℕ × List ℕ → Type 0 = λ y. PieceItem taken y.0 (byte ∷ next ∷ text) y.1 in
    let hole : Option (ℕ × List ℕ) = cond (eqb byte 123 && eqb next 125) (Some (1, text)) None in
    elim (chosen (is_plain byte) (Some (0, next ∷ text)) (cond (eqb byte 92 && eqb next 110) (Some (0, text)) hole) (count, after) e) [
      | inl k ↦ subst at (some_is (0, next ∷ text) (count, after) k.1) (Plain byte, k.0, refl, refl)
      | inr k ↦ elim (chosen (eqb byte 92 && eqb next 110) (Some (0, text)) hole (count, after) k.1) [
        | inl feed ↦
            let parts = both (eqb byte 92) (eqb next 110) feed.0 in
            subst at (some_is (0, text) (count, after) feed.1)
            (Feed, tt, ap (λ x. x ∷ next ∷ text) (eqb-true byte 92 parts.0) ∙ ap (λ x. 92 ∷ x ∷ text) (eqb-true next 110 parts.1), refl)
        | inr other ↦
            let k = kept (eqb byte 123 && eqb next 125) (Some (1, text)) (count, after) other.1 in
            let parts = both (eqb byte 123) (eqb next 125) k.0 in
            subst at (some_is (1, text) (count, after) k.1)
            (Hole, tt, ap (λ x. x ∷ next ∷ text) (eqb-true byte 123 parts.0) ∙ ap (λ x. 123 ∷ x ∷ text) (eqb-true next 125 parts.1), refl)
      ]
    ]

piece-read : (piece : Piece) (after : List ℕ) → IsPiece piece → piece_at (spelled piece ++ after) ≡ Some (holes piece, after)
piece-read (Plain byte) [] h = rw h refl
piece-read (Plain byte) (next ∷ text) h = rw h refl
piece-read Feed after h = refl
piece-read Hole after h = refl

piece-again : (taken count : ℕ) (text after : List ℕ) → PieceItem taken count text after → piece_at text ≡ Some (count, after)
piece-again taken count text after h =
    let at : ℕ → Option (ℕ × List ℕ) = λ n. Some (n, after) in
    ap piece_at h.2 ∙ piece-read h.0 after h.1 ∙ ap at h.3

plain-quote : (byte : ℕ) → is_plain byte ≡ true → eqb byte 34 ≡ false
plain-quote byte h =
    let a = both (leb 32 byte && leb byte 126) (not (((eqb byte 34 || eqb byte 92) || eqb byte 123) || eqb byte 125)) h in
    let b = neither ((eqb byte 34 || eqb byte 92) || eqb byte 123) (eqb byte 125) a.1 in
    let c = neither (eqb byte 34 || eqb byte 92) (eqb byte 123) b.0 in
    not_is (eqb byte 34) (neither (eqb byte 34) (eqb byte 92) c.0).0

spelled-goes : (piece : Piece) (after : List ℕ) → IsPiece piece → begins_with 34 (spelled piece ++ after) ≡ false
spelled-goes (Plain byte) after h = plain-quote byte h
spelled-goes Feed after h = refl
spelled-goes Hole after h = refl

piece-goes : (taken count : ℕ) (text after : List ℕ) → PieceItem taken count text after → begins_with 34 text ≡ false
piece-goes taken count text after h = ap (begins_with 34) h.2 ∙ spelled-goes h.0 after h.1

spelled-some : (piece : Piece) (after : List ℕ) → length after < length (spelled piece ++ after)
spelled-some (Plain byte) after = omega arith
spelled-some Feed after = omega arith
spelled-some Hole after = omega arith

piece-shorter : (taken count : ℕ) (text after : List ℕ) → PieceItem taken count text after → length after < length text
piece-shorter taken count text after h = rw h.2 (spelled-some h.0 after)

-- the pieces of a chain
record Pieces (taken : ℕ) (counts : List ℕ) (text rest : List ℕ) : Type 0 where
  pieces : List Piece
  valid : AllByRecursion IsPiece pieces
  spelling : text ≡ flat_map spelled pieces ++ rest
  total : fold add taken counts ≡ fold (λ n piece. n + holes piece) taken pieces

pieces-of : (taken : ℕ) (counts text rest : List ℕ) → Chain add PieceItem taken counts text rest → Pieces taken counts text rest
pieces-of taken [] text rest chain = record { pieces = []; valid = tt; spelling = chain; total = refl }
pieces-of taken (count ∷ counts) text rest chain =
    let piece = chain.1.0 in
    let others = pieces-of (taken + count) counts chain.0 rest chain.2 in
    let parts : text ≡ spelled piece ++ (flat_map spelled others.pieces ++ rest) = chain.1.2 ∙ ap (λ (t : List ℕ). spelled piece ++ t) others.spelling in
    record {
      pieces = piece ∷ others.pieces;
      valid = (chain.1.1, others.valid);
      spelling = parts ∙ sym (append_assoc (spelled piece) (flat_map spelled others.pieces) rest) ∙ ap (λ (t : List ℕ). t ++ rest) (sym (flat_map-cons spelled piece others.pieces));
      total = others.total ∙ ap (λ n. fold (λ n piece. n + holes piece) (taken + n) others.pieces) (sym chain.1.3);
    }

pieces-chain : (taken : ℕ) (pieces : List Piece) (rest : List ℕ) → AllByRecursion IsPiece pieces → Chain add PieceItem taken (map holes pieces) (flat_map spelled pieces ++ rest) rest
pieces-chain taken [] rest valid = refl
pieces-chain taken (piece ∷ pieces) rest valid = (
  flat_map spelled pieces ++ rest,
  (piece, valid.0, ap (λ (t : List ℕ). t ++ rest) (flat_map-cons spelled piece pieces) ∙ append_assoc (spelled piece) (flat_map spelled pieces) rest, refl),
  pieces-chain (taken + holes piece) pieces rest valid.1,
)

fold-holes : (taken : ℕ) (pieces : List Piece) → fold add taken (map holes pieces) ≡ fold (λ n piece. n + holes piece) taken pieces
fold-holes taken [] = refl
fold-holes taken (piece ∷ pieces) = fold-holes (taken + holes piece) pieces

-- what begins with a quote is a quote and a rest
quote-first : (text rest : List ℕ) → begins_with 34 text ≡ true → eat (codes "\"") text ≡ Some rest → text ≡ 34 ∷ rest
quote-first [] rest first e = absurd cc
quote-first (byte ∷ text) rest first e =
    let same : byte ≡ 34 = eqb-true byte 34 first in
    let at : after_space (byte ∷ text) ≡ byte ∷ text = ap (λ b. after_space (b ∷ text)) same ∙ ap (λ b. b ∷ text) (sym same) in
    sym at ∙ (eat-takes (codes "\"") (byte ∷ text) rest e).0

-- the front that a rest leaves
cut : (front rest text : List ℕ) → text ≡ front ++ rest → take (length text - length rest) text ≡ front
cut front rest text parts =
    let long : length text ≡ length front + length rest = ap length parts ∙ length-append front rest in
    ap (take (length text - length rest)) parts ∙ take_at front rest (length text - length rest) (omega arith)

-- what is read as a text is one
pub text-takes : (size : ℕ) (text : List ℕ) (found : Text) (count : ℕ) (rest : List ℕ) → text_at size text ≡ Some (found, count, rest)
    → Begins size text (spanned found.span (literal found.source)) rest × IsFormat found.source count
unfolding text_at holes_at
text-takes size text found count rest e =
    let a = bind_some (eat (codes "\"") text) _ (found, count, rest) e in
    let b = bind_some (holes_at a.0) _ (found, count, rest) a.2 in
    let c = bind_some (eat (codes "\"") b.0.1) _ (found, count, rest) b.2 in
    let run = many-takes (begins_with 34) (λ _. piece_at) add PieceItem piece-takes (length a.0) 0 a.0 b.0.0 b.0.1 b.1 in
    let p = pieces-of 0 run.items a.0 b.0.1 run.chain in
    let source : List ℕ = take (length a.0 - length b.0.1) a.0 in
    let spelling : source ≡ flat_map spelled p.pieces = cut (flat_map spelled p.pieces) b.0.1 a.0 p.spelling in
    let quote : b.0.1 ≡ 34 ∷ c.0 = quote-first b.0.1 c.0 run.stop c.1 in
    let inner : a.0 ≡ source ++ 34 ∷ c.0 = p.spelling ∙ ap (λ (t : List ℕ). t ++ b.0.1) (sym spelling) ∙ ap (λ (t : List ℕ). source ++ t) quote in
    let parts : after_space text ≡ (34 ∷ (source ++ 34 ∷ [])) ++ c.0 =
    (eat-takes (codes "\"") text a.0 a.1).0 ∙ ap (λ (t : List ℕ). 34 ∷ t) (inner ∙ sym (append_assoc source (34 ∷ []) c.0)) in
    let at : Text × ℕ × List ℕ → Type 0 = λ y. Begins size text (spanned y.0.span (literal y.0.source)) y.2 × IsFormat y.0.source y.1 in
    subst at (some_is _ (found, count, rest) c.2) (
      record { word = 34 ∷ (source ++ 34 ∷ []); spelled = refl; bytes = parts; apart = refl; lo = refl; hi = refl },
      record { pieces = p.pieces; valid = p.valid; spelling = spelling; count = sym p.total ∙ sym run.leads },
    )

-- a text that stands next is read
pub text-again : (size : ℕ) (text : List ℕ) (found : Text) (count : ℕ) (rest : List ℕ) → Begins size text (spanned found.span (literal found.source)) rest → IsFormat found.source count
    → text_at size text ≡ Some (found, count, rest)
unfolding text_at holes_at
text-again size text found count rest h format =
    let inner : List ℕ = found.source ++ 34 ∷ rest in
    let stands = exactly size text (34 ∷ (found.source ++ 34 ∷ [])) (Some found.span.lo) (Some found.span.hi) rest h in
    let first : eat (codes "\"") text ≡ Some inner = eat-again (codes "\"") text inner (stands.0 ∙ ap (λ (t : List ℕ). 34 ∷ t) (append_assoc found.source (34 ∷ []) rest)) refl in
    let counts : List ℕ = map holes format.pieces in
    let at : List ℕ → Type 0 = λ source. Chain add PieceItem 0 counts (source ++ 34 ∷ rest) (34 ∷ rest) in
    let chain : Chain add PieceItem 0 counts inner (34 ∷ rest) = subst at (sym format.spelling) (pieces-chain 0 format.pieces (34 ∷ rest) format.valid) in
    let total : fold add 0 counts ≡ count = fold-holes 0 format.pieces ∙ format.count in
    let found_at : ℕ → Option (ℕ × List ℕ) = λ n. Some (n, 34 ∷ rest) in
    let taken : holes_at inner ≡ Some (count, 34 ∷ rest) =
    many-again (begins_with 34) (λ _. piece_at) add PieceItem piece-again piece-goes (length inner) 0 counts inner (34 ∷ rest)
    (chain-length (begins_with 34) (λ _. piece_at) add PieceItem piece-shorter 0 counts inner (34 ∷ rest) chain) chain refl
    ∙ ap found_at total in
    let last : eat (codes "\"") (34 ∷ rest) ≡ Some rest = eat-again (codes "\"") (34 ∷ rest) rest refl refl in
    let source : take (length inner - length (34 ∷ rest)) inner ≡ found.source = cut found.source (34 ∷ rest) inner refl in
    let lo : size - length (after_space text) ≡ found.span.lo = sym h.lo in
    let hi : size - length rest ≡ found.span.hi = sym h.hi in
    rw (first, taken, last) (rw (source, lo, hi) refl)

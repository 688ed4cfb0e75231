-- Comments end where reading finds their end, and nowhere else.
use Rattle.std.proofs.Common.{◌≡◌, inl, inr, ℕ, zero, suc, ◌+◌, false, ◌==◌, cond, List, [], ◌∷◌, ◌++◌, Some, refl, ap, sym, subst, ◌∙◌, append_assoc, eqb-true, add-one}
use Rattle.tb_lex.specs.Characters.{begins_pair}
use Rattle.tb_lex.specs.Comments.{ended, after_block}
use Rattle.tb_lex.specs.Tokens.{IsBlock}
use Rattle.tb_lex.specs.Tokens.IsBlock.{Ends, Nested, Other}
use Rattle.tb_lex.proofs.Cases.{both, chosen, some_is}

-- the rest behind a block shows nothing new to its characters
pair-rest : (first second c : ℕ) (block rest : List ℕ) → IsBlock block → begins_pair first second (c ∷ (block ++ rest)) ≡ begins_pair first second (c ∷ block)
pair-rest first second c [] rest is = elim is [ ]
pair-rest first second c (d ∷ block) rest is = refl

goes_through : (depth c : ℕ) (text : List ℕ) → begins_pair 47 42 (c ∷ text) ≡ false → begins_pair 42 47 (c ∷ text) ≡ false → after_block depth (c ∷ text) ≡ after_block depth text
goes_through depth c [] f e = refl
goes_through depth c (d ∷ text) f e = rw (f, e) refl

-- a block is passed whole
pub block-again : (block : List ℕ) → IsBlock block → (depth : ℕ) (rest : List ℕ) → after_block depth (block ++ rest) ≡ ended depth rest (λ outer. after_block outer rest)
block-again _ Ends depth rest = refl
block-again _ (Nested inner others is more) depth rest =
    let regroup : (inner ++ others) ++ rest ≡ inner ++ (others ++ rest) = append_assoc inner others rest in
    ap (after_block (depth + 1)) regroup ∙ block-again inner is (depth + 1) (others ++ rest)
    ∙ ap (λ (n : ℕ). ended n (others ++ rest) (λ outer. after_block outer (others ++ rest))) (add-one depth)
    ∙ block-again others more depth rest
block-again _ (Other c block f e more) depth rest =
    goes_through depth c (block ++ rest) (pair-rest 47 42 c block rest more ∙ f) (pair-rest 42 47 c block rest more ∙ e)
    ∙ block-again block more depth rest

-- as many blocks as comments are open, and one more
abbrev Blocks : ℕ → List ℕ → Type 0
Blocks zero piece = IsBlock piece
Blocks (suc depth) piece = (block : List ℕ) × (others : List ℕ) × (piece ≡ block ++ others) × IsBlock block × Blocks depth others

-- what reading passed
abbrev Passed : ℕ → List ℕ → List ℕ → Type 0
Passed depth text rest = (piece : List ℕ) × (text ≡ piece ++ rest) × Blocks depth piece

-- a block around the first of some
around : (depth : ℕ) (block others : List ℕ) → IsBlock block → Blocks depth others → Blocks depth (47 ∷ 42 ∷ (block ++ others))
around zero block others is more = Nested block others is more
around (suc depth) block others is more =
    let regroup : 47 ∷ 42 ∷ (block ++ others) ≡ (47 ∷ 42 ∷ (block ++ more.0)) ++ more.1 =
    ap (λ (t : List ℕ). 47 ∷ 42 ∷ t) (ap (λ (t : List ℕ). block ++ t) more.2 ∙ sym (append_assoc block more.0 more.1)) in
    (47 ∷ 42 ∷ (block ++ more.0), more.1, regroup, Nested block more.0 is more.3, more.4)

-- blocks are not empty
blocks-some : (depth : ℕ) (piece : List ℕ) → Blocks depth piece → (c : ℕ) × (others : List ℕ) × (piece ≡ c ∷ others)
blocks-some zero [] is = elim is [ ]
blocks-some zero (c ∷ piece) is = (c, piece, refl)
blocks-some (suc depth) piece ([], others, e, is, more) = elim is [ ]
blocks-some (suc depth) piece (c ∷ block, others, e, is, more) = (c, block ++ others, e)

-- one more character before the first of some
before : (depth c : ℕ) (piece : List ℕ) → begins_pair 47 42 (c ∷ piece) ≡ false → begins_pair 42 47 (c ∷ piece) ≡ false → Blocks depth piece → Blocks depth (c ∷ piece)
before zero c piece f e is = Other c piece f e is
before (suc depth) c piece f e (block, others, parts, is, more) =
    let see : (first second : ℕ) → begins_pair first second (c ∷ piece) ≡ begins_pair first second (c ∷ block) =
    λ first second. ap (λ (t : List ℕ). begins_pair first second (c ∷ t)) parts ∙ pair-rest first second c block others is in
    (c ∷ block, others, ap (λ (t : List ℕ). c ∷ t) parts, Other c block (sym (see 47 42) ∙ f) (sym (see 42 47) ∙ e) is, more)

seen : (first second c : ℕ) (piece rest : List ℕ) (x : ℕ) (others : List ℕ) → piece ≡ x ∷ others → begins_pair first second (c ∷ (piece ++ rest)) ≡ begins_pair first second (c ∷ piece)
seen first second c [] rest x others e = absurd cc
seen first second c (y ∷ piece) rest x others e = refl

-- what is passed is as many blocks
pub block-takes : (depth : ℕ) (text rest : List ℕ) → after_block depth text ≡ Some rest → Passed depth text rest
block-takes depth [] rest e = absurd cc
block-takes depth (c ∷ []) rest e = absurd cc
block-takes depth (c ∷ d ∷ text) rest e =
    elim (chosen (begins_pair 47 42 (c ∷ d ∷ text)) (after_block (depth + 1) text)
    (cond (begins_pair 42 47 (c ∷ d ∷ text)) (ended depth text (λ outer. after_block outer text)) (after_block depth (d ∷ text))) (Some rest) e) [
      | inl k ↦
          let pair = both (c == 47) (d == 42) k.0 in
          let first : c ≡ 47 = eqb-true c 47 pair.0 in
          let second : d ≡ 42 = eqb-true d 42 pair.1 in
          let inner : Passed (suc depth) text rest = subst (λ (n : ℕ). Passed n text rest) (add-one depth) (block-takes (depth + 1) text rest k.1) in
          let blocks = inner.2 in
          let at : List ℕ → Type 0 = λ t. Passed depth t rest in
          let whole : text ≡ (blocks.0 ++ blocks.1) ++ rest = inner.1 ∙ ap (λ (t : List ℕ). t ++ rest) blocks.2 in
          subst at (ap (λ (x : ℕ). x ∷ 42 ∷ text) (sym first) ∙ ap (λ (x : ℕ). c ∷ x ∷ text) (sym second))
          (47 ∷ 42 ∷ (blocks.0 ++ blocks.1), ap (λ (t : List ℕ). 47 ∷ 42 ∷ t) whole, around depth blocks.0 blocks.1 blocks.3 blocks.4)
      | inr k ↦ elim (chosen (begins_pair 42 47 (c ∷ d ∷ text)) (ended depth text (λ outer. after_block outer text)) (after_block depth (d ∷ text)) (Some rest) k.1) [
        | inl j ↦
            let pair = both (c == 42) (d == 47) j.0 in
            let first : c ≡ 42 = eqb-true c 42 pair.0 in
            let second : d ≡ 47 = eqb-true d 47 pair.1 in
            let at : List ℕ → Type 0 = λ t. Passed depth t rest in
            let whole : Passed depth (42 ∷ 47 ∷ text) rest =
            (elim depth as (λ n. ended n text (λ outer. after_block outer text) ≡ Some rest → Passed n (42 ∷ 47 ∷ text) rest) [
              | zero ↦ λ h. (42 ∷ 47 ∷ [], ap (λ (t : List ℕ). 42 ∷ 47 ∷ t) (some_is text rest h), Ends)
              | suc n ↦ λ h.
                  let inner = block-takes n text rest h in
                  (42 ∷ 47 ∷ inner.0, ap (λ (t : List ℕ). 42 ∷ 47 ∷ t) inner.1, (42 ∷ 47 ∷ [], inner.0, refl, Ends, inner.2))
            ]) j.1 in
            subst at (ap (λ (x : ℕ). x ∷ 47 ∷ text) (sym first) ∙ ap (λ (x : ℕ). c ∷ x ∷ text) (sym second)) whole
        | inr j ↦
            let inner = block-takes depth (d ∷ text) rest j.1 in
            let some = blocks-some depth inner.0 inner.2 in
            let see : (first second : ℕ) → begins_pair first second (c ∷ inner.0) ≡ begins_pair first second (c ∷ d ∷ text) =
            λ first second. sym (seen first second c inner.0 rest some.0 some.1 some.2) ∙ ap (λ (t : List ℕ). begins_pair first second (c ∷ t)) (sym inner.1) in
            (c ∷ inner.0, ap (λ (t : List ℕ). c ∷ t) inner.1, before depth c inner.0 (see 47 42 ∙ k.0) (see 42 47 ∙ j.0) inner.2)
      ]
    ]

-- Whole sources: what is read has the tree, and what has a tree is read as it.
use Rattle.std.proofs.Common.{◌≡◌, ℕ, ◌-◌, true, eqb, List, [], ◌∷◌, length, Option, Some, None, Result, Ok, Err, refl, sym, ap, subst, ◌∙◌, eq-eqb}
use Rattle.std.specs.Prelude.{codes, IfOk, IsErrOf}
use Rattle.std.proofs.lemmas.Bool.{eqb-true}
use Rattle.std.proofs.lemmas.List.{nil_from_length}
use Rattle.tb_small.specs.declared.error.SmallError.{SmallError}
use Rattle.tb_small.specs.declared.error.SmallError.TheVariants as errors
use Rattle.tb_small.specs.declared.tree.SmallTree.{SmallTree}
use Rattle.tb_small.specs.Words.{after_space, begins_with, Token}
use Rattle.tb_small.specs.Grammar.{closing, statements_tokens, IsSmall}
use Rattle.tb_small.specs.Reading.{Gives, eat, statements_at, small_at}
use Rattle.tb_small.proofs.Options.{bind_some, kept, some_is}
use Rattle.tb_small.proofs.Tokens.{token-again, token-takes, token-byte, opening-takes, closing-takes, reads-then, reads-split}
use Rattle.tb_small.proofs.Bodies.{statements-take, statements-again}

pub small-takes : (text : List ℕ) (tree : SmallTree) → small_at text ≡ Some tree → IsSmall text tree
unfolding small_at
small-takes text tree e =
    let size = length text in
    let name = bind_some (eat (codes "fn") text) _ tree e in
    let paren = bind_some (eat (codes "main") name.0) _ tree name.2 in
    let close = bind_some (eat (codes "(") paren.0) _ tree paren.2 in
    let block = bind_some (eat (codes ")") close.0) _ tree close.2 in
    let inner = bind_some (eat (codes "{") block.0) _ tree block.2 in
    let body = bind_some (statements_at size inner.0) _ tree inner.2 in
    let brace = bind_some (eat (codes "}") body.0.1) _ tree body.2 in
    let ended = kept (eqb (length (after_space brace.0)) 0) _ tree brace.2 in
    let found = statements-take size inner.0 body.0.0 body.0.1 body.1 in
    let last : Token = closing (codes "}") (size - length brace.0) in
    let at : SmallTree → Type 0 = λ t. IsSmall text t in
    subst at (some_is _ tree ended.1)
    (record {
      rest = brace.0;
      tokens = (
        name.0,
        opening-takes size (codes "fn") text name.0 name.1,
        (
          paren.0,
          token-takes size (codes "main") name.0 paren.0 paren.1,
          (
            close.0,
            token-takes size (codes "(") paren.0 close.0 close.1,
            (
              block.0,
              token-takes size (codes ")") close.0 block.0 block.1,
              (
                inner.0,
                opening-takes size (codes "{") block.0 inner.0 inner.1,
                reads-then size (statements_tokens [] body.0.0) (last ∷ []) inner.0 body.0.1 brace.0 found.0
                    (brace.0, closing-takes size (codes "}") body.0.1 brace.0 brace.1, refl),
              ),
            ),
          ),
        ),
      );
      ends = nil_from_length (after_space brace.0) (eqb-true (length (after_space brace.0)) 0 ended.0);
      closed = refl;
      statements = found.1;
      limits = record { small_sums = found.2; few_locals = found.3 };
    })

pub small-again : (text : List ℕ) (tree : SmallTree) → IsSmall text tree → small_at text ≡ Some tree
unfolding small_at
small-again text tree h =
    let size = length text in
    let t = h.tokens in
    let last : Token = closing (codes "}") tree.body.span.hi in
    let name = token-again size text (codes "fn") (Some tree.function.lo) None t.0 t.1 in
    let paren = token-again size t.0 (codes "main") None None t.2.0 t.2.1 in
    let close = token-again size t.2.0 (codes "(") None None t.2.2.0 t.2.2.1 in
    let block = token-again size t.2.2.0 (codes ")") None None t.2.2.2.0 t.2.2.2.1 in
    let b = t.2.2.2.2 in
    let inner = token-again size t.2.2.2.0 (codes "{") (Some tree.body.span.lo) None b.0 b.1 in
    let parts = reads-split size (statements_tokens [] tree.body.statements) (last ∷ []) b.0 h.rest b.2 in
    let end = parts.2 in
    let stop = ap (begins_with 125) (token-byte size parts.0 125 None (Some tree.body.span.hi) end.0 end.1) in
    let body = statements-again size b.0 tree.body.statements parts.0 parts.1 h.statements h.limits.small_sums h.limits.few_locals stop in
    let brace = token-again size parts.0 (codes "}") None (Some tree.body.span.hi) end.0 end.1 in
    let is_end : end.0 ≡ h.rest = end.2 in
    let ended : eqb (length (after_space end.0)) 0 ≡ true = eq-eqb (length (after_space end.0)) 0 (ap (λ (r : List ℕ). length (after_space r)) is_end ∙ ap length h.ends) in
    let lo : size - length (after_space text) ≡ tree.function.lo = sym t.1.lo in
    let hi : size - length end.0 ≡ tree.function.hi = sym end.1.hi ∙ sym h.closed in
    let block_lo : size - length (after_space t.2.2.2.0) ≡ tree.body.span.lo = sym b.1.lo in
    let at : ℕ → Option SmallTree = λ end. Some (record { function = tree.function; body = record { span = record { lo = tree.body.span.lo; hi = end }; statements = tree.body.statements } }) in
    rw (name, paren, close, block, inner, body, brace, ended) (rw (lo, hi, block_lo) (ap at h.closed))

-- what `small` promises of the tree that it gives
pub is_tree : (text : List ℕ) (r : Result SmallTree SmallError) → Gives (λ tree. tree) r (small_at text) → IfOk r (λ tree. IsSmall text tree)
is_tree text (Ok tree) h = small-takes text tree h
is_tree text (Err e) h = tt

pub is_only : (text : List ℕ) (r : Result SmallTree SmallError) → Gives (λ tree. tree) r (small_at text) → IfOk r (λ tree. (other : SmallTree) → IsSmall text other → other ≡ tree)
is_only text (Ok tree) h = λ other is. some_is other tree (sym (small-again text other is) ∙ h)
is_only text (Err e) h = tt

-- and where it is not built
pub has_none : (text : List ℕ) (r : Result SmallTree SmallError) → Gives (λ tree. tree) r (small_at text) → IsErrOf r errors.NotBuilt → (tree : SmallTree) → IsSmall text tree → ⊥
has_none text (Ok found) h fault tree is = absurd cc
has_none text (Err errors.NotBuilt) h fault tree is = let e = sym (small-again text tree is) ∙ h in absurd cc
has_none text (Err errors.Memory) h fault tree is = absurd cc

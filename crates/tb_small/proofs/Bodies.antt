-- Statements behind each other: what is read is the tokens of its tree, and the tokens of a tree are read as it.
use Rattle.std.proofs.Common.{◌≡◌, ℕ, ◌<◌, ◌≤◌, true, false, cond, leb, List, [], ◌∷◌, ◌++◌, length, Option, Some, None, refl, sym, ap, subst, ◌∙◌, append_assoc, arith}
use Rattle.std.specs.List.{flat_map, AllByRecursion}
use Rattle.std.proofs.lemmas.Bool.{le-leb, leb-true}
use Rattle.std.proofs.lemmas.List.{append-nil}
use Rattle.std.proofs.lemmas.List.Sums.{sum_by-append}
use Rattle.tb_small.specs.Scope.{Binding}
use Rattle.tb_small.specs.declared.tree.Statement.{Statement}
use Rattle.tb_small.specs.declared.tree.Statement.TheVariants as statement
use Rattle.tb_small.specs.Words.{Reads}
use Rattle.tb_small.specs.Grammar.{bindings, IsSumWithin, statement_tokens, IsStatement, statements_tokens, AreStatements, sums, statement_locals, locals}
use Rattle.tb_small.specs.Reading.{with_last, statement_at, next_statement_at, closes, statements_at}
use Rattle.tb_small.proofs.Options.{bind_some, kept, some_is}
use Rattle.tb_small.proofs.Tokens.{reads-then, reads-split}
use Rattle.tb_small.proofs.Many.{Chain, many-takes, many-again, chain-length, fold-with_last}
use Rattle.tb_small.proofs.Scopes.{AreNamed, named-append}
use Rattle.tb_small.proofs.Forms.{statement-takes, statement-again, statement-goes, statement-shorter}
use Rattle.tb_small.proofs.Nexts.{scope-push}

module _ (size : ℕ) where
  -- the text begins with a statement, and the locals are few with it
  abbrev pub StatementItem : List Statement → Statement → List ℕ → List ℕ → Type 0
  StatementItem before found text after =
      Reads size text (statement_tokens (flat_map bindings before) found) after × IsStatement (flat_map bindings before) found
      × AllByRecursion IsSumWithin (sums found) × (locals (before ++ found ∷ []) ≤ 4096)

  -- and the names before are names
  abbrev pub NamedItem : List Statement → Statement → List ℕ → List ℕ → Type 0
  NamedItem before found text after = StatementItem before found text after × AreNamed (flat_map bindings before)

  next-takes : (before : List Statement) (found : Statement) (text after : List ℕ) → next_statement_at size before text ≡ Some (found, after) → StatementItem before found text after
  unfolding next_statement_at
  next-takes before found text after e =
      let next = bind_some (statement_at (flat_map bindings before) size text) (λ next. cond (leb (locals (before ++ next.0 ∷ [])) 4096) (Some next) None) (found, after) e in
      let few = kept (leb (locals (before ++ next.0.0 ∷ [])) 4096) (Some next.0) (found, after) next.2 in
      let h = statement-takes (flat_map bindings before) size text next.0.0 next.0.1 next.1 in
      let at : Statement × List ℕ → Type 0 = λ y. StatementItem before y.0 text y.1 in
      subst at (some_is next.0 (found, after) few.1) (h.0, h.1, h.2, leb-true (locals (before ++ next.0.0 ∷ [])) 4096 few.0)

  next-again : (before : List Statement) (found : Statement) (text after : List ℕ) → NamedItem before found text after → next_statement_at size before text ≡ Some (found, after)
  unfolding next_statement_at
  next-again before found text after h =
      let item = h.0 in
      let read = statement-again (flat_map bindings before) size h.1 text found after item.1 item.2 item.0 in
      let few : leb (locals (before ++ found ∷ [])) 4096 ≡ true = le-leb (locals (before ++ found ∷ [])) 4096 item.3 in
      rw read (rw few refl)

  next-goes : (before : List Statement) (found : Statement) (text after : List ℕ) → NamedItem before found text after → closes text ≡ false
  next-goes before found text after h = statement-goes (flat_map bindings before) size h.1 text found after h.0.1 h.0.0

  next-shorter : (before : List Statement) (found : Statement) (text after : List ℕ) → NamedItem before found text after → length after < length text
  next-shorter before found text after h = statement-shorter (flat_map bindings before) size text found after h.0.0

  -- what a chain of statements is
  record Body (before more : List Statement) (text rest : List ℕ) : Type 0 where
    tokens : Reads size text (statements_tokens (flat_map bindings before) more) rest
    meant : AreStatements (flat_map bindings before) more
    within : AllByRecursion (λ found. AllByRecursion IsSumWithin (sums found)) more
    few : locals (before ++ more) ≤ 4096

  chain-body : (before more : List Statement) (text rest : List ℕ) → locals before ≤ 4096 → Chain with_last StatementItem before more text rest → Body before more text rest
  chain-body before [] text rest few chain =
      record { tokens = chain; meant = tt; within = tt; few = subst (λ l. locals l ≤ 4096) (sym (append-nil before)) few }
  chain-body before (found ∷ more) text rest few chain =
      let item = chain.1 in
      let others = chain-body (before ++ found ∷ []) more chain.0 rest item.3 chain.2 in
      let push = scope-push before found in
      let tokens = subst (λ s. Reads size chain.0 (statements_tokens s more) rest) push others.tokens in
      record {
        tokens = reads-then size (statement_tokens (flat_map bindings before) found) (statements_tokens (flat_map bindings before ++ bindings found) more) text chain.0 rest item.0 tokens;
        meant = (item.1, subst (λ s. AreStatements s more) push others.meant);
        within = (item.2, others.within);
        few = subst (λ l. locals l ≤ 4096) (append_assoc before (found ∷ []) more) others.few;
      }

  -- the names that a statement brings are names
  bindings-named : (scope : List Binding) (found : Statement) → IsStatement scope found → AreNamed (bindings found)
  bindings-named scope (statement.Let binding) meant = (meant.0, tt)
  bindings-named scope (statement.Assign assign) meant = tt
  bindings-named scope (statement.Print print) meant = tt
  bindings-named scope (statement.Unsafe block) meant = tt

  -- fewer statements have fewer locals
  locals-front : (before more : List Statement) → locals before ≤ locals (before ++ more)
  locals-front before more = let h = sum_by-append statement_locals before more in omega arith

  body-chain : (before more : List Statement) (text rest : List ℕ) → AreNamed (flat_map bindings before) → Body before more text rest → Chain with_last NamedItem before more text rest
  body-chain before [] text rest named body = body.tokens
  body-chain before (found ∷ more) text rest named body =
      let parts = reads-split size (statement_tokens (flat_map bindings before) found) (statements_tokens (flat_map bindings before ++ bindings found) more) text rest body.tokens in
      let push = scope-push before found in
      let next : List Statement = before ++ found ∷ [] in
      let all : locals (next ++ more) ≤ 4096 = subst (λ l. locals l ≤ 4096) (sym (append_assoc before (found ∷ []) more)) body.few in
      let here = locals-front next more in
      let named_next : AreNamed (flat_map bindings next) = subst (λ s. AreNamed s) (sym push) (named-append (flat_map bindings before) (bindings found) named (bindings-named (flat_map bindings before) found body.meant.0)) in
      let others = body-chain next more parts.0 rest named_next (record {
        tokens = subst (λ s. Reads size parts.0 (statements_tokens s more) rest) (sym push) parts.2;
        meant = subst (λ s. AreStatements s more) (sym push) body.meant.1;
        within = body.within.1;
        few = all;
      }) in
      (parts.0, ((parts.1, body.meant.0, body.within.0, omega arith), named), others)

  -- what is read as statements, up to a brace that closes
  pub statements-take : (text : List ℕ) (found : List Statement) (rest : List ℕ) → statements_at size text ≡ Some (found, rest)
      → Reads size text (statements_tokens [] found) rest × AreStatements [] found × AllByRecursion (λ found. AllByRecursion IsSumWithin (sums found)) found × (locals found ≤ 4096)
  unfolding statements_at
  statements-take text found rest e =
      let run = many-takes closes (next_statement_at size) with_last StatementItem next-takes (length text) [] text found rest e in
      let body = chain-body [] run.items text rest (omega arith) run.chain in
      let at : List Statement → Type 0 = λ l. Reads size text (statements_tokens [] l) rest × AreStatements [] l × AllByRecursion (λ found. AllByRecursion IsSumWithin (sums found)) l × (locals l ≤ 4096) in
      subst at (sym (run.leads ∙ fold-with_last [] run.items)) (body.tokens, body.meant, body.within, body.few)

  pub statements-again : (text : List ℕ) (found : List Statement) (rest : List ℕ) → Reads size text (statements_tokens [] found) rest → AreStatements [] found
      → AllByRecursion (λ found. AllByRecursion IsSumWithin (sums found)) found → locals found ≤ 4096 → closes rest ≡ true → statements_at size text ≡ Some (found, rest)
  unfolding statements_at
  statements-again text found rest h meant within few stop =
      let chain = body-chain [] found text rest tt (record { tokens = h; meant = meant; within = within; few = few }) in
      let at : List Statement → Option (List Statement × List ℕ) = λ l. Some (l, rest) in
      many-again closes (next_statement_at size) with_last NamedItem next-again next-goes (length text) [] found text rest
      (chain-length closes (next_statement_at size) with_last NamedItem next-shorter [] found text rest chain) chain stop
      ∙ ap at (fold-with_last [] found)

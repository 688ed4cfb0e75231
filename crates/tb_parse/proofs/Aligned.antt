-- Whole items and statements end on whole tokens: what stands behind them is what is left of the source after some of its pieces.
use Rattle.std.proofs.Common.{◌≡◌, ◌⊎◌, cond, ℕ, zero, suc, ◌+◌, ◌-◌, ◌<◌, ◌≤◌, Bool, true, false, List, [], ◌∷◌, ◌++◌, map, length, drop, Option, Some, None, refl, sym, ap, subst, ◌∙◌, inl, inr, arith, drop-drop}
use Rattle.std.proofs.lemmas.List.{length-drop, drop_all}
use Rattle.tb_perm.specs.declared.span.Span.{Span}
use Rattle.tb_lex.specs.declared.keyword.Keyword.{Keyword}
use Rattle.tb_lex.specs.declared.keyword.Keyword.TheVariants as keyword_of
use Rattle.tb_lex.specs.declared.punctuation.Punctuation.{Punctuation}
use Rattle.tb_lex.specs.declared.punctuation.Punctuation.TheVariants.{OpenBrace, CloseBrace, CloseBracket, Semicolon}
use Rattle.tb_lex.specs.declared.token.TokenKind.{TokenKind}
use Rattle.tb_lex.specs.declared.token.TokenKind.TheVariants as kind
use Rattle.tb_ast.specs.declared.piece.Piece.{Piece}
use Rattle.tb_ast.specs.declared.expression.Expr.{Expr}
use Rattle.tb_ast.specs.declared.expression.Else.{Else}
use Rattle.tb_ast.specs.declared.expression.Block.{Block}
use Rattle.tb_ast.specs.declared.expression.Stmt.{Stmt}
use Rattle.tb_ast.specs.declared.item.Item.{Item}
use Rattle.tb_ast.specs.declared.item.ItemKind.{ItemKind}
use Rattle.tb_ast.specs.declared.item.Use.{Use}
use Rattle.tb_ast.specs.declared.item.Struct.{Struct}
use Rattle.tb_ast.specs.declared.item.ExternBlock.{ExternBlock}
use Rattle.tb_ast.specs.declared.item.InnerAttribute.{InnerAttribute}
use Rattle.tb_ast.specs.Joined.{with_kind, with_mark}
use Rattle.tb_ast.specs.Pieces.{punct, keyword, ident, text_piece, optional_keyword, separated, in_order, path_pieces}
use Rattle.tb_ast.specs.Types.{note_pieces}
use Rattle.tb_ast.specs.Expressions.{expr_pieces, stmt_pieces, block_pieces, initializer_pieces}
use Rattle.tb_ast.specs.Files.{inner_row, word_list, attribute_row, use_row, group_row, struct_row, lifetimes_row, member_row, extern_row, foreign_row}
use Rattle.tb_syntax.specs.State.{State, Begins, Stands}
use Rattle.tb_syntax.specs.Items.{head_row}
use Rattle.tb_syntax.proofs.Chains.{stands-split, stands-one}
use Rattle.tb_forms.specs.declared.place.Where.TheVariants.{Anywhere, Condition}
use Rattle.tb_forms.specs.Levels.{loosest_level}
use Rattle.tb_expr.specs.Grammar.{IsWholeAt, IsBlockyAt, ABlock, AnUnsafe, AWhile, ALoop, AnIf, IsIfAt, If, IsElseAt, NoElse, ElseBlock, ElseIf, IsBlockAt, Braced, IsStmtAt, EmptyStmt, LetStmt, PlainStmt, BlockyStmt}
use Rattle.tb_expr.proofs.SpelledRows.{pieces_if}
use Rattle.tb_expr.proofs.Spelled.{whole-spelled, block-spelled, lines-spelled, initializer-spelled}
use Rattle.tb_parse.specs.Trees.{IsKindAt, AUse, AStruct, AnExtern, AFunction, IsItemAt, AnItem}
use Rattle.tb_parse.specs.Fronts.{IsSuffix, OpenedTo, IsCutIfAt, CutIf, CutElse}

order : (a b : ℕ) → (a ≤ b) ⊎ (b < a)
order zero b = inl (omega arith)
order (suc a) zero = inr (omega arith)
order (suc a) (suc b) = elim (order a b) [
  | inl h ↦ inl (omega arith)
  | inr h ↦ inr (omega arith)
]

-- Marks that are never the first part of a token.
abbrev pub stands_alone : Punctuation → Type 0
stands_alone mark = (left : Punctuation) → with_mark mark left ≡ None

joint-none : (mark : Punctuation) → stands_alone mark → (k : TokenKind) (glued : Bool) (whole : Punctuation) → cond glued (with_kind (kind.Punctuation mark) k) None ≡ Some whole → ⊥
joint-none mark alone (kind.Punctuation left) true whole e = let none = alone left in absurd cc
joint-none mark alone k true whole e = absurd cc
joint-none mark alone k false whole e = absurd cc

ends-whole : (mark : Punctuation) (span : Span) (state rest : State) → stands_alone mark → Begins (punct mark span) state rest → drop 1 state ≡ rest
ends-whole mark span state rest alone (inl e) = ap (drop 1) e
ends-whole mark span state rest alone (inr part) = absurd (joint-none mark alone part.left.kind part.left.glued part.whole part.joint)

-- behind its first piece, which may be a part, each state is what is left of the source
module _ (source : State) where
  abbrev pub Tail : State → Type 0
  Tail state = (count : ℕ) × (drop count source ≡ drop 1 state)

  begins-tail : (piece : Piece) (state rest : State) → Begins piece state rest → Tail state → Tail rest
  begins-tail piece state rest (inl e) t =
      let next : drop 1 state ≡ rest = ap (drop 1) e in
      (t.0 + 1, sym (drop-drop 1 t.0 source) ∙ ap (drop 1) (t.1 ∙ next))
  begins-tail piece state rest (inr part) t = (t.0, t.1 ∙ ap (drop 1) part.stands ∙ sym (ap (drop 1) part.follows))

  pub stands-tail : (pieces : List Piece) (state rest : State) → Stands pieces state rest → Tail state → Tail rest
  stands-tail [] state rest h t = subst Tail h t
  stands-tail (piece ∷ pieces) state rest h t = stands-tail pieces h.0 rest h.2 (begins-tail piece state h.0 h.1 t)

  pub closes : (mark : Punctuation) (span : Span) (state rest : State) → stands_alone mark → Begins (punct mark span) state rest → Tail state → IsSuffix source rest
  closes mark span state rest alone h t = (t.0, t.1 ∙ ends-whole mark span state rest alone h)

  -- pieces with such a mark behind them
  closed : (pieces : List Piece) (mark : Punctuation) (span : Span) (state rest : State) → stands_alone mark → Stands (pieces ++ punct mark span ∷ []) state rest → Tail state → IsSuffix source rest
  closed pieces mark span state rest alone h t =
      let s = stands-split pieces (punct mark span ∷ []) state rest h in
      closes mark span s.0 rest alone (stands-one (punct mark span) s.0 rest s.2) (stands-tail pieces state s.0 s.1 t)

  pub block-suffix : (state : State) (body : Block) (rest : State) → IsBlockAt state body rest → Tail state → IsSuffix source rest
  block-suffix state body rest (Braced opening statements last closing a b first lines end) t =
      let l = lines-spelled a statements last b lines in
      let opened = begins-tail (punct OpenBrace opening) state a first t in
      closes CloseBrace closing b rest (λ left. refl) end (stands-tail (pieces_if expr_pieces last) l.middle b l.value (stands-tail (in_order (map stmt_pieces statements)) a l.middle l.first opened))

  condition-tail : (state : State) (e : Expr) (rest : State) → IsWholeAt Condition loosest_level state e rest → Tail state → Tail rest
  condition-tail state e rest h t = stands-tail (expr_pieces e) state rest (whole-spelled Condition loosest_level state e rest h) t

  block-tail : (state : State) (body : Block) (rest : State) → IsBlockAt state body rest → Tail state → Tail rest
  block-tail state body rest h t = stands-tail (block_pieces body) state rest (block-spelled state body rest h) t

  pub branch-suffix : (at : Span) (condition : Expr) (body : Block) (state a b rest : State) → Begins (keyword keyword_of.If at) state a → IsWholeAt Condition loosest_level a condition b → IsBlockAt b body rest → Tail state → IsSuffix source rest
  branch-suffix at condition body state a b rest first one inside t =
      block-suffix b body rest inside (condition-tail a condition b one (begins-tail (keyword keyword_of.If at) state a first t))

  branch-tail : (at : Span) (condition : Expr) (body : Block) (state a b rest : State) → Begins (keyword keyword_of.If at) state a → IsWholeAt Condition loosest_level a condition b → IsBlockAt b body rest → Tail state → Tail rest
  branch-tail at condition body state a b rest first one inside t =
      block-tail b body rest inside (condition-tail a condition b one (begins-tail (keyword keyword_of.If at) state a first t))

  mutual
    if-suffix : (state : State) (e : Expr) (rest : State) → IsIfAt state e rest → Tail state → IsSuffix source rest
    if-suffix state e rest (If at condition body otherwise a b c first one inside more) t =
        else-suffix c otherwise rest more (branch-suffix at condition body state a b c first one inside t) (branch-tail at condition body state a b c first one inside t)

    else-suffix : (state : State) (otherwise : Option Else) (rest : State) → IsElseAt state otherwise rest → IsSuffix source state → Tail state → IsSuffix source rest
    else-suffix state otherwise rest (NoElse stop) s t = s
    else-suffix state otherwise rest (ElseBlock at body a first inside) s t = block-suffix a body rest inside (begins-tail (keyword keyword_of.Else at) state a first t)
    else-suffix state otherwise rest (ElseIf at branch a first inside) s t = if-suffix a branch rest inside (begins-tail (keyword keyword_of.Else at) state a first t)

  pub cut-suffix : (state : State) (e : Expr) (rest : State) → IsCutIfAt state e rest → Tail state → IsSuffix source rest
  cut-suffix state e rest (CutIf at condition body a b first one inside follows) t = branch-suffix at condition body state a b rest first one inside t
  cut-suffix state e rest (CutElse at condition body word branch a b c d first one inside second more) t =
      cut-suffix d branch rest more (begins-tail (keyword keyword_of.Else word) c d second (branch-tail at condition body state a b c first one inside t))

  pub blocky-suffix : (state : State) (e : Expr) (rest : State) → IsBlockyAt state e rest → Tail state → IsSuffix source rest
  blocky-suffix state e rest (ABlock body h) t = block-suffix state body rest h t
  blocky-suffix state e rest (AnUnsafe at body a first h) t = block-suffix a body rest h (begins-tail (keyword keyword_of.Unsafe at) state a first t)
  blocky-suffix state e rest (AWhile at condition body a b first one h) t =
      block-suffix b body rest h (condition-tail a condition b one (begins-tail (keyword keyword_of.While at) state a first t))
  blocky-suffix state e rest (ALoop at body a first h) t = block-suffix a body rest h (begins-tail (keyword keyword_of.Loop at) state a first t)
  blocky-suffix state e rest (AnIf branch h) t = if-suffix state branch rest h t

  pub stmt-suffix : (state : State) (s : Stmt) (rest : State) → IsStmtAt state s rest → Tail state → IsSuffix source rest
  stmt-suffix state s rest (EmptyStmt span h) t = closes Semicolon span state rest (λ left. refl) h t
  stmt-suffix state s rest (LetStmt word mutable name ty depth value semicolon a b c d e first second third fourth is ends inside last) t =
      let t1 = begins-tail (keyword keyword_of.Let word) state a first t in
      let t2 = stands-tail (optional_keyword keyword_of.Mut mutable) a b second t1 in
      let t3 = begins-tail (ident name) b c third t2 in
      let t4 = stands-tail (note_pieces ty) c d fourth t3 in
      let t5 = stands-tail (pieces_if initializer_pieces value) d e (initializer-spelled d value e inside) t4 in
      closes Semicolon semicolon e rest (λ left. refl) last t5
  stmt-suffix state s rest (PlainStmt e semicolon a other h last) t =
      closes Semicolon semicolon a rest (λ left. refl) last (stands-tail (expr_pieces e) state a (whole-spelled Anywhere loosest_level state e a h) t)
  stmt-suffix state s rest (BlockyStmt e h stop) t = blocky-suffix state e rest h t

  use-suffix : (u : Use) (state rest : State) → Stands (use_row u) state rest → Tail state → IsSuffix source rest
  use-suffix u state rest h t =
      let t1 = begins-tail _ state h.0 h.1 t in
      let p = stands-split (path_pieces u.path) (group_row u.group ++ punct Semicolon u.semicolon ∷ []) h.0 rest h.2 in
      closed (group_row u.group) Semicolon u.semicolon p.0 rest (λ left. refl) p.2 (stands-tail (path_pieces u.path) h.0 p.0 p.1 t1)

  struct-suffix : (s : Struct) (state rest : State) → Stands (struct_row s) state rest → Tail state → IsSuffix source rest
  struct-suffix s state rest h t =
      let t1 = begins-tail _ state h.0 h.1 t in
      let n = h.2 in
      let t2 = begins-tail _ h.0 n.0 n.1 t1 in
      let p = stands-split (lifetimes_row s.lifetimes) (punct OpenBrace s.opening ∷ (separated _ (map member_row s.fields) s.commas ++ punct CloseBrace s.closing ∷ [])) n.0 rest n.2 in
      let t3 = stands-tail (lifetimes_row s.lifetimes) n.0 p.0 p.1 t2 in
      let o = p.2 in
      let t4 = begins-tail _ p.0 o.0 o.1 t3 in
      closed (separated _ (map member_row s.fields) s.commas) CloseBrace s.closing o.0 rest (λ left. refl) o.2 t4

  extern-suffix : (block : ExternBlock) (state rest : State) → Stands (extern_row block) state rest → Tail state → IsSuffix source rest
  extern-suffix block state rest h t =
      let u = stands-split (optional_keyword keyword_of.Unsafe block.unsafe_keyword) (keyword keyword_of.Extern block.extern_keyword ∷ text_piece block.abi ∷ punct OpenBrace block.opening ∷ (in_order (map foreign_row block.functions) ++ punct CloseBrace block.closing ∷ [])) state rest h in
      let t1 = stands-tail (optional_keyword keyword_of.Unsafe block.unsafe_keyword) state u.0 u.1 t in
      let w = u.2 in
      let t2 = begins-tail _ u.0 w.0 w.1 t1 in
      let x = w.2 in
      let t3 = begins-tail _ w.0 x.0 x.1 t2 in
      let o = x.2 in
      let t4 = begins-tail _ x.0 o.0 o.1 t3 in
      closed (in_order (map foreign_row block.functions)) CloseBrace block.closing o.0 rest (λ left. refl) o.2 t4

  kind-suffix : (state : State) (k : ItemKind) (rest : State) → IsKindAt state k rest → Tail state → IsSuffix source rest
  kind-suffix state k rest (AUse u stands is) t = use-suffix u state rest stands t
  kind-suffix state k rest (AStruct s depth stands is) t = struct-suffix s state rest stands t
  kind-suffix state k rest (AnExtern block depth stands is) t = extern-suffix block state rest stands t
  kind-suffix state k rest (AFunction head depth body a stands is ends b) t = block-suffix a body rest b (stands-tail (head_row head) state a stands t)

  pub item-suffix : (state : State) (x : Item) (rest : State) → IsItemAt state x rest → Tail state → IsSuffix source rest
  item-suffix state x rest (AnItem attributes k a stands are is) t = kind-suffix a k rest is (stands-tail (in_order (map attribute_row attributes)) state a stands t)

  pub inner-suffix : (state : State) (inner : InnerAttribute) (rest : State) → Stands (inner_row inner) state rest → Tail state → IsSuffix source rest
  inner-suffix state inner rest h t =
      let a = h.2 in
      let b = a.2 in
      let t1 = begins-tail _ state h.0 h.1 t in
      let t2 = begins-tail _ h.0 a.0 a.1 t1 in
      let t3 = begins-tail _ a.0 b.0 b.1 t2 in
      closed (word_list _ inner.allow) CloseBracket inner.closing b.0 rest (λ left. refl) b.2 t3

  pub opened-suffix : (state : State) (rest : State) → OpenedTo state rest → Tail state → IsSuffix source rest
  opened-suffix state rest o t =
      let t1 = stands-tail (in_order (map attribute_row o.attributes)) state o.a o.noted t in
      closes OpenBrace o.opening o.b rest (λ left. refl) o.opens (stands-tail (head_row o.head) o.a o.b o.stands t1)

  pub suffix-tail : (state : State) → IsSuffix source state → Tail state
  suffix-tail state s = (s.0 + 1, sym (drop-drop 1 s.0 source) ∙ ap (drop 1) s.1)

  -- what is left after some pieces, by its length
  pub suffix-length : (rest : State) → IsSuffix source rest → (length rest ≤ length source) × (drop (length source - length rest) source ≡ rest)
  suffix-length rest s =
      let l : length rest ≡ length source - s.0 = sym (ap length s.1) ∙ length-drop s.0 source in
      elim (order s.0 (length source)) [
        | inl within ↦ let same : length source - length rest ≡ s.0 = omega arith in (omega arith, ap (λ n. drop n source) same ∙ s.1)
        | inr past ↦
            let none : drop s.0 source ≡ [] = drop_all s.0 source (omega arith) in
            let all : length source - length rest ≡ length source = omega arith in
            (omega arith, ap (λ n. drop n source) all ∙ drop_all (length source) source (omega arith) ∙ sym none ∙ s.1)
      ]

pub word-suffix : (word : Keyword) (span : Span) (state rest : State) → Begins (keyword word span) state rest → IsSuffix state rest
word-suffix word span state rest (inl e) = (1, ap (drop 1) e)
word-suffix word span state rest (inr part) = absurd (no-joint part.left.kind part.left.glued part.whole part.joint) where
  no-joint : (k : TokenKind) (glued : Bool) (whole : Punctuation) → cond glued (with_kind (kind.Keyword word) k) None ≡ Some whole → ⊥
  no-joint k true whole e = absurd cc
  no-joint k false whole e = absurd cc

pub whole-tail : (source : State) → Tail source source
whole-tail source = (1, refl)

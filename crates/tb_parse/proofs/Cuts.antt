-- A cut `if`, and what else stands where it does.
use Rattle.std.proofs.Common.{◌≡◌, ◌⊎◌, ℕ, suc, ◌+◌, ◌-◌, ◌<◌, ◌≤◌, max, Bool, true, false, List, map, length, Option, Some, None, refl, sym, ap, subst, ◌∙◌, inl, inr, arith}
use Rattle.std.proofs.lemmas.List.{length-map}
use Rattle.tb_perm.specs.declared.span.Span.{Span}
use Rattle.tb_lex.specs.declared.keyword.Keyword.{Keyword}
use Rattle.tb_lex.specs.declared.keyword.Keyword.TheVariants as keyword_of
use Rattle.tb_lex.specs.declared.punctuation.Punctuation.{Punctuation}
use Rattle.tb_lex.specs.declared.punctuation.Punctuation.TheVariants.{OpenBrace, Semicolon}
use Rattle.tb_lex.specs.declared.token.Token.{Token}
use Rattle.tb_lex.specs.declared.token.TokenKind.TheVariants as kind
use Rattle.tb_ast.specs.declared.expression.Expr.{Expr}
use Rattle.tb_ast.specs.declared.expression.Else.{Else, roll-Else}
use Rattle.tb_ast.specs.declared.expression.Else.TheOpen.{Else-F}
use Rattle.tb_ast.specs.declared.expression.Block.{Block}
use Rattle.tb_ast.specs.declared.expression.Stmt.{Stmt}
use Rattle.tb_ast.specs.Pieces.{punct, keyword}
use Rattle.tb_ast.specs.Depth.{expr_depth, else_depth, block_depth}
use Rattle.tb_syntax.specs.State.{State, Begins, piece_of}
use Rattle.tb_syntax.specs.Marks.{has_mark}
use Rattle.tb_syntax.specs.Leaves.{has_keyword}
use Rattle.tb_syntax.proofs.Options.{some_is}
use Rattle.tb_syntax.proofs.Chains.{begins-shrinks}
use Rattle.tb_syntax.proofs.Tokens.{token-no-mark, keyword-complete, keyword_self}
use Rattle.tb_syntax.proofs.Listed.{begins-has}
use Rattle.tb_forms.specs.declared.place.Where.TheVariants.{Anywhere, Condition}
use Rattle.tb_forms.specs.declared.place.Where.TheVariants.{Condition}
use Rattle.tb_forms.specs.Levels.{loosest_level}
use Rattle.tb_forms.specs.declared.front.Front.TheVariants as front
use Rattle.tb_forms.specs.Beginnings.{begins_blocky}
use Rattle.tb_forms.specs.Trees.{if_to}
use Rattle.tb_forms.proofs.Begins.{front-blocks}
use Rattle.tb_expr.specs.declared.lines.Line.{Line}
use Rattle.tb_expr.specs.declared.lines.Line.TheVariants as line
use Rattle.tb_expr.specs.Grammar.{IsWholeAt, IsBlockyAt, ABlock, AnUnsafe, AWhile, ALoop, AnIf, IsIfAt, If, IsElseAt, NoElse, ElseBlock, ElseIf, IsBlockAt, Braced, IsValueAt, BlockyValue, PlainValue, IsStmtAt, EmptyStmt, LetStmt, PlainStmt, BlockyStmt, IsLineAt}
use Rattle.tb_expr.proofs.CompleteDepths.{expr-roll, else-roll, expr-some}
use Rattle.tb_expr.proofs.Shrinks.{whole-shrinks, block-shrinks, else-shrinks}
use Rattle.tb_expr.proofs.Ways.{one-whole, one-block}
use Rattle.tb_parse.specs.Fronts.{IsCutIfAt, CutIf, CutElse, BranchTo, ElseTo, CutTo, NoneTo, IsLongest}
use Rattle.tb_parse.proofs.Firsts.{same_word, keyword-has}

not-both : (b : Bool) → b ≡ true → b ≡ false → ⊥
not-both true e f = absurd cc
not-both false e f = absurd cc

-- where one keyword stands, no other does, and no mark
two-words : (word other : Keyword) (span at : Span) (state rest after : State) → Begins (keyword word span) state rest → Begins (keyword other at) state after → same_word other word ≡ false → ⊥
two-words word other span at state rest after h k e =
    not-both (has_keyword word state) (keyword-has word word span state rest h ∙ same-self word) (keyword-has other word at state after k ∙ e) where
      same-self : (w : Keyword) → same_word w w ≡ true
      same-self w = keyword_self w

word-and-mark : (word : Keyword) (mark : Punctuation) (span at : Span) (state rest after : State) → Begins (keyword word span) state rest → Begins (punct mark at) state after → ⊥
word-and-mark word mark span at state rest after h k =
    not-both (has_mark mark state) (begins-has mark (record { span = at; glued = false }) state after k) (token-no-mark (kind.Keyword word) mark span state rest refl h)

-- a keyword stands in one way
pub one-word : (word : Keyword) (span at : Span) (state rest after : State) → Begins (keyword word span) state rest → Begins (keyword word at) state after → rest ≡ after
one-word word span at state rest after h k =
    let same : ◌≡◌ {A = Span × State} (span, rest) (at, after) = some_is (span, rest) (at, after) (sym (keyword-complete word state span rest h) ∙ keyword-complete word state at after k) in
    ap (λ z. z.1) same

-- Where a cut `if` stands, a line is an `if`.

-- the state begins with `if`
record IfFirst (state : State) : Type 0 where
  at : Span
  after : State
  begins : Begins (keyword keyword_of.If at) state after

cut-first : (state : State) (e : Expr) (rest : State) → IsCutIfAt state e rest → IfFirst state
cut-first state e rest (CutIf at condition body a b first one inside follows) = record { at = at; after = a; begins = first }
cut-first state e rest (CutElse at condition body word branch a b c d first one inside second more) = record { at = at; after = a; begins = first }

pub cut-no-mark : (mark : Punctuation) (state : State) (e : Expr) (rest : State) → IsCutIfAt state e rest → has_mark mark state ≡ false
cut-no-mark mark state e rest h = let f = cut-first state e rest h in token-no-mark (kind.Keyword keyword_of.If) mark f.at state f.after refl f.begins

first-blocky : (state : State) → IfFirst state → begins_blocky state ≡ true
first-blocky state f = front-blocks 0 Anywhere state (front.If f.at) f.after f.begins

record IfHere (state rest : State) : Type 0 where
  e : Expr
  is : IsIfAt state e rest

blocky-if : (state : State) (e : Expr) (rest : State) → IfFirst state → IsBlockyAt state e rest → IfHere state rest
blocky-if state e rest f (ABlock body (Braced opening statements last closing a b first lines end)) =
    absurd (word-and-mark keyword_of.If OpenBrace f.at opening state f.after a f.begins first)
blocky-if state e rest f (AnUnsafe at body a first h) = absurd (two-words keyword_of.If keyword_of.Unsafe f.at at state f.after a f.begins first refl)
blocky-if state e rest f (AWhile at condition body a b first one h) = absurd (two-words keyword_of.If keyword_of.While f.at at state f.after a f.begins first refl)
blocky-if state e rest f (ALoop at body a first h) = absurd (two-words keyword_of.If keyword_of.Loop f.at at state f.after a f.begins first refl)
blocky-if state e rest f (AnIf branch h) = record { e = branch; is = h }

stmt-if : (state : State) (s : Stmt) (rest : State) → IfFirst state → IsStmtAt state s rest → IfHere state rest
stmt-if state s rest f (EmptyStmt span h) = absurd (word-and-mark keyword_of.If Semicolon f.at span state f.after rest f.begins h)
stmt-if state s rest f (LetStmt word mutable name ty depth value semicolon a b c d e first second third fourth is ends inside last) =
    absurd (two-words keyword_of.If keyword_of.Let f.at word state f.after a f.begins first refl)
stmt-if state s rest f (PlainStmt e semicolon a other h last) = absurd (not-both (begins_blocky state) (first-blocky state f) other)
stmt-if state s rest f (BlockyStmt e h stop) = blocky-if state e rest f h

value-if : (state : State) (e : Expr) (rest : State) → IfFirst state → IsValueAt state e rest → IfHere state rest
value-if state e rest f (BlockyValue x h stop) = blocky-if state x rest f h
value-if state e rest f (PlainValue x other h stop) = absurd (not-both (begins_blocky state) (first-blocky state f) other)

line-if : (state : State) (l : Line) (rest : State) → IfFirst state → IsLineAt state l rest → IfHere state rest
line-if state (line.Stmt s) rest f h = stmt-if state s rest f h
line-if state (line.Last e) rest f h = value-if state e rest f h

-- the whole `if` goes at least so far as the cut one

else-word : (state : State) (word : Span) (rest : State) → Begins (keyword keyword_of.Else word) state rest → has_keyword keyword_of.Else state ≡ true
else-word state word rest h = keyword-has keyword_of.Else keyword_of.Else word state rest h

-- where an `else` and a cut `if` stand, over which each whole `if` there goes
else-over-cut : (state : State) (otherwise : Option Else) (rest : State) (word : Span) (d after : State) → Begins (keyword keyword_of.Else word) state d → IfFirst d
    → ((e : Expr) (end : State) → IsIfAt d e end → length end ≤ length after) → IsElseAt state otherwise rest → length rest ≤ length after
else-over-cut state otherwise rest word d after second f over (NoElse stop) = absurd (not-both (has_keyword keyword_of.Else state) (else-word state word d second) stop)
else-over-cut state otherwise rest word d after second f over (ElseBlock at body a first (Braced opening statements last closing x y opens lines end)) =
    let same = one-word keyword_of.Else at word state a d first second in
    absurd (word-and-mark keyword_of.If OpenBrace f.at opening d f.after x f.begins (subst (λ s. Begins (punct OpenBrace opening) s x) same opens))
else-over-cut state otherwise rest word d after second f over (ElseIf at branch a first h) =
    let same = one-word keyword_of.Else at word state a d first second in
    over branch rest (subst (λ s. IsIfAt s branch rest) same h)

if-over-cut : (state : State) (e : Expr) (rest : State) (other : Expr) (after : State) → IsCutIfAt state other after → IsIfAt state e rest → length rest ≤ length after
if-over-cut state e rest other after (CutIf at condition body a b first one inside follows) (If at_too condition_too body_too otherwise x y z first_too one_too inside_too more) =
    let same = one-word keyword_of.If at_too at state x a first_too first in
    let conditions = one-whole Condition loosest_level a condition_too y condition b (omega arith) (subst (λ s. IsWholeAt Condition loosest_level s condition_too y) same one_too) one in
    let blocks = one-block b body_too z body after (subst (λ s. IsBlockAt s body_too z) conditions.1 inside_too) inside in
    let less : length rest ≤ length z = else-shrinks z otherwise rest more in
    subst (λ s. length rest ≤ length s) blocks.1 less
if-over-cut state e rest other after (CutElse at condition body word branch a b c d first one inside second cut) (If at_too condition_too body_too otherwise x y z first_too one_too inside_too more) =
    let same = one-word keyword_of.If at_too at state x a first_too first in
    let conditions = one-whole Condition loosest_level a condition_too y condition b (omega arith) (subst (λ s. IsWholeAt Condition loosest_level s condition_too y) same one_too) one in
    let blocks = one-block b body_too z body c (subst (λ s. IsBlockAt s body_too z) conditions.1 inside_too) inside in
    else-over-cut c otherwise rest word d after second (cut-first d branch after cut) (λ x end is. if-over-cut d x end branch after cut is) (subst (λ s. IsElseAt s otherwise rest) blocks.1 more)

pub line-over-cut : (state : State) (l : Line) (rest : State) (other : Expr) (after : State) → IsLineAt state l rest → IsCutIfAt state other after → length rest ≤ length after
line-over-cut state l rest other after is cut = let h = line-if state l rest (cut-first state other after cut) is in if-over-cut state h.e rest other after cut h.is

pub cut-shrinks : (state : State) (e : Expr) (rest : State) → IsCutIfAt state e rest → length rest < length state
cut-shrinks state e rest (CutIf at condition body a b first one inside follows) =
    let x = begins-shrinks (keyword keyword_of.If at) state a first in
    let y = whole-shrinks Condition loosest_level a condition b one in
    let z = block-shrinks b body rest inside in
    omega arith
cut-shrinks state e rest (CutElse at condition body word branch a b c d first one inside second more) =
    let x = begins-shrinks (keyword keyword_of.If at) state a first in
    let y = whole-shrinks Condition loosest_level a condition b one in
    let z = block-shrinks b body c inside in
    let w = begins-shrinks (keyword keyword_of.Else word) c d second in
    let v = cut-shrinks d branch rest more in
    omega arith

-- Cut `if`s by what they are of.

if-deep : (at : Span) (condition : Expr) (body : Block) → expr_depth (if_to at condition body None) ≡ max (max (expr_depth condition) (block_depth body)) 0 + 1
if-deep at condition body = expr-roll _

if-else-deep : (at : Span) (condition : Expr) (body : Block) (word : Span) (branch : Expr)
    → expr_depth (if_to at condition body (Some (roll-Else (Else-F.ElseIf word branch)))) ≡ max (max (expr_depth condition) (block_depth body)) (else_depth (roll-Else (Else-F.ElseIf word branch))) + 1
if-else-deep at condition body word branch = expr-roll _

else-deep : (word : Span) (branch : Expr) → else_depth (roll-Else (Else-F.ElseIf word branch)) ≡ expr_depth branch
else-deep word branch = else-roll _

-- cut here
pub cut-here : (depth : ℕ) (state rest : State) → BranchTo depth state rest → has_keyword keyword_of.Else rest ≡ true → CutTo (suc depth) state rest
cut-here depth state rest branch follows =
    let condition = branch.condition in
    let body = branch.body in
    let deep : expr_depth (if_to branch.at condition.0 body.0 None) ≤ suc depth =
    let e = if-deep branch.at condition.0 body.0 in let c = condition.2 in let b = body.2 in omega arith in
    (if_to branch.at condition.0 body.0 None, CutIf branch.at condition.0 body.0 branch.a branch.b branch.begins condition.1 body.1 follows, deep)

-- cut further on
pub cut-further : (depth : ℕ) (state middle next rest : State) → BranchTo depth state middle → ElseTo middle next → CutTo depth next rest → CutTo (suc depth) state rest
cut-further depth state middle next rest branch word cut =
    let condition = branch.condition in
    let body = branch.body in
    let deep : expr_depth (if_to branch.at condition.0 body.0 (Some (roll-Else (Else-F.ElseIf word.0 cut.0)))) ≤ suc depth =
    let e = if-else-deep branch.at condition.0 body.0 word.0 cut.0 in
    let f = else-deep word.0 cut.0 in
    let c = condition.2 in let b = body.2 in let d = cut.2 in
    omega arith in (
      if_to branch.at condition.0 body.0 (Some (roll-Else (Else-F.ElseIf word.0 cut.0))),
      CutElse branch.at condition.0 body.0 word.0 cut.0 branch.a branch.b middle next branch.begins condition.1 body.1 word.1 cut.1,
      deep,
    )

-- and so is each
pub data CutOf (depth : ℕ) (state rest : State) : Type 0 where
  Here : BranchTo depth state rest → has_keyword keyword_of.Else rest ≡ true → CutOf depth state rest
  Further : (middle next : State) → BranchTo depth state middle → ElseTo middle next → CutTo depth next rest → CutOf depth state rest

cut-parts : (depth : ℕ) (state : State) (e : Expr) (rest : State) → IsCutIfAt state e rest → expr_depth e ≤ suc depth → CutOf depth state rest
cut-parts depth state e rest (CutIf at condition body a b first one inside follows) deep =
    let d = if-deep at condition body in
    Here (record { at = at; a = a; b = b; begins = first; condition = (condition, one, omega arith); body = (body, inside, omega arith) }) follows
cut-parts depth state e rest (CutElse at condition body word branch a b c d first one inside second more) deep =
    let x = if-else-deep at condition body word branch in
    let y = else-deep word branch in
    Further c d (record { at = at; a = a; b = b; begins = first; condition = (condition, one, omega arith); body = (body, inside, omega arith) }) (word, second) (branch, more, omega arith)

pub cut-of : (depth : ℕ) (state rest : State) → CutTo (suc depth) state rest → CutOf depth state rest
cut-of depth state rest cut = cut-parts depth state cut.0 rest cut.1 cut.2

cut-some : (state : State) (e : Expr) (rest : State) → IsCutIfAt state e rest → 1 ≤ expr_depth e
cut-some state e rest h = expr-some e

pub no-cut : (state : State) → NoneTo (CutTo 0 state)
no-cut state rest cut = let some = cut-some state cut.0 rest cut.1 in let less = cut.2 in absurd (omega arith)

-- a branch stands in one way
pub one-branch : (depth : ℕ) (state rest after : State) → BranchTo depth state rest → BranchTo depth state after → rest ≡ after
one-branch depth state rest after x y =
    let same = one-word keyword_of.If x.at y.at state x.a y.a x.begins y.begins in
    let conditions = one-whole Condition loosest_level y.a x.condition.0 x.b y.condition.0 y.b (omega arith) (subst (λ s. IsWholeAt Condition loosest_level s x.condition.0 x.b) same x.condition.1) y.condition.1 in
    let blocks = one-block y.b x.body.0 rest y.body.0 after (subst (λ s. IsBlockAt s x.body.0 rest) conditions.1 x.body.1) y.body.1 in
    blocks.1

pub one-else : (state rest after : State) → ElseTo state rest → ElseTo state after → rest ≡ after
one-else state rest after x y = one-word keyword_of.Else x.0 y.0 state rest after x.1 y.1

-- The loop that looks for the furthest cut.

-- behind some branches, before an `if` that may be so deep
pub record CutsSo (depth : ℕ) (start end rest : State) : Type 0 where
  pub back : (after : State) → CutTo depth rest after → CutTo 126 start after
  pub on : (after : State) → CutTo 126 start after → (length end ≤ length after) ⊎ CutTo depth rest after
  pub here : (end ≡ start) ⊎ CutTo 126 start end
  pub less : length rest ≤ length end

pub cuts-start : (start : State) → CutsSo 126 start start start
cuts-start start = record { back = λ after c. c; on = λ after c. inr c; here = inl refl; less = omega arith }

branch-shrinks : (depth : ℕ) (state rest : State) → BranchTo depth state rest → length rest < length state
branch-shrinks depth state rest x =
    let a = begins-shrinks (keyword keyword_of.If x.at) state x.a x.begins in
    let b = whole-shrinks Condition loosest_level x.a x.condition.0 x.b x.condition.1 in
    let c = block-shrinks x.b x.body.0 rest x.body.1 in
    omega arith

cut-goes-on : (depth : ℕ) (rest middle next after : State) → BranchTo depth rest middle → ElseTo middle next → CutOf depth rest after → (length middle ≤ length after) ⊎ CutTo depth next after
cut-goes-on depth rest middle next after branch word (Here other follows) =
    let same = one-branch depth rest middle after branch other in
    let l : length middle ≡ length after = ap length same in
    inl (omega arith)
cut-goes-on depth rest middle next after branch word (Further m n other second cut) =
    let same = one-branch depth rest m middle other branch in
    let words = one-else middle n next (subst (λ s. ElseTo s n) same second) word in
    inr (subst (λ s. CutTo depth s after) words cut)

-- one branch more
pub cuts-more : (depth : ℕ) (start end rest middle next : State) → BranchTo depth rest middle → ElseTo middle next → CutsSo (suc depth) start end rest → CutsSo depth start middle next
cuts-more depth start end rest middle next branch word so =
    let shorter = branch-shrinks depth rest middle branch in
    let less = so.less in
    let there = so.back middle (cut-here depth rest middle branch (else-word middle word.0 next word.1)) in
    record {
      back = λ after c. so.back after (cut-further depth rest middle next after branch word c);
      on = λ after c. elim (so.on after c) [
        | inl h ↦ inl (omega arith)
        | inr k ↦ cut-goes-on depth rest middle next after branch word (cut-of depth rest after k)
      ];
      here = inr there;
      less = begins-shrinks (keyword keyword_of.Else word.0) middle next word.1;
    }

-- no further: where nothing is cut behind these branches
stops : (depth : ℕ) (start end rest : State) → CutsSo depth start end rest → NoneTo (CutTo depth rest) → (after : State) → CutTo 126 start after → length end ≤ length after
stops depth start end rest so none after c = elim (so.on after c) [
  | inl h ↦ h
  | inr k ↦ absurd (none after k)
]

-- as no branch stands there
no-branch : (depth : ℕ) (rest : State) → NoneTo (BranchTo depth rest) → NoneTo (CutTo (suc depth) rest)
no-branch depth rest none after cut = none-of (cut-of depth rest after cut) where
  none-of : CutOf depth rest after → ⊥
  none-of (Here branch follows) = none after branch
  none-of (Further m n branch second more) = none m branch

-- as no `else` stands behind the branch
no-else : (depth : ℕ) (rest middle : State) → BranchTo depth rest middle → has_keyword keyword_of.Else middle ≡ false → NoneTo (CutTo (suc depth) rest)
no-else depth rest middle branch stop after cut = none-of (cut-of depth rest after cut) where
  none-of : CutOf depth rest after → ⊥
  none-of (Here other follows) =
      let same = one-branch depth rest middle after branch other in
      not-both (has_keyword keyword_of.Else middle) (subst (λ s. has_keyword keyword_of.Else s ≡ true) (sym same) follows) stop
  none-of (Further m n other second more) =
      let same = one-branch depth rest m middle other branch in
      not-both (has_keyword keyword_of.Else middle) (subst (λ s. has_keyword keyword_of.Else s ≡ true) same (else-word m second.0 n second.1)) stop

pub stops-branch : (depth : ℕ) (start end rest : State) → CutsSo (suc depth) start end rest → NoneTo (BranchTo depth rest) → (after : State) → CutTo 126 start after → length end ≤ length after
stops-branch depth start end rest so none = stops (suc depth) start end rest so (no-branch depth rest none)

pub stops-else : (depth : ℕ) (start end rest middle : State) → CutsSo (suc depth) start end rest → BranchTo depth rest middle → has_keyword keyword_of.Else middle ≡ false
    → (after : State) → CutTo 126 start after → length end ≤ length after
stops-else depth start end rest middle so branch stop = stops (suc depth) start end rest so (no-else depth rest middle branch stop)

pub stops-deep : (start end rest : State) → CutsSo 0 start end rest → (after : State) → CutTo 126 start after → length end ≤ length after
stops-deep start end rest so = stops 0 start end rest so (no-cut rest)

-- The same, in the words of the loop, over tokens.

suc-before : (depth : ℕ) → 0 < depth → suc (depth - 1) ≡ depth
suc-before depth some = omega arith

before : (depth : ℕ) (start end rest : State) → 0 < depth → CutsSo depth start end rest → CutsSo (suc (depth - 1)) start end rest
before depth start end rest some so = subst (λ d. CutsSo d start end rest) (sym (suc-before depth some)) so

pub loop-more : (depth : ℕ) (start end rest middle next : State) → 0 < depth → CutsSo depth start end rest → BranchTo (depth - 1) rest middle → ElseTo middle next → CutsSo (depth - 1) start middle next
loop-more depth start end rest middle next some so branch word = cuts-more (depth - 1) start end rest middle next branch word (before depth start end rest some so)

left-longest : (start : State) (left : List Token) → ((after : State) → CutTo 126 start after → length (map piece_of left) ≤ length after) → IsLongest (CutTo 126 start) (length left)
left-longest start left longest after c =
    let l : length (map piece_of left) ≡ length left = length-map left piece_of in
    let less = longest after c in
    omega arith

pub loop-branch : (depth : ℕ) (start rest : State) (left : List Token) → 0 < depth → CutsSo depth start (map piece_of left) rest → NoneTo (BranchTo (depth - 1) rest) → IsLongest (CutTo 126 start) (length left)
loop-branch depth start rest left some so none =
    left-longest start left (stops-branch (depth - 1) start (map piece_of left) rest (before depth start (map piece_of left) rest some so) none)

pub loop-else : (depth : ℕ) (start rest middle : State) (left : List Token) → 0 < depth → CutsSo depth start (map piece_of left) rest → BranchTo (depth - 1) rest middle → has_keyword keyword_of.Else middle ≡ false
    → IsLongest (CutTo 126 start) (length left)
loop-else depth start rest middle left some so branch stop =
    left-longest start left (stops-else (depth - 1) start (map piece_of left) rest middle (before depth start (map piece_of left) rest some so) branch stop)

pub loop-deep : (depth : ℕ) (start rest : State) (left : List Token) → depth ≤ 0 → CutsSo depth start (map piece_of left) rest → IsLongest (CutTo 126 start) (length left)
loop-deep depth start rest left none so =
    let zero_left : depth ≡ 0 = omega arith in
    left-longest start left (stops-deep start (map piece_of left) rest (subst (λ d. CutsSo d start (map piece_of left) rest) zero_left so))

pub loop-here : (depth : ℕ) (start end rest : State) → CutsSo depth start end rest → (end ≡ start) ⊎ CutTo 126 start end
loop-here depth start end rest so = so.here

pub ruleset cuts = (cuts-start, loop-more, loop-branch, loop-else, loop-deep, loop-here)

-- What the parts of the search for the longest front find, by what is read.
use Rattle.std.proofs.Common.{◌≡◌, cond, ℕ, suc, ◌-◌, ◌<◌, ◌≤◌, Bool, true, false, if◌then◌else◌, List, [], ◌∷◌, map, length, take, drop, Option, Some, None, Result, Ok, Err, refl, sym, ap, subst, ◌∙◌, arith}
use Rattle.std.specs.Prelude.{IfSome, IfNone, IfOk}
use Rattle.std.proofs.lemmas.List.{length-map, drop-map, take_rest}
use Rattle.tb_perm.specs.declared.span.Span.{Span}
use Rattle.tb_lex.specs.declared.keyword.Keyword.TheVariants as keyword_of
use Rattle.tb_lex.specs.declared.token.Token.{Token}
use Rattle.tb_ast.specs.declared.expression.Expr.{Expr}
use Rattle.tb_ast.specs.declared.expression.Block.{Block}
use Rattle.tb_ast.specs.declared.expression.Stmt.{Stmt}
use Rattle.tb_ast.specs.declared.item.InnerAttribute.{InnerAttribute}
use Rattle.tb_ast.specs.declared.item.Item.{Item}
use Rattle.tb_ast.specs.Files.{inner_row}
use Rattle.tb_ast.specs.Depth.{capped, expr_depth, block_depth, stmt_depth, item_depth}
use Rattle.tb_syntax.specs.Reading.{◌>>=◌}
use Rattle.tb_syntax.specs.State.{State, Stands, piece_of}
use Rattle.tb_syntax.specs.Leaves.{passes, token_at, is_keyword, keyword_at, has_keyword}
use Rattle.tb_syntax.specs.Attributes.{inner_at, IsInner}
use Rattle.tb_syntax.proofs.Options.{some_is}
use Rattle.tb_syntax.proofs.Tokens.{keyword-sound, keyword-complete}
use Rattle.tb_syntax.proofs.Attributed.{inner-sound, inner-complete}
use Rattle.tb_forms.specs.declared.place.Where.TheVariants.{Condition}
use Rattle.tb_forms.specs.Levels.{loosest_level}
use Rattle.tb_expr.specs.declared.lines.Line.{Line}
use Rattle.tb_expr.specs.declared.lines.Line.TheVariants as line
use Rattle.tb_expr.specs.Grammar.{IsWholeAt, IsBlockAt, IsLineAt, line_depth}
use Rattle.tb_expr.proofs.Ways.{one-whole, one-block, one-line}
use Rattle.tb_parse.specs.Files.{item_at}
use Rattle.tb_parse.specs.Trees.{IsItemAt}
use Rattle.tb_parse.specs.Fronts.{IsSuffix, NoneTo, InnerTo, ItemTo, StatementTo, ConditionTo, BlockTo, BranchTo, ElseTo}
use Rattle.tb_parse.proofs.Aligned.{whole-tail, suffix-length, stmt-suffix, branch-suffix, item-suffix, inner-suffix, word-suffix}
use Rattle.tb_parse.proofs.Whole.{item-sound, item-complete, item-shorter, item-one}
use Rattle.tb_parse.proofs.OneFile.{inner-shorter}
use Rattle.tb_parse.proofs.BodyFronts.{statement-shorter}
use Rattle.tb_parse.proofs.Cuts.{one-word}

-- What holds of what is found, and of what is not.

pub if-none : {T : Type 0} (o : Option T) (P : Type 0) → IfNone o P → o ≡ None → P
if-none None P h e = h
if-none (Some x) P h e = absurd cc

pub if-some : {T : Type 0} (o : Option T) (P : T → Type 0) → IfSome o P → (x : T) → o ≡ Some x → P x
if-some None P h x e = absurd cc
if-some (Some y) P h x e = subst P (some_is y x e) h

pub if-both : {T E : Type 0} (r : Result T E) (P Q R : T → Type 0) → IfOk r P → IfOk r Q → ((x : T) → P x → Q x → R x) → IfOk r R
if-both (Ok x) P Q R p q both = both x p q
if-both (Err e) P Q R p q both = tt

pub none-left : (tokens : List Token) → length tokens ≤ 0 → tokens ≡ []
none-left [] h = refl
none-left (token ∷ tokens) h = absurd (omega arith)

-- The tokens that are left.

pub behind-less : (tokens : List Token) (rest : State) → IsSuffix (map piece_of tokens) rest → length rest ≤ length tokens
behind-less tokens rest s =
    let x = (suffix-length (map piece_of tokens) rest s).0 in
    let l : length (map piece_of tokens) ≡ length tokens = length-map tokens piece_of in
    omega arith

pub behind-same : (tokens : List Token) (rest : State) → IsSuffix (map piece_of tokens) rest → map piece_of (drop (length tokens - length rest) tokens) ≡ rest
behind-same tokens rest s =
    let l : length (map piece_of tokens) ≡ length tokens = length-map tokens piece_of in
    sym (drop-map piece_of (length tokens - length rest) tokens) ∙ ap (λ n. drop (n - length rest) (map piece_of tokens)) (sym l)
    ∙ (suffix-length (map piece_of tokens) rest s).1

pub behind-slice : (tokens : List Token) (rest : State) (count : ℕ) → IsSuffix (map piece_of tokens) rest → count ≡ length rest
    → map piece_of (take (length tokens - (length tokens - count)) (drop (length tokens - count) tokens)) ≡ rest
behind-slice tokens rest count s e =
    ap (map piece_of) (take_rest tokens (length tokens - count)) ∙ ap (λ n. map piece_of (drop (length tokens - n) tokens)) e ∙ behind-same tokens rest s

-- and how many they are
pub shorter-tokens : (tokens left : List Token) → length (map piece_of left) < length (map piece_of tokens) → length left < length tokens
shorter-tokens tokens left less =
    let l : length (map piece_of tokens) ≡ length tokens = length-map tokens piece_of in
    let m : length (map piece_of left) ≡ length left = length-map left piece_of in
    omega arith

-- Depths that are told.

pub told-within : (n d : ℕ) → capped n ≤ d → d ≤ 128 → n ≤ d
told-within n d h small = omega arith

pub told-deep : (n d : ℕ) → d < capped n → n ≤ d → ⊥
told-deep n d h within = omega arith

-- Conditions and blocks.

pub condition-found : (depth : ℕ) (state : State) (e : Expr) (rest : State) → depth ≤ 126 → IsWholeAt Condition loosest_level state e rest → capped (expr_depth e) ≤ depth → ConditionTo depth state rest
condition-found depth state e rest small is told = (e, is, told-within (expr_depth e) depth told (omega arith))

pub condition-deep : (depth : ℕ) (state : State) (e : Expr) (rest : State) → IsWholeAt Condition loosest_level state e rest → depth < capped (expr_depth e) → NoneTo (ConditionTo depth state)
condition-deep depth state e rest is deep other c =
    let same = one-whole Condition loosest_level state c.0 other e rest (omega arith) c.1 is in
    told-deep (expr_depth e) depth deep (subst (λ x. expr_depth x ≤ depth) same.0 c.2)

pub condition-refused : (depth : ℕ) (state : State) → ((e : Expr) (rest : State) → IsWholeAt Condition loosest_level state e rest → depth < expr_depth e) → NoneTo (ConditionTo depth state)
condition-refused depth state refused rest c = let less = refused c.0 rest c.1 in let within = c.2 in absurd (omega arith)

pub block-found : (depth : ℕ) (state : State) (body : Block) (rest : State) → depth ≤ 126 → IsBlockAt state body rest → capped (block_depth body) ≤ depth → BlockTo depth state rest
block-found depth state body rest small is told = (body, is, told-within (block_depth body) depth told (omega arith))

pub block-deep : (depth : ℕ) (state : State) (body : Block) (rest : State) → IsBlockAt state body rest → depth < capped (block_depth body) → NoneTo (BlockTo depth state)
block-deep depth state body rest is deep other b =
    let same = one-block state b.0 other body rest b.1 is in
    told-deep (block_depth body) depth deep (subst (λ x. block_depth x ≤ depth) same.0 b.2)

pub block-refused : (depth : ℕ) (state : State) → ((body : Block) (rest : State) → IsBlockAt state body rest → suc depth < block_depth body) → NoneTo (BlockTo depth state)
block-refused depth state refused rest b = let less = refused b.0 rest b.1 in let within = b.2 in absurd (omega arith)

-- Branches.

nothing : {A : Type 0} (read : Option A) (y : A) → read ≡ None → read ≡ Some y → ⊥
nothing None y none some = absurd cc
nothing (Some x) y none some = absurd cc

pub branch-found : (depth : ℕ) (state : State) (at : Span) (a b rest : State) → keyword_at keyword_of.If state ≡ Some (at, a) → ConditionTo depth a b → BlockTo depth b rest → BranchTo depth state rest
branch-found depth state at a b rest read condition body = record { at = at; a = a; b = b; begins = keyword-sound keyword_of.If state at a read; condition = condition; body = body }

pub branch-wordless : (depth : ℕ) (state : State) → keyword_at keyword_of.If state ≡ None → NoneTo (BranchTo depth state)
branch-wordless depth state none rest x = nothing (keyword_at keyword_of.If state) (x.at, x.a) none (keyword-complete keyword_of.If state x.at x.a x.begins)

pub branch-conditionless : (depth : ℕ) (state : State) (at : Span) (a : State) → keyword_at keyword_of.If state ≡ Some (at, a) → NoneTo (ConditionTo depth a) → NoneTo (BranchTo depth state)
branch-conditionless depth state at a read none rest x =
    let same = one-word keyword_of.If x.at at state x.a a x.begins (keyword-sound keyword_of.If state at a read) in
    none x.b (subst (λ s. ConditionTo depth s x.b) same x.condition)

pub branch-blockless : (depth : ℕ) (state : State) (at : Span) (a b : State) → keyword_at keyword_of.If state ≡ Some (at, a) → ConditionTo depth a b → NoneTo (BlockTo depth b) → NoneTo (BranchTo depth state)
branch-blockless depth state at a b read condition none rest x =
    let same = one-word keyword_of.If x.at at state x.a a x.begins (keyword-sound keyword_of.If state at a read) in
    let there : ConditionTo depth a x.b = subst (λ s. ConditionTo depth s x.b) same x.condition in
    let conditions = one-whole Condition loosest_level a there.0 x.b condition.0 b (omega arith) there.1 condition.1 in
    none rest (subst (λ s. BlockTo depth s rest) conditions.1 x.body)

pub branch-aligned : (depth : ℕ) (state rest : State) → BranchTo depth state rest → IsSuffix state rest
branch-aligned depth state rest x = branch-suffix state x.at x.condition.0 x.body.0 state x.a x.b rest x.begins x.condition.1 x.body.1 (whole-tail state)

-- `else`

pub else-found : (state : State) (word : Span) (rest : State) → keyword_at keyword_of.Else state ≡ Some (word, rest) → ElseTo state rest
else-found state word rest read = (word, keyword-sound keyword_of.Else state word rest read)

pub else-aligned : (state : State) (word : Span) (rest : State) → keyword_at keyword_of.Else state ≡ Some (word, rest) → IsSuffix state rest
else-aligned state word rest read = word-suffix keyword_of.Else word state rest (keyword-sound keyword_of.Else state word rest read)

-- what a token is as this keyword
abbrev read_word : Option (Token × State) → Option (Span × State)
read_word None = None
read_word (Some x) = if is_keyword keyword_of.Else x.0.kind then Some (x.0.span, x.1) else None

word-none : (b : Bool) (x : Span × State) → cond b (Some x) None ≡ None → b ≡ false
word-none true x e = absurd cc
word-none false x e = refl

token-none : (r : Option (Token × State)) → read_word r ≡ None → passes (is_keyword keyword_of.Else) r ≡ false
token-none None e = refl
token-none (Some x) e = word-none (is_keyword keyword_of.Else x.0.kind) (x.0.span, x.1) e

word-read : (r : Option (Token × State)) → (r >>= λ x. if is_keyword keyword_of.Else x.0.kind then Some (x.0.span, x.1) else None) ≡ read_word r
word-read None = refl
word-read (Some x) = refl

pub else-none : (state : State) → keyword_at keyword_of.Else state ≡ None → has_keyword keyword_of.Else state ≡ false
unfolding keyword_at has_keyword
else-none state none = token-none (token_at state) (sym (word-read (token_at state)) ∙ none)

-- Statements.

no-two-lines : (s : Stmt) (e : Expr) → line.Stmt s ≡ line.Last e → ⊥
no-two-lines s e h = absurd cc

abbrev stmt-of : Line → Stmt → Stmt
stmt-of (line.Stmt s) other = s
stmt-of (line.Last e) other = other

same-stmt : (s t : Stmt) → line.Stmt s ≡ line.Stmt t → s ≡ t
same-stmt s t e = ap (λ l. stmt-of l s) e

pub statement-found : (state : State) (s : Stmt) (rest : State) → IsLineAt state (line.Stmt s) rest → capped (stmt_depth s) ≤ 127 → StatementTo state rest
statement-found state s rest is told = (s, is, told-within (stmt_depth s) 127 told (omega arith))

pub statement-aligned : (state : State) (s : Stmt) (rest : State) → IsLineAt state (line.Stmt s) rest → IsSuffix state rest
statement-aligned state s rest is = stmt-suffix state state s rest is (whole-tail state)

pub statement-deep : (state : State) (s : Stmt) (rest : State) → IsLineAt state (line.Stmt s) rest → 127 < capped (stmt_depth s) → NoneTo (StatementTo state)
statement-deep state s rest is deep other t =
    let same = one-line state (line.Stmt t.0) other (line.Stmt s) rest t.1 is in
    told-deep (stmt_depth s) 127 deep (subst (λ x. stmt_depth x ≤ 127) (same-stmt t.0 s same.0) t.2)

pub statement-last : (state : State) (e : Expr) (rest : State) → IsLineAt state (line.Last e) rest → NoneTo (StatementTo state)
statement-last state e rest is other t = no-two-lines t.0 e (one-line state (line.Stmt t.0) other (line.Last e) rest t.1 is).0

pub statement-last-line : (state other : State) (l : Line) (e : Expr) (rest : State) → other ≡ state → IsLineAt other l rest → l ≡ line.Last e → NoneTo (StatementTo state)
statement-last-line state other l e rest same is last =
    statement-last state e rest (subst (λ x. IsLineAt state x rest) last (subst (λ s. IsLineAt s l rest) same is))

pub statement-refused : (state : State) → ((l : Line) (rest : State) → IsLineAt state l rest → 126 < line_depth l) → NoneTo (StatementTo state)
statement-refused state refused rest t = let less : 126 < stmt_depth t.0 - 1 = refused (line.Stmt t.0) rest t.1 in let within = t.2 in absurd (omega arith)

pub statement-less : (tokens left : List Token) → StatementTo (map piece_of tokens) (map piece_of left) → length left < length tokens
statement-less tokens left s = shorter-tokens tokens left (statement-shorter (map piece_of tokens) (map piece_of left) s)

-- Attributes of the file.

pub inner-found : (state : State) (x : InnerAttribute) (rest : State) → inner_at state ≡ Some (x, rest) → Stands (inner_row x) state rest × IsInner x
inner-found state x rest read = inner-sound state x rest read

pub inner-aligned : (state : State) (x : InnerAttribute) (rest : State) → inner_at state ≡ Some (x, rest) → IsSuffix state rest
inner-aligned state x rest read = inner-suffix state state x rest (inner-sound state x rest read).0 (whole-tail state)

pub inner-none : (state : State) → inner_at state ≡ None → NoneTo (InnerTo state)
inner-none state none rest x = nothing (inner_at state) (x.0, rest) none (inner-complete state x.0 rest x.2 x.1)

pub inner-less : (tokens left : List Token) (x : InnerAttribute) → Stands (inner_row x) (map piece_of tokens) (map piece_of left) → length left < length tokens
inner-less tokens left x h = shorter-tokens tokens left (inner-shorter (map piece_of tokens) x (map piece_of left) h)

-- Items.

pub item-found : (state : State) (x : Item) (rest : State) → item_at 127 state ≡ Some (x, rest) → capped (item_depth x) ≤ 128 → IsItemAt state x rest × (item_depth x ≤ 128)
item-found state x rest read told = (item-sound 127 state x rest read, told-within (item_depth x) 128 told (omega arith))

pub item-aligned : (state : State) (x : Item) (rest : State) → item_at 127 state ≡ Some (x, rest) → IsSuffix state rest
item-aligned state x rest read = item-suffix state state x rest (item-sound 127 state x rest read) (whole-tail state)

pub item-deep : (state : State) (x : Item) (rest : State) → item_at 127 state ≡ Some (x, rest) → 128 < capped (item_depth x) → NoneTo (ItemTo state)
item-deep state x rest read deep other y =
    let same = item-one state y.0 other x rest y.1 (item-sound 127 state x rest read) in
    told-deep (item_depth x) 128 deep (subst (λ z. item_depth z ≤ 128) same.0 y.2)

pub item-none : (state : State) → item_at 127 state ≡ None → NoneTo (ItemTo state)
item-none state none rest y = nothing (item_at 127 state) (y.0, rest) none (item-complete state y.0 rest y.1 127 y.2)

pub item-less : (tokens left : List Token) (x : Item) → IsItemAt (map piece_of tokens) x (map piece_of left) → length left < length tokens
item-less tokens left x is = shorter-tokens tokens left (item-shorter (map piece_of tokens) x (map piece_of left) is)

-- The same of the tokens that are left.

pub branch-whole : (depth : ℕ) (state : State) (at : Span) (a b rest : State) → keyword_at keyword_of.If state ≡ Some (at, a) → ConditionTo depth a b → BlockTo depth b rest → IsSuffix state rest
branch-whole depth state at a b rest read condition body = branch-aligned depth state rest (branch-found depth state at a b rest read condition body)

pub branch-left : (depth : ℕ) (state : State) (at : Span) (a b rest : State) (left : List Token) → keyword_at keyword_of.If state ≡ Some (at, a) → ConditionTo depth a b → BlockTo depth b rest
    → map piece_of left ≡ rest → BranchTo depth state (map piece_of left)
branch-left depth state at a b rest left read condition body same = subst (λ s. BranchTo depth state s) (sym same) (branch-found depth state at a b rest read condition body)

pub else-left : (state : State) (word : Span) (rest : State) (left : List Token) → keyword_at keyword_of.Else state ≡ Some (word, rest) → map piece_of left ≡ rest → ElseTo state (map piece_of left)
else-left state word rest left read same = subst (λ s. ElseTo state s) (sym same) (else-found state word rest read)

pub statement-left : (state : State) (s : Stmt) (rest : State) (left : List Token) → IsLineAt state (line.Stmt s) rest → capped (stmt_depth s) ≤ 127 → map piece_of left ≡ rest → StatementTo state (map piece_of left)
statement-left state s rest left is told same = subst (λ z. StatementTo state z) (sym same) (statement-found state s rest is told)

pub statement-fewer : (tokens : List Token) (s : Stmt) (rest : State) (left : List Token) → IsLineAt (map piece_of tokens) (line.Stmt s) rest → capped (stmt_depth s) ≤ 127 → map piece_of left ≡ rest → length left < length tokens
statement-fewer tokens s rest left is told same = statement-less tokens left (statement-left (map piece_of tokens) s rest left is told same)

pub inner-left : (state : State) (x : InnerAttribute) (rest : State) (left : List Token) → inner_at state ≡ Some (x, rest) → map piece_of left ≡ rest → Stands (inner_row x) state (map piece_of left) × IsInner x
inner-left state x rest left read same = subst (λ s. Stands (inner_row x) state s × IsInner x) (sym same) (inner-found state x rest read)

pub inner-fewer : (tokens : List Token) (x : InnerAttribute) (rest : State) (left : List Token) → inner_at (map piece_of tokens) ≡ Some (x, rest) → map piece_of left ≡ rest → length left < length tokens
inner-fewer tokens x rest left read same = inner-less tokens left x (inner-left (map piece_of tokens) x rest left read same).0

pub item-left : (state : State) (x : Item) (rest : State) (left : List Token) → item_at 127 state ≡ Some (x, rest) → capped (item_depth x) ≤ 128 → map piece_of left ≡ rest
    → IsItemAt state x (map piece_of left) × (item_depth x ≤ 128)
item-left state x rest left read told same = subst (λ s. IsItemAt state x s × (item_depth x ≤ 128)) (sym same) (item-found state x rest read told)

pub item-fewer : (tokens : List Token) (x : Item) (rest : State) (left : List Token) → item_at 127 (map piece_of tokens) ≡ Some (x, rest) → capped (item_depth x) ≤ 128 → map piece_of left ≡ rest → length left < length tokens
item-fewer tokens x rest left read told same = item-less tokens left x (item-left (map piece_of tokens) x rest left read told same).0

pub ruleset behinds = (behind-less, behind-same)

pub ruleset conditions = (condition-found, condition-deep, condition-refused)

pub ruleset blocks = (block-found, block-deep, block-refused)

pub ruleset branches = (branch-whole, branch-left, branch-wordless, branch-conditionless, branch-blockless)

pub ruleset elses = (else-left, else-aligned, else-none)

pub ruleset statements = (statement-left, statement-fewer, statement-aligned, statement-deep, statement-last, statement-refused)

pub ruleset inners = (inner-left, inner-fewer, inner-aligned, inner-none)

pub ruleset items = (item-left, item-fewer, item-aligned, item-deep, item-none)

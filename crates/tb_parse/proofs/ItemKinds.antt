-- Items without their attributes: what is read stands there, and what stands there is read.
use Rattle.std.proofs.Common.{◌≡◌, ℕ, suc, ◌<◌, ◌≤◌, max, true, false, List, [], ◌∷◌, ◌++◌, map, length, Some, None, refl, subst, inl, inr, arith}
use Rattle.tb_lex.specs.declared.keyword.Keyword.TheVariants as keyword_of
use Rattle.tb_lex.specs.declared.punctuation.Punctuation.TheVariants.{OpenParen, CloseParen, OpenBrace, CloseBrace, Comma, Semicolon, Pound}
use Rattle.tb_ast.specs.declared.piece.Piece.{Piece}
use Rattle.tb_ast.specs.declared.item.Use.{Use}
use Rattle.tb_ast.specs.declared.item.Struct.{Struct}
use Rattle.tb_ast.specs.declared.item.Function.{Function}
use Rattle.tb_ast.specs.declared.item.ExternBlock.{ExternBlock}
use Rattle.tb_ast.specs.declared.item.ItemKind.{ItemKind}
use Rattle.tb_ast.specs.declared.item.ItemKind.TheVariants as item
use Rattle.tb_ast.specs.declared.expression.Block.{Block}
use Rattle.tb_ast.specs.Pieces.{punct, ident, text_piece, separated, in_order, path_pieces}
use Rattle.tb_ast.specs.Files.{group_row, lifetimes_row, member_row, generics_row, parameter_row, optional_result, foreign_row}
use Rattle.tb_ast.specs.Depth.{deepest, kind_depth, block_depth, parameter_depth, result_depth}
use Rattle.tb_ast.specs.Expressions.{block_pieces}
use Rattle.tb_syntax.specs.declared.heads.FunctionHead.{FunctionHead}
use Rattle.tb_syntax.specs.State.{State}
use Rattle.tb_syntax.specs.Marks.{has_mark}
use Rattle.tb_syntax.specs.Leaves.{has_keyword}
use Rattle.tb_syntax.specs.Items.{use_at, struct_at, head_at, extern_at}
use Rattle.tb_syntax.proofs.Options.{bind_some, chosen, some_is}
use Rattle.tb_syntax.proofs.Chains.{stands-shrinks}
use Rattle.tb_syntax.proofs.Itemized.{use-sound, use-complete, struct-sound, struct-complete}
use Rattle.tb_syntax.proofs.Headed.{head-sound, head-complete, extern-sound, extern-complete}
use Rattle.tb_expr.specs.Exprs.{block_at}
use Rattle.tb_parse.specs.Files.{function_of, function_at, begins_extern, kind_at}
use Rattle.tb_parse.specs.Trees.{IsKindAt, AUse, AStruct, AnExtern, AFunction}
use Rattle.tb_expr.proofs.SoundAll.{block-sound}
use Rattle.tb_expr.proofs.CompleteAll.{block-complete}
use Rattle.tb_expr.proofs.Spelled.{block-spelled}
use Rattle.tb_parse.proofs.Within.{first-within, second-within, struct-within, extern-within, head-within}
use Rattle.tb_parse.proofs.Firsts.{keyword-has, front-no-pound, front-shorter, front-no-word, begins-extern, begins-no-extern}

-- What is read.

function-sound : (depth : ℕ) (state : State) (function : Function) (rest : State) → function_at depth state ≡ Some (function, rest) → IsKindAt state (item.Function function) rest
unfolding function_at
function-sound depth state function rest e =
    let head = bind_some (head_at (suc depth) state) _ (function, rest) e in
    let body = bind_some (block_at depth head.0.1) _ (function, rest) head.2 in
    let taken = head-sound (suc depth) state head.0 head.1 in
    let is : Function × State → Type 0 = λ y. IsKindAt state (item.Function y.0) y.1 in
    subst is (some_is (function_of head.0.0 body.0.0, body.0.1) (function, rest) body.2)
    (AFunction head.0.0 (suc depth) body.0.0 head.0.1 taken.0 taken.1 taken.2 (block-sound depth head.0.1 body.0.0 body.0.1 body.1))

pub kind-sound : (depth : ℕ) (state : State) (k : ItemKind) (rest : State) → kind_at depth state ≡ Some (k, rest) → IsKindAt state k rest
unfolding kind_at
kind-sound depth state k rest e =
    let is : ItemKind × State → Type 0 = λ y. IsKindAt state y.0 y.1 in
    elim (chosen (has_keyword keyword_of.Use state) _ _ (k, rest) e) [
      | inl a ↦
          let x = bind_some (use_at state) _ (k, rest) a.1 in
          let t = use-sound state x.0.0 x.0.1 x.1 in
          subst is (some_is (item.Use x.0.0, x.0.1) (k, rest) x.2) (AUse x.0.0 t.0 t.1)
      | inr a ↦
          elim (chosen (has_keyword keyword_of.Struct state) _ _ (k, rest) a.1) [
            | inl b ↦
                let x = bind_some (struct_at (suc depth) state) _ (k, rest) b.1 in
                let t = struct-sound (suc depth) state x.0.0 x.0.1 x.1 in
                subst is (some_is (item.Struct x.0.0, x.0.1) (k, rest) x.2) (AStruct x.0.0 (suc depth) t.0 t.1)
            | inr b ↦
                elim (chosen (begins_extern state) _ _ (k, rest) b.1) [
                  | inl c ↦
                      let x = bind_some (extern_at (suc depth) state) _ (k, rest) c.1 in
                      let t = extern-sound (suc depth) state x.0.0 x.0.1 x.1 in
                      subst is (some_is (item.Extern x.0.0, x.0.1) (k, rest) x.2) (AnExtern x.0.0 (suc depth) t.0 t.1)
                  | inr c ↦
                      let x = bind_some (function_at depth state) _ (k, rest) c.1 in
                      subst is (some_is (item.Function x.0.0, x.0.1) (k, rest) x.2) (function-sound depth state x.0.0 x.0.1 x.1)
                ]
          ]
    ]

-- What stands there.

abbrev use_behind : Use → List Piece
use_behind u = path_pieces u.path ++ (group_row u.group ++ punct Semicolon u.semicolon ∷ [])

abbrev struct_behind : Struct → List Piece
struct_behind s = ident s.name ∷ (lifetimes_row s.lifetimes ++ (punct OpenBrace s.opening ∷ (separated Comma (map member_row s.fields) s.commas ++ punct CloseBrace s.closing ∷ [])))

abbrev pub extern_behind : ExternBlock → List Piece
extern_behind block = text_piece block.abi ∷ punct OpenBrace block.opening ∷ (in_order (map foreign_row block.functions) ++ punct CloseBrace block.closing ∷ [])

abbrev pub head_behind : FunctionHead → List Piece
head_behind head = ident head.name ∷ (generics_row head.generics ++ (punct OpenParen head.opening ∷ (separated Comma (map parameter_row head.parameters) head.commas ++ (punct CloseParen head.closing ∷ optional_result head.result))))

pub kind-no-pound : (state : State) (k : ItemKind) (rest : State) → IsKindAt state k rest → has_mark Pound state ≡ false
kind-no-pound state k rest (AUse u stands is) = front-no-pound keyword_of.Use (use_behind u) u.use_keyword None state rest stands
kind-no-pound state k rest (AStruct s depth stands is) = front-no-pound keyword_of.Struct (struct_behind s) s.struct_keyword None state rest stands
kind-no-pound state k rest (AnExtern block depth stands is) = front-no-pound keyword_of.Extern (extern_behind block) block.extern_keyword block.unsafe_keyword state rest stands
kind-no-pound state k rest (AFunction head depth body a stands is ends b) = front-no-pound keyword_of.Fn (head_behind head) head.fn_keyword head.unsafe_keyword state a stands

pub kind-shorter : (state : State) (k : ItemKind) (rest : State) → IsKindAt state k rest → length rest < length state
kind-shorter state k rest (AUse u stands is) = front-shorter keyword_of.Use (use_behind u) u.use_keyword None state rest stands
kind-shorter state k rest (AStruct s depth stands is) = front-shorter keyword_of.Struct (struct_behind s) s.struct_keyword None state rest stands
kind-shorter state k rest (AnExtern block depth stands is) = front-shorter keyword_of.Extern (extern_behind block) block.extern_keyword block.unsafe_keyword state rest stands
kind-shorter state k rest (AFunction head depth body a stands is ends b) =
    let first = front-shorter keyword_of.Fn (head_behind head) head.fn_keyword head.unsafe_keyword state a stands in
    let second = stands-shrinks (block_pieces body) a rest (block-spelled a body rest b) in
    omega arith

-- by which tests a kind is read
by-use : (depth : ℕ) (state : State) (u : Use) (rest : State) → has_keyword keyword_of.Use state ≡ true → use_at state ≡ Some (u, rest) → kind_at depth state ≡ Some (item.Use u, rest)
unfolding kind_at
by-use depth state u rest a e = rw a (rw e refl)

by-struct : (depth : ℕ) (state : State) (s : Struct) (rest : State) → has_keyword keyword_of.Use state ≡ false → has_keyword keyword_of.Struct state ≡ true
    → struct_at (suc depth) state ≡ Some (s, rest) → kind_at depth state ≡ Some (item.Struct s, rest)
unfolding kind_at
by-struct depth state s rest a b e = rw (a, b) (rw e refl)

by-extern : (depth : ℕ) (state : State) (block : ExternBlock) (rest : State) → has_keyword keyword_of.Use state ≡ false → has_keyword keyword_of.Struct state ≡ false → begins_extern state ≡ true
    → extern_at (suc depth) state ≡ Some (block, rest) → kind_at depth state ≡ Some (item.Extern block, rest)
unfolding kind_at
by-extern depth state block rest a b c e = rw (a, b) (rw c (rw e refl))

by-function : (depth : ℕ) (state : State) (function : Function) (rest : State) → has_keyword keyword_of.Use state ≡ false → has_keyword keyword_of.Struct state ≡ false → begins_extern state ≡ false
    → function_at depth state ≡ Some (function, rest) → kind_at depth state ≡ Some (item.Function function, rest)
unfolding kind_at
by-function depth state function rest a b c e = rw (a, b) (rw c (rw e refl))

function-complete : (depth : ℕ) (state : State) (head : FunctionHead) (body : Block) (middle rest : State) → head_at (suc depth) state ≡ Some (head, middle) → block_at depth middle ≡ Some (body, rest)
    → function_at depth state ≡ Some (function_of head body, rest)
unfolding function_at
function-complete depth state head body middle rest a b = rw a (rw b refl)

pub kind-complete : (state : State) (k : ItemKind) (rest : State) → IsKindAt state k rest → (depth : ℕ) → kind_depth k ≤ suc depth → kind_at depth state ≡ Some (k, rest)
kind-complete state k rest (AUse u stands is) depth e =
    by-use depth state u rest (keyword-has keyword_of.Use keyword_of.Use u.use_keyword state stands.0 stands.1) (use-complete state u rest is stands)
kind-complete state k rest (AStruct s n stands is) depth e =
    by-struct depth state s rest (keyword-has keyword_of.Struct keyword_of.Use s.struct_keyword state stands.0 stands.1) (keyword-has keyword_of.Struct keyword_of.Struct s.struct_keyword state stands.0 stands.1)
    (struct-complete (suc depth) state s rest (struct-within n (suc depth) s is e) stands)
kind-complete state k rest (AnExtern block n stands is) depth e =
    let no = front-no-word keyword_of.Extern (extern_behind block) block.extern_keyword block.unsafe_keyword in
    by-extern depth state block rest (front-no-word keyword_of.Extern (extern_behind block) block.extern_keyword block.unsafe_keyword keyword_of.Use state rest stands refl refl)
    (front-no-word keyword_of.Extern (extern_behind block) block.extern_keyword block.unsafe_keyword keyword_of.Struct state rest stands refl refl)
    (begins-extern (extern_behind block) block.extern_keyword block.unsafe_keyword state rest stands)
    (extern-complete (suc depth) state block rest (extern-within n (suc depth) block is e) stands)
kind-complete state k rest (AFunction head n body a stands is ends b) depth e =
    let ps = deepest (map parameter_depth head.parameters) in
    let heads = first-within (max ps (result_depth head.result)) (block_depth body) (suc depth) e in
    let deep = second-within (max ps (result_depth head.result)) (block_depth body) (suc depth) e in
    let within = head-within n (suc depth) head is (first-within ps (result_depth head.result) (suc depth) heads) (second-within ps (result_depth head.result) (suc depth) heads) in
    by-function depth state (function_of head body) rest (front-no-word keyword_of.Fn (head_behind head) head.fn_keyword head.unsafe_keyword keyword_of.Use state a stands refl refl)
    (front-no-word keyword_of.Fn (head_behind head) head.fn_keyword head.unsafe_keyword keyword_of.Struct state a stands refl refl)
    (begins-no-extern (head_behind head) head.fn_keyword head.unsafe_keyword state a stands)
    (function-complete depth state head body a rest (head-complete (suc depth) state head a within ends stands) (block-complete a body rest b depth deep))

-- What comes next: an expression, one with a block of its own, a macro, `raw` as a word.
use Rattle.std.specs.Prelude.{Bool, true, false, ◌&&◌, ◌||◌, Option, None, Some, codes}
use Rattle.tb_lex.specs.declared.keyword.Keyword.{Keyword}
use Rattle.tb_lex.specs.declared.keyword.Keyword.TheVariants as keyword_of
use Rattle.tb_lex.specs.declared.punctuation.Punctuation.{Punctuation}
use Rattle.tb_lex.specs.declared.punctuation.Punctuation.TheVariants as punct_of
use Rattle.tb_lex.specs.declared.token.TokenKind.{TokenKind}
use Rattle.tb_lex.specs.declared.token.TokenKind.TheVariants as kind
use Rattle.tb_lex.specs.declared.token.Token.{Token}
use Rattle.tb_ast.specs.declared.leaf.Mark.{Mark}
use Rattle.tb_syntax.specs.State.{State}
use Rattle.tb_syntax.specs.Marks.{first_mark, has_mark}
use Rattle.tb_syntax.specs.Leaves.{token_at, passes, is_name, word_at, has_keyword}

-- the mark at the front, or else the token there, is one of these
abbrev pub begins_with : (Punctuation → Bool) → (TokenKind → Bool) → Option (Punctuation × Mark × State) → Option (Token × State) → Bool
begins_with marks kinds (Some x) token = marks x.0
begins_with marks kinds None token = passes kinds token

abbrev pub mark_begins : Punctuation → Bool
mark_begins punct_of.OpenParen = true
mark_begins punct_of.OpenBracket = true
mark_begins punct_of.OpenBrace = true
mark_begins punct_of.Minus = true
mark_begins punct_of.Not = true
mark_begins punct_of.Star = true
mark_begins punct_of.And = true
mark_begins punct_of.AndAnd = true
mark_begins other = false

abbrev pub keyword_begins : Keyword → Bool
keyword_begins keyword_of.True = true
keyword_begins keyword_of.False = true
keyword_begins keyword_of.Unsafe = true
keyword_begins keyword_of.While = true
keyword_begins keyword_of.Loop = true
keyword_begins keyword_of.If = true
keyword_begins keyword_of.Return = true
keyword_begins keyword_of.Break = true
keyword_begins keyword_of.Continue = true
keyword_begins other = false

abbrev pub kind_begins : TokenKind → Bool
kind_begins (kind.Name name) = true
kind_begins (kind.Integer integer) = true
kind_begins (kind.Character character) = true
kind_begins (kind.Byte byte) = true
kind_begins (kind.Keyword word) = keyword_begins word
kind_begins other = false

-- an expression begins with what comes next
unfoldable pub begins_expr : State → Bool
begins_expr state = begins_with mark_begins kind_begins (first_mark state) (token_at state)

abbrev pub mark_blocks : Punctuation → Bool
mark_blocks punct_of.OpenBrace = true
mark_blocks other = false

abbrev pub keyword_blocks : Keyword → Bool
keyword_blocks keyword_of.Unsafe = true
keyword_blocks keyword_of.While = true
keyword_blocks keyword_of.Loop = true
keyword_blocks keyword_of.If = true
keyword_blocks other = false

abbrev pub kind_blocks : TokenKind → Bool
kind_blocks (kind.Keyword word) = keyword_blocks word
kind_blocks other = false

-- a block, an `unsafe` block, a `while`, a `loop` or an `if` comes next
unfoldable pub begins_blocky : State → Bool
begins_blocky state = begins_with mark_blocks kind_blocks (first_mark state) (token_at state)

-- a name with `!` behind it
abbrev pub is_banged : Option (Token × State) → Bool
is_banged None = false
is_banged (Some x) = is_name x.0.kind && has_mark punct_of.Not x.1

-- a macro comes next
unfoldable pub begins_macro : State → Bool
begins_macro state = is_banged (token_at state)

-- `const` or `mut` comes behind it
abbrev pub is_qualified : {A : Type 0} → Option (A × State) → Bool
is_qualified None = false
is_qualified (Some x) = has_keyword keyword_of.Const x.1 || has_keyword keyword_of.Mut x.1

-- `raw` comes next as a word, and not as a name: `const` or `mut` follows
unfoldable pub begins_raw : State → Bool
begins_raw state = is_qualified (word_at (codes "raw") state)

-- a text comes next
abbrev pub is_text : TokenKind → Bool
is_text (kind.Text text) = true
is_text other = false

unfoldable pub has_text : State → Bool
has_text state = passes is_text (token_at state)

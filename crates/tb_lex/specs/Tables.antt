-- How keywords, punctuation and suffixes are written, and which of them a word is.
use Rattle.std.specs.Prelude.{ℕ, ◌==◌, if◌then◌else◌, List, [], ◌∷◌, Option, None, Some, codes}
use Rattle.std.specs.Str.{bytes_eq}
use Rattle.tb_lex.specs.declared.keyword.Keyword.{Keyword}
use Rattle.tb_lex.specs.declared.keyword.Keyword.TheVariants as keyword
use Rattle.tb_lex.specs.declared.punctuation.Punctuation.{Punctuation}
use Rattle.tb_lex.specs.declared.punctuation.Punctuation.TheVariants as mark
use Rattle.tb_lex.specs.declared.suffix.Suffix.{Suffix}
use Rattle.tb_lex.specs.declared.suffix.Suffix.TheVariants as suffix

-- the first of these that is written as the word
abbrev pub first_written : {A : Type 0} → (A → List ℕ) → List A → List ℕ → Option A
first_written text [] word = None
first_written text (x ∷ xs) word = if bytes_eq word (text x) then Some x else first_written text xs word

-- what follows this word at the front of a text
abbrev pub strip : List ℕ → List ℕ → Option (List ℕ)
strip [] text = Some text
strip (expected ∷ word) [] = None
strip (expected ∷ word) (c ∷ text) = if c == expected then strip word text else None

-- the first of these that stands at the front of a text, and what follows it
abbrev pub first_standing : {A : Type 0} → (A → List ℕ) → List A → List ℕ → Option (A × List ℕ)
first_standing text [] front = None
first_standing text (x ∷ xs) front = elim (strip (text x) front) [
  | Some rest ↦ Some (x, rest)
  | None ↦ first_standing text xs front
]

-- how a keyword is written
abbrev pub keyword_text : Keyword → List ℕ
keyword_text keyword.As = codes "as"
keyword_text keyword.Break = codes "break"
keyword_text keyword.Const = codes "const"
keyword_text keyword.Continue = codes "continue"
keyword_text keyword.Else = codes "else"
keyword_text keyword.Extern = codes "extern"
keyword_text keyword.False = codes "false"
keyword_text keyword.Fn = codes "fn"
keyword_text keyword.If = codes "if"
keyword_text keyword.Let = codes "let"
keyword_text keyword.Loop = codes "loop"
keyword_text keyword.Mut = codes "mut"
keyword_text keyword.Return = codes "return"
keyword_text keyword.Struct = codes "struct"
keyword_text keyword.True = codes "true"
keyword_text keyword.Unsafe = codes "unsafe"
keyword_text keyword.Use = codes "use"
keyword_text keyword.While = codes "while"
keyword_text keyword.Async = codes "async"
keyword_text keyword.Await = codes "await"
keyword_text keyword.Crate = codes "crate"
keyword_text keyword.Dyn = codes "dyn"
keyword_text keyword.Enum = codes "enum"
keyword_text keyword.For = codes "for"
keyword_text keyword.Impl = codes "impl"
keyword_text keyword.In = codes "in"
keyword_text keyword.Match = codes "match"
keyword_text keyword.Mod = codes "mod"
keyword_text keyword.Move = codes "move"
keyword_text keyword.Pub = codes "pub"
keyword_text keyword.Ref = codes "ref"
keyword_text keyword.SelfValue = codes "self"
keyword_text keyword.SelfType = codes "Self"
keyword_text keyword.Static = codes "static"
keyword_text keyword.Super = codes "super"
keyword_text keyword.Trait = codes "trait"
keyword_text keyword.Type = codes "type"
keyword_text keyword.Where = codes "where"

-- all keywords
abbrev pub all_keywords : List Keyword
all_keywords =
    keyword.As ∷ keyword.Break ∷ keyword.Const ∷ keyword.Continue ∷ keyword.Else ∷
    keyword.Extern ∷ keyword.False ∷ keyword.Fn ∷ keyword.If ∷ keyword.Let ∷
    keyword.Loop ∷ keyword.Mut ∷ keyword.Return ∷ keyword.Struct ∷ keyword.True ∷
    keyword.Unsafe ∷ keyword.Use ∷ keyword.While ∷ keyword.Async ∷ keyword.Await ∷
    keyword.Crate ∷ keyword.Dyn ∷ keyword.Enum ∷ keyword.For ∷ keyword.Impl ∷
    keyword.In ∷ keyword.Match ∷ keyword.Mod ∷ keyword.Move ∷ keyword.Pub ∷
    keyword.Ref ∷ keyword.SelfValue ∷ keyword.SelfType ∷ keyword.Static ∷
    keyword.Super ∷ keyword.Trait ∷ keyword.Type ∷ keyword.Where ∷ []

-- the keyword that a word is, if it is one
unfoldable pub keyword_of : List ℕ → Option Keyword
keyword_of word = first_written keyword_text all_keywords word

-- how punctuation is written
abbrev pub punctuation_text : Punctuation → List ℕ
punctuation_text mark.ShlEq = codes "<<="
punctuation_text mark.ShrEq = codes ">>="
punctuation_text mark.PathSep = codes "::"
punctuation_text mark.Arrow = codes "->"
punctuation_text mark.Ne = codes "!="
punctuation_text mark.EqEq = codes "=="
punctuation_text mark.Le = codes "<="
punctuation_text mark.Shl = codes "<<"
punctuation_text mark.Ge = codes ">="
punctuation_text mark.Shr = codes ">>"
punctuation_text mark.PlusEq = codes "+="
punctuation_text mark.MinusEq = codes "-="
punctuation_text mark.StarEq = codes "*="
punctuation_text mark.SlashEq = codes "/="
punctuation_text mark.PercentEq = codes "%="
punctuation_text mark.AndAnd = codes "&&"
punctuation_text mark.AndEq = codes "&="
punctuation_text mark.OrOr = codes "||"
punctuation_text mark.OrEq = codes "|="
punctuation_text mark.CaretEq = codes "^="
punctuation_text mark.OpenParen = codes "("
punctuation_text mark.CloseParen = codes ")"
punctuation_text mark.OpenBracket = codes "["
punctuation_text mark.CloseBracket = codes "]"
punctuation_text mark.OpenBrace = codes "{"
punctuation_text mark.CloseBrace = codes "}"
punctuation_text mark.Comma = codes ","
punctuation_text mark.Semicolon = codes ";"
punctuation_text mark.Colon = codes ":"
punctuation_text mark.Dot = codes "."
punctuation_text mark.Pound = codes "#"
punctuation_text mark.Not = codes "!"
punctuation_text mark.Eq = codes "="
punctuation_text mark.Lt = codes "<"
punctuation_text mark.Gt = codes ">"
punctuation_text mark.Plus = codes "+"
punctuation_text mark.Minus = codes "-"
punctuation_text mark.Star = codes "*"
punctuation_text mark.Slash = codes "/"
punctuation_text mark.Percent = codes "%"
punctuation_text mark.And = codes "&"
punctuation_text mark.Or = codes "|"
punctuation_text mark.Caret = codes "^"

-- all punctuation, the longest first
abbrev pub all_punctuation : List Punctuation
all_punctuation =
    mark.ShlEq ∷ mark.ShrEq ∷ mark.PathSep ∷ mark.Arrow ∷ mark.Ne ∷ mark.EqEq ∷
    mark.Le ∷ mark.Shl ∷ mark.Ge ∷ mark.Shr ∷ mark.PlusEq ∷ mark.MinusEq ∷
    mark.StarEq ∷ mark.SlashEq ∷ mark.PercentEq ∷ mark.AndAnd ∷ mark.AndEq ∷
    mark.OrOr ∷ mark.OrEq ∷ mark.CaretEq ∷ mark.OpenParen ∷ mark.CloseParen ∷
    mark.OpenBracket ∷ mark.CloseBracket ∷ mark.OpenBrace ∷ mark.CloseBrace ∷
    mark.Comma ∷ mark.Semicolon ∷ mark.Colon ∷ mark.Dot ∷ mark.Pound ∷ mark.Not ∷
    mark.Eq ∷ mark.Lt ∷ mark.Gt ∷ mark.Plus ∷ mark.Minus ∷ mark.Star ∷ mark.Slash ∷
    mark.Percent ∷ mark.And ∷ mark.Or ∷ mark.Caret ∷ []

-- the longest punctuation at the front of a text, and what follows it
unfoldable pub punctuation_at : List ℕ → Option (Punctuation × List ℕ)
punctuation_at text = first_standing punctuation_text all_punctuation text

-- how a suffix is written
abbrev pub suffix_text : Suffix → List ℕ
suffix_text suffix.I8 = codes "i8"
suffix_text suffix.I16 = codes "i16"
suffix_text suffix.I32 = codes "i32"
suffix_text suffix.I64 = codes "i64"
suffix_text suffix.Isize = codes "isize"
suffix_text suffix.U8 = codes "u8"
suffix_text suffix.U16 = codes "u16"
suffix_text suffix.U32 = codes "u32"
suffix_text suffix.U64 = codes "u64"
suffix_text suffix.Usize = codes "usize"

-- all suffixes
abbrev pub all_suffixes : List Suffix
all_suffixes =
    suffix.I8 ∷ suffix.I16 ∷ suffix.I32 ∷ suffix.I64 ∷ suffix.Isize ∷ suffix.U8 ∷
    suffix.U16 ∷ suffix.U32 ∷ suffix.U64 ∷ suffix.Usize ∷ []

-- the suffix that a word is, if it is one
unfoldable pub suffix_of : List ℕ → Option Suffix
suffix_of word = first_written suffix_text all_suffixes word

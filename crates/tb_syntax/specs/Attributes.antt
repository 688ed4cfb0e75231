-- Reading attributes.
use Rattle.std.specs.Prelude.{◌≡◌, ℕ, Bool, false, if◌then◌else◌, List, Option, None, Some, codes}
use Rattle.std.specs.Str.{bytes_eq}
use Rattle.tb_lex.specs.declared.punctuation.Punctuation.TheVariants.{OpenParen, CloseParen, OpenBracket, CloseBracket, Pound, Not}
use Rattle.tb_lex.specs.declared.token.TokenKind.{TokenKind}
use Rattle.tb_lex.specs.declared.token.TokenKind.TheVariants as kind
use Rattle.tb_ast.specs.declared.leaf.Mark.{Mark}
use Rattle.tb_ast.specs.declared.item.InnerAttribute.{InnerAttribute}
use Rattle.tb_ast.specs.declared.item.Attribute.{Attribute}
use Rattle.tb_ast.specs.declared.item.Meta.{Meta}
use Rattle.tb_ast.specs.declared.item.Meta.TheVariants.{Allow, Derive, Repr as Represents}
use Rattle.tb_ast.specs.declared.item.Repr.{Repr}
use Rattle.tb_ast.specs.declared.item.WordList.{WordList}
use Rattle.tb_syntax.specs.Reading.{◌>>=◌}
use Rattle.tb_syntax.specs.State.{State}
use Rattle.tb_syntax.specs.Marks.{mark_at, punct_at, has_mark}
use Rattle.tb_syntax.specs.Leaves.{token_at, name_at, word_at, passes}
use Rattle.tb_syntax.specs.Lists.{IsListed, listed_at}
use Rattle.tb_syntax.specs.Paths.{from_to}
use Rattle.tb_syntax.specs.Repeats.{repeated_at}

abbrev pub is_word : List ℕ → TokenKind → Bool
is_word word (kind.Name name) = bytes_eq name.bytes word
is_word word other = false

unfoldable pub has_word : List ℕ → State → Bool
has_word word state = passes (is_word word) (token_at state)

-- a word, and words in parentheses
unfoldable pub words_at : List ℕ → State → Option (WordList × State)
words_at name state = do
  word ← word_at name state
  opening ← punct_at OpenParen word.1
  list ← listed_at name_at CloseParen opening.1
  closing ← punct_at CloseParen list.1
  Some (record { word = word.0; opening = opening.0; names = list.0.0; commas = list.0.1; closing = closing.0 }, closing.1)

unfoldable pub repr_at : State → Option (Repr × State)
repr_at state = do
  word ← word_at (codes "repr") state
  opening ← punct_at OpenParen word.1
  name ← name_at opening.1
  closing ← punct_at CloseParen name.1
  Some (record { word = word.0; opening = opening.0; name = name.0; closing = closing.0 }, closing.1)

unfoldable pub meta_at : State → Option (Meta × State)
meta_at state =
    if has_word (codes "allow") state then (words_at (codes "allow") state >>= λ x. Some (Allow x.0, x.1))
    else (if has_word (codes "derive") state then (words_at (codes "derive") state >>= λ x. Some (Derive x.0, x.1))
    else (repr_at state >>= λ x. Some (Represents x.0, x.1)))

-- `#![allow(word, ..)]`
unfoldable pub inner_at : State → Option (InnerAttribute × State)
inner_at state = do
  pound ← punct_at Pound state
  bang ← punct_at Not pound.1
  opening ← punct_at OpenBracket bang.1
  allow ← words_at (codes "allow") opening.1
  closing ← punct_at CloseBracket allow.1
  Some (record { span = from_to pound.0 closing.0; pound = pound.0; bang = bang.0; opening = opening.0; allow = allow.0; closing = closing.0 }, closing.1)

-- `#[meta]`
unfoldable pub attribute_at : State → Option (Attribute × State)
attribute_at state = do
  pound ← punct_at Pound state
  opening ← punct_at OpenBracket pound.1
  meta ← meta_at opening.1
  closing ← punct_at CloseBracket meta.1
  Some (record { span = from_to pound.0 closing.0; pound = pound.0; opening = opening.0; meta = meta.0; closing = closing.0 }, closing.1)

-- `#!` comes next
abbrev pub begins_bang : Option (Mark × State) → Bool
begins_bang None = false
begins_bang (Some x) = has_mark Not x.1

unfoldable pub has_inner : State → Bool
has_inner state = begins_bang (mark_at Pound state)

unfoldable pub inners_at : State → Option (List InnerAttribute × State)
inners_at state = repeated_at has_inner inner_at state

unfoldable pub attributes_at : State → Option (List Attribute × State)
attributes_at state = repeated_at (has_mark Pound) attribute_at state

-- as they are written
abbrev pub IsWordList : WordList → Type 0
IsWordList list = IsListed list.names list.commas

abbrev pub IsMeta : Meta → Type 0
IsMeta (Allow list) = IsWordList list
IsMeta (Derive list) = IsWordList list
IsMeta (Represents repr) = Unit {0}

abbrev pub IsInner : InnerAttribute → Type 0
IsInner inner = (inner.span ≡ from_to inner.pound inner.closing) × IsWordList inner.allow

abbrev pub IsAttribute : Attribute → Type 0
IsAttribute attribute = (attribute.span ≡ from_to attribute.pound attribute.closing) × IsMeta attribute.meta

-- Reading names with a mark between them.
use Rattle.std.specs.Prelude.{◌≡◌, ◌+◌, Bool, false, not, ◌&&◌, List, [], ◌∷◌, length, Option, None, Some}
use Rattle.tb_perm.specs.declared.span.Span.{Span}
use Rattle.tb_lex.specs.declared.punctuation.Punctuation.{Punctuation}
use Rattle.tb_lex.specs.declared.punctuation.Punctuation.TheVariants.{PathSep}
use Rattle.tb_ast.specs.declared.leaf.Ident.{Ident}
use Rattle.tb_ast.specs.declared.leaf.Mark.{Mark}
use Rattle.tb_ast.specs.declared.leaf.Path.{Path}
use Rattle.tb_syntax.specs.Reading.{◌>>=◌}
use Rattle.tb_syntax.specs.State.{State}
use Rattle.tb_syntax.specs.Marks.{mark_at}
use Rattle.tb_syntax.specs.Leaves.{name_at, has_name}
use Rattle.tb_syntax.specs.Lists.{Listed, list_at}

abbrev pub begins_name : Option (Mark × State) → Bool
begins_name None = false
begins_name (Some x) = not x.0.glued && has_name x.1

-- this mark comes next, and then a name
unfoldable pub goes_on : Punctuation → State → Bool
goes_on mark state = begins_name (mark_at mark state)

-- one name or more, as many as there are
unfoldable pub names_at : Punctuation → State → Option (Listed Ident × State)
names_at mark state = list_at (λ _. false) name_at (goes_on mark) mark (length state) state

-- from the first of these places to the last
abbrev pub from_to : Span → Span → Span
from_to first last = record { lo = first.lo; hi = last.hi }

abbrev pub last_of : Span → List Ident → Span
last_of span [] = span
last_of span (name ∷ names) = last_of name.span names

abbrev pub names_span : List Ident → Span
names_span [] = record { lo = 0; hi = 0 }
names_span (name ∷ names) = from_to name.span (last_of name.span names)

unfoldable pub path_at : State → Option (Path × State)
path_at state = names_at PathSep state >>= λ x. Some (record { span = names_span x.0.0; segments = x.0.0; separators = x.0.1 }, x.1)

-- names with a mark between each two
abbrev pub AreNamed : List Ident → List Span → Type 0
AreNamed names marks = length marks + 1 ≡ length names

-- a path as it is written: one segment or more, and its place is theirs
abbrev pub IsPath : Path → Type 0
IsPath path = (path.span ≡ names_span path.segments) × AreNamed path.segments path.separators

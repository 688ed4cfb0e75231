-- How a report names a place of the source: by its line and its column, both from 1.
use Rattle.std.specs.Prelude.{ℕ, ◌+◌, ◌==◌, if◌then◌else◌, List, [], ◌∷◌, ◌++◌, take, count_by, codes}
use Rattle.std.specs.Fmt.{decimal}
use Rattle.tb_perm.specs.declared.span.Span.{Span}

-- one more than the line feeds before it
abbrev pub line_number : List ℕ → ℕ → ℕ
line_number source at = 1 + count_by (λ byte. byte == 10) (take at source)

-- how many bytes stand behind the last line feed, where this many stand behind the last one before
abbrev pub behind_feed : ℕ → List ℕ → ℕ
behind_feed count [] = count
behind_feed count (byte ∷ bytes) = behind_feed (if byte == 10 then 0 else count + 1) bytes

-- one more than the bytes behind the last line feed before it
abbrev pub column_number : List ℕ → ℕ → ℕ
column_number source at = 1 + behind_feed 0 (take at source)

abbrev pub place_text : List ℕ → ℕ → List ℕ
place_text source at = decimal (line_number source at) ++ codes ":" ++ decimal (column_number source at)

-- from where the span begins to where it ends
abbrev pub span_text : List ℕ → Span → List ℕ
span_text source span = place_text source span.lo ++ codes "-" ++ place_text source span.hi

-- Paths as lists of words, and as texts.
use Rattle.std.specs.Prelude.{ℕ, if◌then◌else◌, ◌||◌, List, [], ◌∷◌, ◌++◌, map, fold, codes}
use Rattle.std.specs.Str.{bytes_eq}
use Rattle.tb_ast.specs.declared.leaf.Ident.{Ident}
use Rattle.tb_names.specs.Names.{name_of}

abbrev pub Words : Type 0
Words = List (List ℕ)

abbrev pub words_of : List Ident → Words
words_of idents = map name_of idents

-- one more word behind a text
abbrev pub followed : List ℕ → List ℕ → List ℕ
followed [] word = word
followed text word = text ++ (codes "::" ++ word)

-- the words, with `::` between them
abbrev pub spelled : Words → List ℕ
spelled words = fold followed [] words

-- what stands behind `std::` or `core::`, where the path begins so
abbrev pub unrooted : Words → Words
unrooted [] = []
unrooted (word ∷ words) = if bytes_eq word (codes "std") || bytes_eq word (codes "core") then words else word ∷ words

-- what stands behind `alloc::`, and nothing where the path does not begin so
abbrev pub behind_alloc : Words → Words
behind_alloc [] = []
behind_alloc (word ∷ words) = if bytes_eq word (codes "alloc") then words else []

-- what stands behind `alloc::` or `std::alloc::`
abbrev pub in_alloc : Words → Words
in_alloc [] = []
in_alloc (word ∷ words) = if bytes_eq word (codes "std") then behind_alloc words else behind_alloc (word ∷ words)

-- How many bytes parts of a text take.
use Rattle.std.proofs.Common.{◌≡◌, ℕ, ◌+◌, ◌≤◌, List, ◌++◌, take}
use Rattle.std.specs.Char.{len_utf8}
use Rattle.std.proofs.lemmas.List.Sums.{sum_by-append, sum_by-take-le}
use Rattle.tb_lex.specs.Characters.{width}

pub width-append : (piece rest : List ℕ) → width (piece ++ rest) ≡ width piece + width rest
width-append piece rest = sum_by-append len_utf8 piece rest

pub width-take : (text : List ℕ) (n : ℕ) → width (take n text) ≤ width text
width-take text n = sum_by-take-le len_utf8 text n

pub ruleset parts = (width-take)

-- Where comments end.
use Rattle.std.specs.Prelude.{ℕ, zero, suc, ◌+◌, if◌then◌else◌, List, [], ◌∷◌, Option, None, Some}
use Rattle.tb_lex.specs.Characters.{begins_pair}

-- behind the end of a comment at this depth: the whole comment ends, or the one around it goes on
abbrev pub ended : ℕ → List ℕ → (ℕ → Option (List ℕ)) → Option (List ℕ)
ended zero rest goes_on = Some rest
ended (suc depth) rest goes_on = goes_on depth

-- what follows a block comment behind its first `/*`, at this depth of comments within it; nothing
-- where it does not end
abbrev pub after_block : ℕ → List ℕ → Option (List ℕ)
after_block depth [] = None
after_block depth (c ∷ []) = None
after_block depth (c ∷ d ∷ rest) =
    if begins_pair 47 42 (c ∷ d ∷ rest) then after_block (depth + 1) rest
    else (if begins_pair 42 47 (c ∷ d ∷ rest) then ended depth rest (λ outer. after_block outer rest)
    else after_block depth (d ∷ rest))

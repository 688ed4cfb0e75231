-- One step in a block comment.
use Rattle.std.proofs.Common.{◌≡◌, ℕ, zero, suc, ◌+◌, ◌-◌, ◌<◌, ◌≤◌, true, false, List, [], ◌∷◌, length, Some, refl, ap, arith}
use Rattle.tb_lex.specs.Characters.{tail, begins_pair}
use Rattle.tb_lex.specs.Comments.{after_block}

pub opens : (depth : ℕ) (text : List ℕ) → begins_pair 47 42 text ≡ true → after_block depth text ≡ after_block (depth + 1) (tail (tail text))
opens depth [] e = absurd cc
opens depth (c ∷ []) e = absurd cc
opens depth (c ∷ d ∷ rest) e = rw e refl

pub closes : (depth : ℕ) (text : List ℕ) → begins_pair 47 42 text ≡ false → begins_pair 42 47 text ≡ true → 0 < depth → after_block depth text ≡ after_block (depth - 1) (tail (tail text))
closes depth [] f e h = absurd cc
closes depth (c ∷ []) f e h = absurd cc
closes zero (c ∷ d ∷ rest) f e h = absurd (omega arith)
closes (suc depth) (c ∷ d ∷ rest) f e h =
    let under : depth ≡ suc depth - 1 = omega arith in
    rw (f, e) (ap (λ (n : ℕ). after_block n rest) under)

pub ends : (depth : ℕ) (text : List ℕ) → begins_pair 47 42 text ≡ false → begins_pair 42 47 text ≡ true → depth ≡ 0 → after_block depth text ≡ Some (tail (tail text))
ends depth [] f e h = absurd cc
ends depth (c ∷ []) f e h = absurd cc
ends depth (c ∷ d ∷ rest) f e h = rw (h, f, e) refl

pub goes_on : (depth : ℕ) (text : List ℕ) → begins_pair 47 42 text ≡ false → begins_pair 42 47 text ≡ false → after_block depth text ≡ after_block depth (tail text)
goes_on depth [] f e = refl
goes_on depth (c ∷ []) f e = refl
goes_on depth (c ∷ d ∷ rest) f e = rw (f, e) refl

pub pair-long : (first second : ℕ) (text : List ℕ) → begins_pair first second text ≡ true → 2 ≤ length text
pair-long first second [] e = absurd cc
pair-long first second (c ∷ []) e = absurd cc
pair-long first second (c ∷ d ∷ rest) e = omega arith

pub ruleset steps = (opens, closes, ends, goes_on, pair-long)

-- What a clear takes away.
use Rattle.std.proofs.Common.{◌≡◌, ℕ, ◌+◌, ◌-◌, List, [], ◌∷◌, length, refl, sym, ap, ◌∙◌, arith}
use Rattle.std.specs.List.{range_with_len}
use Rattle.tb_perm.specs.declared.span.Span.{Span}
use Rattle.tb_mir.specs.declared.line.Line.TheVariants.{Clear}
use Rattle.tb_lower.specs.Lowering.{put, clear_lines, clears}
use Rattle.tb_lower.specs.Ways.{Shape, number, count}
use Rattle.tb_lower.proofs.Numbered.{numbers_are}

-- the temporaries of a part are those that were brought in since its start
pub clears_are : (start end : ℕ) (temps : List ℕ) (span : Span) (shape : Shape) → start + count shape ≡ end → temps ≡ range_with_len start (end - start) → clears (number start shape) span shape ≡ clear_lines span temps
clears_are start end temps span shape e is =
    let long : end - start ≡ count shape = omega arith in
    ap (clear_lines span) (numbers_are start shape ∙ sym (is ∙ ap (range_with_len start) long))

pub clears_none : (span : Span) (temps : List ℕ) → length temps ≡ 0 → clear_lines span temps ≡ []
clears_none span [] e = refl
clears_none span (temp ∷ temps) e = absurd (omega arith)

pub clears_some : (span : Span) (temps : List ℕ) → (length temps ≡ 0 → ⊥) → clear_lines span temps ≡ put (Clear temps) span ∷ []
clears_some span [] some = absurd (some refl)
clears_some span (temp ∷ temps) some = refl

-- The end of a block, and the whole source.
use Rattle.std.proofs.Common.{◌≡◌, ◌<◌, ◌≤◌, ◌+◌, ◌-◌, ℕ, List, [], ◌∷◌, ◌++◌, length, map, take, get_or, reverse, codes, sym, ap, ◌∙◌, arith, append_assoc}
use Rattle.std.proofs.lemmas.List.{take_more, reverse-append}
use Rattle.tb_perm.specs.declared.span.Span.{Span}
use Rattle.tb_small.specs.declared.tree.SmallTree.{SmallTree}
use Rattle.tb_mir.specs.Retags.{without_retags}
use Rattle.tb_mir.specs.declared.line.Line.TheVariants.{Dead}
use Rattle.tb_mir.specs.declared.line.MirLine.{MirLine}
use Rattle.tb_mir.specs.declared.mir.Mir.{Mir}
use Rattle.tb_mir.specs.declared.mir.Local.{Local}
use Rattle.tb_lower.specs.declared.lowering.Declared.{Declared}
use Rattle.tb_lower.specs.Lowering.{put, scope_end, main_shape, main_lines, lowered, Realises}
use Rattle.tb_lower.specs.Ways.{number, brings}
use Rattle.tb_lower.proofs.Bare.{lowered_bare}

-- of the variables up to a place the last ends first
pub ends_more : (span : Span) (variables : List Declared) (i : ℕ) (v d : Declared) → i < length variables → v ≡ get_or variables i d
    → scope_end span (take (i + 1) variables) ≡ put (Dead v.local) span ∷ scope_end span (take i variables)
ends_more span variables i v d less is =
    ap (λ l. map (λ variable. put (Dead variable.local) span) (reverse l)) (take_more variables i d less ∙ ap (λ x. take i variables ++ x ∷ []) (sym is))
    ∙ ap (λ l. map (λ variable. put (Dead variable.local) span) l) (reverse-append (take i variables) (v ∷ []))

-- one turn of the loop over them
pub ends_next : (span : Span) (variables : List Declared) (n : ℕ) (v : Declared) (before after : List MirLine) → 0 < n → n ≤ length variables → v ≡ get_or variables (n - 1) v
    → after ≡ before ++ put (Dead v.local) span ∷ [] → after ++ scope_end span (take (n - 1) variables) ≡ before ++ scope_end span (take n variables)
ends_next span variables n v before after some within is e =
    let next : n - 1 + 1 ≡ n = omega arith in
    ap (λ l. l ++ scope_end span (take (n - 1) variables)) e
    ∙ append_assoc before (put (Dead v.local) span ∷ []) (scope_end span (take (n - 1) variables))
    ∙ ap (λ l. before ++ l) (sym (ends_more span variables (n - 1) v v (omega arith) is) ∙ ap (λ i. scope_end span (take i variables)) next)

-- what is lowered in one go realises the source
pub realised : (tree : SmallTree) (mir : Mir) (lines : List MirLine) (locals : List Local)
    → mir ≡ record { funcs = record { name = codes "main"; params = []; locals = locals; blocks = record { lines = lines } ∷ [] } ∷ [] }
    → lines ≡ main_lines (number 0 (main_shape tree)) tree → locals ≡ brings (main_shape tree) → Realises tree mir
realised tree mir lines locals is emitted brought =
    let whole : mir ≡ lowered tree = is ∙ ap (λ l. record { funcs = record { name = codes "main"; params = []; locals = locals; blocks = record { lines = l } ∷ [] } ∷ [] }) emitted
    ∙ ap (λ l. record { funcs = record { name = codes "main"; params = []; locals = l; blocks = record { lines = main_lines (number 0 (main_shape tree)) tree } ∷ [] } ∷ [] }) brought in
    ap without_retags whole ∙ lowered_bare tree

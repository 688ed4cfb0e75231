-- A source has one program.
use Rattle.std.proofs.Common.{◌≡◌, sym, ap, ◌∙◌}
use Rattle.tb_mir.specs.Retags.{with_retags}
use Rattle.tb_mir.specs.declared.mir.Mir.{Mir}
use Rattle.tb_small.specs.declared.tree.SmallTree.{SmallTree}
use Rattle.tb_top.specs.Program.{IsProgram}

pub one_program : (tree : SmallTree) (a b : Mir) → IsProgram tree a → IsProgram tree b → a ≡ b
one_program tree a b p q = p.retags ∙ ap with_retags (p.realised ∙ sym q.realised) ∙ sym q.retags

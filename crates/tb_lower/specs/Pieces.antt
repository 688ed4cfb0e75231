-- Words of the clauses by which the lowering is proved: what was lowered so far, and pieces of rules.
use Rattle.std.specs.Prelude.{List, [], ◌∷◌, ◌++◌, vec_len}
use Rattle.tb_small.specs.declared.tree.Assign.{Assign}
use Rattle.tb_small.specs.declared.tree.Atom.{Atom}
use Rattle.tb_mir.specs.declared.line.Line.TheVariants.{Set, Store}
use Rattle.tb_mir.specs.declared.line.MirLine.{MirLine}
use Rattle.tb_mir.specs.declared.mir.Ty.{Ty}
use Rattle.tb_mir.specs.declared.mir.Ty.TheVariants.{Int32}
use Rattle.tb_mir.specs.declared.operand.BinOp.TheVariants.{Add}
use Rattle.tb_mir.specs.declared.operand.Operand.{Operand}
use Rattle.tb_mir.specs.declared.operand.Rvalue.TheVariants.{Binary}
use Rattle.tb_lower.specs.declared.lowering.Declared.{Declared}
use Rattle.tb_lower.specs.declared.lowering.Lowering.{Lowering}
use Rattle.tb_lower.specs.Lowering.{put, temp, types_of, from_to, atom_shape, atom_lines, atom_operand, right_lines, right_operand, spot_lines, spot_place, assign_span}
use Rattle.tb_lower.specs.Ways.{Shape, End, Own, Part, Naming, under, own, number}

-- the types of the variables so far
abbrev pub types : Lowering → List Ty
types lowering = types_of lowering.variables.items

-- the names of a part that is lowered next
abbrev pub names : Lowering → Shape → Naming
names lowering shape = number (vec_len lowering.locals) shape

-- a further atom of a sum, and its addition to what stands to the left of it
abbrev pub addition_shape : List Ty → Atom → Shape
addition_shape types atom = Part (atom_shape types atom) (Own (temp Int32) End)

abbrev pub addition_lines : Naming → List Declared → Atom → Operand → Atom → List MirLine
addition_lines at variables first left atom =
    atom_lines (under at 0) variables atom
    ++ put (Set (own at 1) (Binary Add left (atom_operand (under at 0) atom))) (from_to first atom) ∷ []

-- an assignment without what it takes away at its end
abbrev pub store_lines : Naming → List Declared → Assign → List MirLine
store_lines at variables assign =
    right_lines (under at 0) variables assign.value
    ++ (spot_lines (under at 1) variables assign.target
    ++ put (Store (spot_place (under at 1) variables assign.target) (right_operand (under at 0) assign.value)) (assign_span assign) ∷ [])

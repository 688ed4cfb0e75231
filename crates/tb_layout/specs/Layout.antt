-- The layout of a type.
use Rattle.std.specs.Prelude.{ℕ, ◌+◌, List, [], ◌∷◌, map}
use Rattle.tb_types.specs.declared.shape.Ty.{Ty}
use Rattle.tb_types.specs.declared.shape.TyShape.{TyShape}
use Rattle.tb_types.specs.declared.shape.TyShape.TheVariants.{Tuple, Struct}
use Rattle.tb_types.specs.Table.{TypeTable}
use Rattle.tb_types.specs.Folded.{Node, node_of}
use Rattle.tb_types.specs.declared.extent.Extent.{Extent}
use Rattle.tb_layout.specs.declared.answer.Layout.{Layout}
use Rattle.tb_types.specs.Extent.{rounded, extent_of}

-- where parts begin that are laid one behind another from an end on
abbrev pub places : ℕ → List Extent → List ℕ
places end [] = []
places end (part ∷ parts) = rounded end part.align ∷ places (rounded end part.align + part.size) parts

-- the offsets of the parts of a tuple and of the fields of a struct
abbrev pub offsets_in : TyShape → List Extent → List ℕ
offsets_in (Tuple parts) below = places 0 below
offsets_in (Struct item) below = places 0 below
offsets_in shape below = []

abbrev pub offsets_by : TypeTable → Node → List ℕ
offsets_by types node = offsets_in node.shape (map (extent_of types) node.parts)

abbrev pub layout_of : TypeTable → Ty → Layout
layout_of types ty = record { size = (extent_of types ty).size; align = (extent_of types ty).align; fields = offsets_by types (node_of types ty) }

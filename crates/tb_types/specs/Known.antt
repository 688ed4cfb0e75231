-- What is kept of each type: its facts, whether its tree is plain, and its extent, with counts that stand still at the top.
use Rattle.std.specs.Prelude.{◌≡◌, ℕ, ◌<◌, List, [], map, length, slice_index_or, if◌then◌else◌}
use Rattle.tb_types.specs.declared.shape.Ty.{Ty}
use Rattle.tb_types.specs.declared.shape.TyShape.{TyShape}
use Rattle.tb_types.specs.declared.facts.Facts.{Facts}
use Rattle.tb_types.specs.declared.extent.Extent.{Extent}
use Rattle.tb_types.specs.declared.known.Known.{Known}
use Rattle.tb_types.specs.Table.{TypeTable, IsType}
use Rattle.tb_types.specs.Trees.{is_plain, tree_of, UnitTree}
use Rattle.tb_types.specs.Folded.{Node, node_in, folded}
use Rattle.tb_types.specs.Facts.{beside, facts_by}
use Rattle.tb_types.specs.Extent.{extent_in, empty}
use Rattle.tb_types.specs.Capped.{capped, IsSmall}

abbrev pub facts_in_all : List Known → List Facts
facts_in_all below = map (λ (known : Known). known.facts) below

abbrev pub extents_in_all : List Known → List Extent
extents_in_all below = map (λ (known : Known). known.extent) below

abbrev pub known_by : Node → List Known → Known
known_by node below = record {
  facts = facts_by node (facts_in_all below);
  plain = is_plain node.tree;
  extent = capped (extent_in node.tree (extents_in_all below));
}

abbrev pub known_of : TypeTable → Ty → Known
known_of types ty = folded known_by types ty

abbrev pub none_known : Known
none_known = record { facts = beside []; plain = is_plain UnitTree; extent = empty }

abbrev pub known_at : List Known → Ty → Known
known_at known ty = slice_index_or known ty.0 none_known

abbrev pub fact_at : List Known → Ty → Facts
fact_at known ty = (known_at known ty).facts

abbrev pub extent_at : List Known → Ty → Extent
extent_at known ty = (known_at known ty).extent

abbrev pub IsWithin : List Known → Ty → Type 0
IsWithin known ty = ty.0 < length known

-- what is kept says of each type whether its tree is plain
abbrev pub ArePlain : TypeTable → List Known → Type 0
ArePlain types known = (ty : Ty) → IsType types ty → (known_at known ty).plain ≡ is_plain (tree_of types ty)

-- and each extent that is kept can be counted on
abbrev pub AreSmall : List Known → Type 0
AreSmall known = (ty : Ty) → IsWithin known ty → IsSmall (extent_at known ty)

-- what is kept of a type where each struct in it was defined, else what follows from its parts
abbrev pub renewed : TypeTable → List Known → ℕ → TyShape → Known
renewed types known at shape = if (fact_at known (record { 0 = at })).complete then known_at known (record { 0 = at }) else known_by (node_in types shape) (map (known_at known) (node_in types shape).parts)

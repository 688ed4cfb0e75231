-- That leaves stand one after another.
use Rattle.std.specs.Prelude.{ℕ, ◌≤◌, List, [], ◌∷◌}
use Rattle.tb_types.specs.Table.{TypeTable}
use Rattle.tb_layout.specs.declared.leaf.Leaf.{Leaf}
use Rattle.tb_value.specs.Copies.{leaf_end}

-- each leaf begins where the one before ends, or behind, and all lie between the two bytes
abbrev pub AreSpread : TypeTable → ℕ → ℕ → List Leaf → Type 0
AreSpread types lo hi [] = lo ≤ hi
AreSpread types lo hi (leaf ∷ leaves) = (lo ≤ leaf.at) × AreSpread types (leaf_end types leaf) hi leaves

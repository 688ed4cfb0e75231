-- What is true of the provenances whose guards go.
use Rattle.std.specs.Prelude.{◌≡◌, ◌≤◌, true, is_some, List, length}
use Rattle.tb_perm.specs.declared.tag.Prov.{Prov}
use Rattle.tb_perm.specs.Rows.{HasTag}
use Rattle.tb_alloc.specs.declared.allocation.Allocation.{Allocation}
use Rattle.tb_store.specs.Store.{live_at}
use Rattle.tb_forest.specs.Forest.{TreeRows, tree_at}

-- where its allocation is live, this has a tree, and the tag a row in it
abbrev pub IsThere : List Allocation → List TreeRows → Prov → Type 0
IsThere table trees prov = is_some (live_at table prov.alloc.0) ≡ true → (prov.alloc.0 ≤ length trees) × HasTag (tree_at trees prov.alloc.0).rows prov.tag.0

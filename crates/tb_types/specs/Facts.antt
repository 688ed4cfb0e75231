-- The tests of types: whether a type is Copy, is free of cells, holds something to retag, owns a box, has all of its structs, is sized.
use Rattle.std.specs.Prelude.{Bool, true, false, not, ◌&&◌, ◌||◌, List, Option, Some, None, is_some}
use Rattle.std.specs.List.{list_all, list_any}
use Rattle.tb_types.specs.declared.shape.Ty.{Ty}
use Rattle.tb_types.specs.declared.shape.TyShape.{TyShape}
use Rattle.tb_types.specs.declared.shape.TyShape.TheVariants.{Array, Struct, Ref, Raw, Boxed, Cell, UnsafeCell, Slice}
use Rattle.tb_types.specs.declared.item.Item.{Item}
use Rattle.tb_types.specs.declared.facts.Facts.{Facts}
use Rattle.tb_types.specs.Table.{TypeTable, fields_of}
use Rattle.tb_types.specs.Trees.{is_plain}
use Rattle.tb_types.specs.Folded.{Node, folded}

-- the facts of two parts side by side
abbrev pub joined : Facts → Facts → Facts
joined one other = record {
  copy = one.copy && other.copy;
  freeze = one.freeze && other.freeze;
  retag = one.retag || other.retag;
  owns_box = one.owns_box || other.owns_box;
  complete = one.complete && other.complete;
  sized = one.sized && other.sized;
}

-- of parts side by side: Copy, free of cells and complete where all are, with something to retag or a box where one has it
abbrev pub beside : List Facts → Facts
beside parts = record {
  copy = list_all (λ (part : Facts). part.copy) parts;
  freeze = list_all (λ (part : Facts). part.freeze) parts;
  retag = list_any (λ (part : Facts). part.retag) parts;
  owns_box = list_any (λ (part : Facts). part.owns_box) parts;
  complete = list_all (λ (part : Facts). part.complete) parts;
  sized = list_all (λ (part : Facts). part.sized) parts;
}

-- a struct is Copy where it derives it
abbrev pub derives_copy : Option Item → Bool
derives_copy None = false
derives_copy (Some item) = item.copy

-- and complete where it is defined
abbrev pub item_facts : Option Item → Facts → Facts
item_facts item below = record below { copy = derives_copy item; complete = is_some (fields_of item) && below.complete }

-- by shape and struct, by whether the tree is plain, and by the facts of what lies in it
abbrev pub facts_in : TyShape → Option Item → Bool → Facts → Facts
facts_in (Array part n) item plain below = record below { retag = false; owns_box = false }
facts_in (Struct number) item plain below = item_facts item below
facts_in (Ref mutable to) item plain below = record below { copy = not mutable; retag = true; sized = plain }
facts_in (Raw mutable to) item plain below = record below { sized = plain }
facts_in (Boxed part) item plain below = record below { copy = false; freeze = true; retag = true; owns_box = true }
facts_in (Cell part) item plain below = record below { copy = false; freeze = false; retag = false; owns_box = false }
facts_in (UnsafeCell part) item plain below = record below { copy = false; freeze = false; retag = false; owns_box = false }
facts_in (Slice part) item plain below = record below { copy = false; retag = false; owns_box = false; sized = false }
facts_in shape item plain below = below

abbrev pub facts_by : Node → List Facts → Facts
facts_by node below = facts_in node.shape node.item (is_plain node.tree) (beside below)

abbrev pub facts_of : TypeTable → Ty → Facts
facts_of types ty = folded facts_by types ty

-- the tests of a type
abbrev pub is_copy : TypeTable → Ty → Bool
is_copy types ty = (facts_of types ty).copy

abbrev pub is_freeze : TypeTable → Ty → Bool
is_freeze types ty = (facts_of types ty).freeze

abbrev pub holds_retag : TypeTable → Ty → Bool
holds_retag types ty = (facts_of types ty).retag

abbrev pub owns_box : TypeTable → Ty → Bool
owns_box types ty = (facts_of types ty).owns_box

-- each struct that lies in the type, other than behind a reference or raw pointer, is defined
abbrev pub is_complete : TypeTable → Ty → Bool
is_complete types ty = (facts_of types ty).complete

-- in the type, the fields that lie in it included, `[T]` stands directly behind a reference or raw pointer alone
abbrev pub is_sized : TypeTable → Ty → Bool
is_sized types ty = (facts_of types ty).sized

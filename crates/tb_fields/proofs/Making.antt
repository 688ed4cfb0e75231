-- Fields and rows of the graph, one after another, in a table of types that grows.
use Rattle.std.proofs.Common.{◌≡◌, ℕ, ◌+◌, ◌<◌, List, [], ◌∷◌, ◌++◌, drop, length, map, get_or, Some, None, Result, Ok, Err, OnOk, IfOk, refl, ap, subst, sym, ◌∙◌}
use Rattle.std.specs.List.{AllByRecursion}
use Rattle.std.proofs.lemmas.List.{append_assoc}
use Rattle.std.specs.Borrow.{Bor}
use Rattle.std.specs.declared.vec.Vec.{Vec}
use Rattle.std.specs.declared.alloc.Global.{Global}
use Rattle.tb_types.specs.declared.shape.Ty.{Ty}
use Rattle.tb_types.specs.declared.item.Field.{Field as TypeField}
use Rattle.tb_types.specs.declared.item.Item.{Item as TypeItem}
use Rattle.tb_types.specs.Table.{TypeTable, IsType, IsDeclared}
use Rattle.tb_types.specs.declared.shape.TyShape.{TyShape}
use Rattle.tb_types.specs.declared.shape.TyShape.TheVariants.{Tuple}
use Rattle.tb_types.specs.Trees.{TypeTree, UnitTree, trees_by, tree_in, tree_of}
use Rattle.tb_types.specs.Sound.{AreTypes}
use Rattle.tb_ast.specs.declared.item.Field.{Field}
use Rattle.tb_ast.specs.declared.item.Struct.{Struct}
use Rattle.tb_order.specs.Graph.{Graph, graph_of}
use Rattle.tb_lookup.specs.declared.file.Entry.{Entry}
use Rattle.tb_written.specs.Written.{Tree}
use Rattle.tb_written.specs.Kept.{Keeps, IsFound}
use Rattle.tb_written.proofs.Keeping.{kept_twice, next}
use Rattle.tb_fields.specs.Held.{structs_in, structs_in_all}
use Rattle.tb_fields.specs.Fields.{FieldOf, told_field, told_fields, or_unit, held_in, written_field, written_fields, told_structs, held_by}
use Rattle.tb_fields.specs.Defined.{IsMade, AreTyped, AreMade, AreMadeBefore, IsRow, AreBelow, AreRows, AreRowsBefore}
use Rattle.tb_fields.proofs.Completing.{all_both, declared_in}

-- the type that was found
pub made_found : (old new : TypeTable) (ty : Ty) (tree : Tree) → IsFound old new (Some ty) tree → IsMade old new ty (or_unit tree)
made_found old new ty tree is = record { kept = is.kept; is_type = is.is_type; means = ap or_unit is.means }

module _ (old new : TypeTable) (kept : Keeps old new) where
  typed_kept : (fields : List TypeField) → AreTyped old fields → AreTyped new fields
  typed_kept [] h = tt
  typed_kept (field ∷ fields) h = (kept.types field.ty h.0, typed_kept fields h.1)

  told_kept : (fields : List TypeField) → AreTyped old fields → told_fields new fields ≡ told_fields old fields
  told_kept [] h = refl
  told_kept (field ∷ fields) h =
      ap (λ (tree : TypeTree). record { name = field.name; tree = tree } ∷ told_fields new fields) (kept.trees field.ty h.0)
      ∙ ap (λ rest. told_field old field ∷ rest) (told_kept fields h.1)

  row_kept : (row : List ℕ) → AllByRecursion (IsDeclared old) row → AllByRecursion (IsDeclared new) row
  row_kept row h = subst (λ (items : List TypeItem). AllByRecursion (λ (number : ℕ). number < length items) row) (sym kept.items) h

  below_kept : (rows : List (Vec ℕ Global)) → AreBelow old rows → AreBelow new rows
  below_kept [] h = tt
  below_kept (row ∷ rows) h = (row_kept row.items h.0, below_kept rows h.1)

snoc : {X : Type 0} (P : X → Type 0) (xs : List X) (x : X) → AllByRecursion P xs → P x → AllByRecursion P (xs ++ x ∷ [])
snoc P xs x h k = all_both P xs (x ∷ []) h (k, tt)

told_more : (types : TypeTable) (fields : List TypeField) (field : TypeField) → told_fields types (fields ++ field ∷ []) ≡ told_fields types fields ++ told_field types field ∷ []
told_more types [] field = refl
told_more types (first ∷ fields) field = ap (λ rest. told_field types first ∷ rest) (told_more types fields field)

graph_more : (rows : List (Vec ℕ Global)) (row : Vec ℕ Global) → graph_of (rows ++ row ∷ []) ≡ graph_of rows ++ row.items ∷ []
graph_more [] row = refl
graph_more (first ∷ rows) row = ap (λ rest. first.items ∷ rest) (graph_more rows row)

-- one more field
pub field_made : (old new : TypeTable) (before after : List TypeField) (field : TypeField) (right : FieldOf) → AreTyped old before → IsMade old new field.ty right.tree → field.name ≡ right.name → after ≡ before ++ field ∷ [] → AreMade old new before after (right ∷ [])
field_made old new before after field right typed made name e = record {
  kept = made.kept;
  typed = subst (AreTyped new) (sym e) (snoc (λ (one : TypeField). IsType new one.ty) before field (typed_kept old new made.kept before typed) made.is_type);
  mean = ap (told_fields new) e ∙ told_more new before field ∙ ap (λ fields. fields ++ told_field new field ∷ []) (told_kept old new made.kept before typed)
      ∙ (λ i. told_fields old before ++ record { name = name i; tree = made.means i } ∷ []);
}

-- a field is passed
module _ (file : List Entry) where
  pub field_on : (first old new : TypeTable) (before after : List TypeField) (fields : List Field) (at : ℕ) (field : Field) (all : List FieldOf)
      → at < length fields → field ≡ get_or fields at field
      → AreMadeBefore first old before (written_fields file (drop at fields)) all
      → AreMade old new before after (written_field file field ∷ [])
      → AreMadeBefore first new after (written_fields file (drop (at + 1) fields)) all
  field_on first old new before after fields at field all inside is so made =
      let rest : List Field = drop (at + 1) fields in
      record {
        kept = kept_twice first old new so.kept made.kept;
        typed = made.typed;
        mean =
            ap (λ told. told ++ written_fields file rest) made.mean
            ∙ append_assoc (told_fields old before) (written_field file field ∷ []) (written_fields file rest)
            ∙ ap (λ list. told_fields old before ++ written_fields file list) (sym (next fields at field inside is))
            ∙ so.mean;
      }

  -- and a struct
  pub row_on : (first old new : TypeTable) (before after : List (Vec ℕ Global)) (structs : List (Bor Struct)) (at : ℕ) (one : Bor Struct) (all : Graph)
      → at < length structs → one ≡ get_or structs at one
      → AreRowsBefore first old before (map (held_by file) (told_structs (drop at structs))) all
      → AreRows old new before after (held_by file one.now ∷ [])
      → AreRowsBefore first new after (map (held_by file) (told_structs (drop (at + 1) structs))) all
  row_on first old new before after structs at one all inside is so rows =
      let rest : List (Bor Struct) = drop (at + 1) structs in
      record {
        kept = kept_twice first old new so.kept rows.kept;
        below = rows.below;
        are =
            ap (λ graph. graph ++ map (held_by file) (told_structs rest)) rows.are
            ∙ append_assoc (graph_of before) (held_by file one.now ∷ []) (map (held_by file) (told_structs rest))
            ∙ ap (λ list. graph_of before ++ map (held_by file) (told_structs list)) (sym (next structs at one inside is))
            ∙ so.are;
      }

-- the structs that lie in fields are declared
pub fields_in : (types : TypeTable) → AreTypes types → (fields : List TypeField) → AreTyped types fields → AllByRecursion (IsDeclared types) (held_in (told_fields types fields))
fields_in types sound [] h = tt
fields_in types sound (field ∷ fields) h =
    all_both (IsDeclared types) (structs_in (tree_of types field.ty)) (held_in (told_fields types fields)) (declared_in types sound field.ty h.0) (fields_in types sound fields h.1)

pub row_is : (old new : TypeTable) (fields : List TypeField) (right : List FieldOf) (row : List ℕ) → AreTypes new → AreMade old new [] fields right → row ≡ held_in (told_fields new fields) → IsRow old new row (held_in right)
row_is old new fields right row sound made e = record {
  kept = made.kept;
  is = e ∙ ap held_in made.mean;
  below = subst (AllByRecursion (IsDeclared new)) (sym e) (fields_in new sound fields made.typed);
}

-- one more row
pub row_made : (old new : TypeTable) (before after : List (Vec ℕ Global)) (row : Vec ℕ Global) (right : List ℕ) → AreBelow old before → IsRow old new row.items right → after ≡ before ++ row ∷ [] → AreRows old new before after (right ∷ [])
row_made old new before after row right below is e = record {
  kept = is.kept;
  below = subst (AreBelow new) (sym e) (snoc (λ (one : Vec ℕ Global). AllByRecursion (IsDeclared new) one.items) before row (below_kept old new is.kept before below) is.below);
  are = ap graph_of e ∙ graph_more before row ∙ ap (λ list. graph_of before ++ list ∷ []) is.is;
}

pub on_ok : {T E : Type 0} {A B : Type 0} (result : Result T E) → (A → B) → OnOk result A → OnOk result B
on_ok (Ok x) f h = f h
on_ok (Err e) f h = h

-- the structs of a tuple
pub tuple_structs : (tree : Ty → TypeTree) (shape : TyShape) (parts slice : List Ty) → shape ≡ Tuple parts → slice ≡ parts → structs_in_all (trees_by tree slice) ≡ structs_in (tree_in shape tree)
tuple_structs tree shape parts slice e s = ap (λ ps. structs_in_all (trees_by tree ps)) s ∙ sym (ap (λ (one : TyShape). structs_in (tree_in one tree)) e)

-- a type that depends on a type parameter counts as `()`
pub made_unit : {E : Type 0} (old middle new : TypeTable) (result : Result Ty E) (tree : Tree) → IsFound old middle None tree → OnOk result (Keeps middle new) → IfOk result (λ ty. IsType new ty) → IfOk result (λ ty. tree_of new ty ≡ UnitTree) → IfOk result (λ ty. IsMade old new ty (or_unit tree))
made_unit old middle new (Ok ty) tree is kept typed e = record { kept = kept_twice old middle new is.kept kept; is_type = typed; means = e ∙ ap or_unit is.means }
made_unit old middle new (Err error) tree is kept typed e = typed

-- From the declared structs of a file to those with their fields.
use Rattle.std.proofs.Common.{◌≡◌, ℕ, suc, zero, ◌<◌, Bool, true, List, [], ◌∷◌, ◌++◌, length, map, slice_get, Some, None, Result, Ok, Err, is_some, refl, ap, subst, sym, ◌∙◌, arith}
use Rattle.std.specs.List.{All, AllByRecursion}
use Rattle.std.specs.Option.{option_map}
use Rattle.std.specs.declared.vec.Vec.{Vec}
use Rattle.std.specs.declared.alloc.Global.{Global}
use Rattle.std.proofs.lemmas.Bool.{false≢true}
use Rattle.std.proofs.lemmas.List.{length-map}
use Rattle.std.proofs.lemmas.List.Elements.{All-nil, All-cons}
use Rattle.tb_types.specs.declared.item.Item.{Item as TypeItem}
use Rattle.tb_types.specs.Table.{TypeTable, IsDeclared, fields_of, fields_at}
use Rattle.tb_ast.specs.declared.item.Item.{Item}
use Rattle.tb_ast.specs.declared.item.ItemKind.{ItemKind}
use Rattle.tb_ast.specs.declared.item.ItemKind.TheVariants as item
use Rattle.tb_ast.specs.declared.item.Struct.{Struct}
use Rattle.tb_order.specs.Graph.{Graph, graph_of, held, is_among, Reaches, AreNodes}
use Rattle.tb_order.specs.Graph.Reaches.{Holds, Through}
use Rattle.tb_order.specs.Answer.{OrdersAll, HasNoCircle, IsLeastCircle}
use Rattle.tb_perm.specs.declared.span.Span.{Span}
use Rattle.tb_written.specs.Kept.{Keeps}
use Rattle.tb_fields.specs.declared.error.FieldError.{FieldError}
use Rattle.tb_fields.specs.declared.error.FieldError.TheVariants.{HoldsItself, Memory}
use Rattle.tb_lookup.specs.declared.file.Entry.{Entry}
use Rattle.tb_structs.specs.Structs.{items_by, derives_copy, declared_items}
use Rattle.tb_fields.specs.Fields.{structs_by, structs_of, struct_at, held_by, struct_graph, IsFirstCircle}
use Rattle.tb_fields.specs.Defined.{AreBelow, AreDefined, AreBlank, HasFields, HaveFields, Completes}
use Rattle.tb_fields.proofs.Defining.{grows_itself, grows_kept, grows_twice}

-- there are as many declared structs as structs
count_by : (copy : Bool) (kind : ItemKind) (rest : List TypeItem) (more : List Struct) → length rest ≡ length more → length (items_by copy kind ++ rest) ≡ length (structs_by kind ++ more)
count_by copy (item.Use use_item) rest more e = e
count_by copy (item.Struct struct_item) rest more e = omega arith
count_by copy (item.Function function) rest more e = e
count_by copy (item.Extern block) rest more e = e

count_of : (items : List Item) → length (declared_items items) ≡ length (structs_of items)
count_of [] = refl
count_of (one ∷ items) = count_by (derives_copy one.attributes) one.kind (declared_items items) (structs_of items) (count_of items)

-- and none of them has fields
blank_by : (copy : Bool) (kind : ItemKind) (rest : List TypeItem) → ((k : ℕ) → fields_of (slice_get rest k) ≡ None) → (k : ℕ) → fields_of (slice_get (items_by copy kind ++ rest) k) ≡ None
blank_by copy (item.Use use_item) rest h k = h k
blank_by copy (item.Struct struct_item) rest h zero = refl
blank_by copy (item.Struct struct_item) rest h (suc k) = h k
blank_by copy (item.Function function) rest h k = h k
blank_by copy (item.Extern block) rest h k = h k

blank_of : (items : List Item) (k : ℕ) → fields_of (slice_get (declared_items items) k) ≡ None
blank_of [] k = refl
blank_of (one ∷ items) k = blank_by (derives_copy one.attributes) one.kind (declared_items items) (blank_of items) k

module _ (file : List Entry) (types : TypeTable) (items : List Item) (blank : AreBlank types items) where
  pub graph_count : length types.items ≡ length (struct_graph file (structs_of items))
  graph_count =
      let e : length types.items ≡ suc (length (declared_items items)) = ap (λ (list : List TypeItem). length list) blank in
      let f : length (map (held_by file) (structs_of items)) ≡ length (structs_of items) = length-map (structs_of items) (held_by file) in
      let g : length (declared_items items) ≡ length (structs_of items) = count_of items in
      omega arith

  no_fields : (number : ℕ) (one : Struct) → struct_at (structs_of items) number ≡ Some one → fields_at types number ≡ None
  no_fields zero one e = cc
  no_fields (suc number) one e = ap (λ (list : List TypeItem). fields_of (slice_get list (suc number))) blank ∙ blank_of items number

  pub none_defined : AreDefined file types types (structs_of items) []
  none_defined = record {
    grows = grows_itself types;
    count = refl;
    layout = ap (λ (list : List TypeItem). is_some (fields_of (slice_get list 0))) blank;
    held = λ number h. absurd (false≢true h);
    fields = λ number one h e. absurd (false≢true h);
    blank = λ number one h e. no_fields number one e;
  }

-- the rows hold numbers of rows
all_of : {X : Type 0} (P : X → Type 0) (xs : List X) → AllByRecursion P xs → All P xs
all_of P [] h = All-nil P
all_of P (x ∷ xs) h = All-cons P x xs h.0 (all_of P xs h.1)

row_nodes : (count : ℕ) (types : TypeTable) → count ≡ length types.items → (row : List ℕ) → AllByRecursion (IsDeclared types) row → All (λ node. node < count) row
row_nodes count types e row h = subst (λ n. All (λ node. node < n) row) (sym e) (all_of (IsDeclared types) row h)

rows_nodes : (count : ℕ) (types : TypeTable) → count ≡ length types.items → (rows : List (Vec ℕ Global)) → AreBelow types rows → All (All (λ node. node < count)) (graph_of rows)
rows_nodes count types e [] h = All-nil (All (λ node. node < count))
rows_nodes count types e (row ∷ rows) h = All-cons (All (λ node. node < count)) row.items (graph_of rows) (row_nodes count types e row.items h.0) (rows_nodes count types e rows h.1)

pub are_nodes : (types : TypeTable) (rows : List (Vec ℕ Global)) → length (graph_of rows) ≡ length types.items → AreBelow types rows → AreNodes (graph_of rows)
are_nodes types rows e h = rows_nodes (length (graph_of rows)) types e rows h

-- a struct that reaches itself is one of the file
holds_some : (file : List Entry) (structs : List Struct) (number other : ℕ) → is_among other (held (struct_graph file structs) number) ≡ true → number < length (struct_graph file structs) → (one : Struct) × (struct_at structs number ≡ Some one)
holds_some file structs zero other h below = absurd (false≢true h)
holds_some file [] (suc number) other h below = absurd (omega arith)
holds_some file (first ∷ structs) (suc zero) other h below = (first, refl)
holds_some file (first ∷ structs) (suc (suc number)) other h below = holds_some file structs (suc number) other h (omega arith)

pub circle_struct : (file : List Entry) (structs : List Struct) (number other : ℕ) → Reaches (struct_graph file structs) number other → number < length (struct_graph file structs) → (one : Struct) × (struct_at structs number ≡ Some one)
circle_struct file structs number other (Holds _ _ h) below = holds_some file structs number other h below
circle_struct file structs number other (Through _ middle _ h rest) below = holds_some file structs number middle h below

-- all structs have their fields
pub all_have : (file : List Entry) (old new : TypeTable) (structs : List Struct) (numbers : List ℕ) → OrdersAll (struct_graph file structs) numbers → AreDefined file old new structs numbers → (number : ℕ) (one : Struct) → struct_at structs number ≡ Some one → HasFields file new number one
all_have file old new structs numbers order so number one e = so.fields number one (order.every number (below number structs e)) e
  where
    below : (n : ℕ) (list : List Struct) → struct_at list n ≡ Some one → n < length (struct_graph file list)
    below zero list e = cc
    below (suc n) [] e = cc
    below (suc zero) (s ∷ list) e = omega arith
    below (suc (suc n)) (s ∷ list) e = (let h : suc n < length (struct_graph file list) = below (suc n) list e in omega arith)

-- the answer of the order
module _ (file : List Entry) (structs : List Struct) (graph : Graph) (is : graph ≡ struct_graph file structs) where
  pub sorted : (old new : TypeTable) (numbers : List ℕ) → OrdersAll graph numbers → HasNoCircle graph → AreDefined file old new structs numbers → HasNoCircle (struct_graph file structs) × HaveFields file old new structs
  sorted old new numbers order none so = (
    subst HasNoCircle is none,
    record { grows = so.grows; fields = all_have file old new structs numbers (subst (λ (g : Graph). OrdersAll g numbers) is order) so },
  )

  pub circle_named : (number : ℕ) → IsLeastCircle graph number → number < length graph → (one : Struct) × (struct_at structs number ≡ Some one)
  circle_named number least below = circle_struct file structs number number (subst (λ (g : Graph). Reaches g number number) is least.0) (subst (λ (g : Graph). number < length g) is below)

  pub refused : (number : ℕ) (span : Span) → IsLeastCircle graph number → option_map (λ (one : Struct). one.name.span) (struct_at structs number) ≡ Some span → IsFirstCircle file structs span
  refused number span least e = record { number = number; least = subst (λ (g : Graph). IsLeastCircle g number) is least; place = e }

-- a table that grew by types alone is still blank
pub blank_kept : (items : List Item) (old new : TypeTable) → Keeps old new → AreBlank old items → AreBlank new items
blank_kept items old new kept blank = kept.items ∙ blank

-- and the answer of the table that was there before
pub have_before : {A : Type 0} (file : List Entry) (structs others : List Struct) (old middle new : TypeTable) (result : Result A FieldError) → others ≡ structs → Keeps old middle → Completes file others result (HaveFields file middle new others) → Completes file structs result (HaveFields file old new structs)
have_before file structs others old middle new result e kept h = by result (subst (λ list. Completes file list result (HaveFields file middle new list)) e h)
  where
    by : {A : Type 0} (result : Result A FieldError) → Completes file structs result (HaveFields file middle new structs) → Completes file structs result (HaveFields file old new structs)
    by (Ok x) h = (h.0, record { grows = grows_twice old middle new (grows_kept old middle kept) h.1.grows; fields = h.1.fields })
    by (Err (HoldsItself span)) h = h
    by (Err Memory) h = tt

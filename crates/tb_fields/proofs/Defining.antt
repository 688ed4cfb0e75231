-- The structs of a file get their fields, each after those that lie in it.
use Rattle.std.proofs.Common.{◌≡◌, ℕ, suc, zero, ◌<◌, Bool, true, false, List, [], ◌∷◌, ◌++◌, length, slice_get, slice_set, Option, Some, None, is_some, ⊎_elim, refl, ap, subst, sym, ◌∙◌, arith}
use Rattle.std.specs.List.{AllByRecursion}
use Rattle.std.specs.Option.{option_map}
use Rattle.std.proofs.lemmas.Bool.{false≢true, and_parts}
use Rattle.std.proofs.lemmas.Option.{slice_get_within}
use Rattle.tb_types.specs.declared.shape.TyShape.{TyShape}
use Rattle.tb_types.specs.declared.item.Field.{Field as TypeField}
use Rattle.tb_types.specs.declared.item.Item.{Item as TypeItem}
use Rattle.tb_types.specs.Table.{TypeTable, item_at, fields_of, fields_at, is_defined, with_fields, defining, IsKept, Extends}
use Rattle.tb_types.specs.Trees.{TypeTree, tree_of}
use Rattle.tb_types.specs.Sound.{AreTypes, IsField}
use Rattle.tb_types.proofs.CallerLemmas.{same_type}
use Rattle.tb_ast.specs.declared.item.Struct.{Struct}
use Rattle.tb_order.specs.Graph.{held, is_among, are_among, IsNext}
use Rattle.tb_order.proofs.Sets.{among_push, among_left, among_last}
use Rattle.tb_lookup.specs.declared.file.Entry.{Entry}
use Rattle.tb_written.specs.Kept.{Keeps, AreDeclared}
use Rattle.tb_fields.specs.Held.{structs_in}
use Rattle.tb_fields.specs.Fields.{FieldOf, told_field, told_fields, held_in, written_fields, held_by, struct_at, struct_graph}
use Rattle.tb_fields.specs.Defined.{AreTyped, AreMade, AreHeld, Grows, HasFields, Defines, DefinesIf, IsReady, AreDefined}
use Rattle.tb_fields.proofs.Completing.{all_left, all_right, complete_where}

-- fields may be given where the structs in them are defined
fields_ready : (types : TypeTable) → AreTypes types → (fields : List TypeField) → AreTyped types fields → AreHeld types (held_in (told_fields types fields)) → AllByRecursion (IsField types) fields
fields_ready types sound [] h held = tt
fields_ready types sound (field ∷ fields) h held =
    let first : List ℕ = structs_in (tree_of types field.ty) in
    let rest : List ℕ = held_in (told_fields types fields) in (
      record { is_type = h.0; complete = complete_where types sound field.ty h.0 (all_left (λ number. is_defined types number ≡ true) first rest held) },
      fields_ready types sound fields h.1 (all_right (λ number. is_defined types number ≡ true) first rest held),
    )

held_kept : (old new : TypeTable) → new.items ≡ old.items → (numbers : List ℕ) → AreHeld old numbers → AreHeld new numbers
held_kept old new e numbers h = subst (λ (items : List TypeItem). AllByRecursion (λ number. is_some (fields_of (slice_get items number)) ≡ true) numbers) (sym e) h

pub ready : (old new : TypeTable) → AreTypes new → (fields : List TypeField) (right : List FieldOf) → AreMade old new [] fields right → AreHeld old (held_in right) → AllByRecursion (IsField new) fields
ready old new sound fields right made held =
    fields_ready new sound fields made.typed (subst (λ told. AreHeld new (held_in told)) (sym made.mean) (held_kept old new made.kept.items (held_in right) held))

get_found : {X : Type 0} (xs : List X) (i : ℕ) → i < length xs → (x : X) × (slice_get xs i ≡ Some x)
get_found [] i h = absurd (omega arith)
get_found (x ∷ xs) zero h = (x, refl)
get_found (x ∷ xs) (suc i) h = get_found xs i (omega arith)

-- tables that grow
kept_item : (item : TypeItem) → IsKept item item
kept_item item = record { name = refl; copy = refl; fields = λ fields e. e }

pub grows_kept : (old new : TypeTable) → Keeps old new → Grows old new
grows_kept old new kept = record {
  types = kept.types;
  trees = kept.trees;
  items = λ number item e. (item, ap (λ (items : List TypeItem). slice_get items number) kept.items ∙ e, kept_item item);
}

pub grows_itself : (types : TypeTable) → Grows types types
grows_itself types = record { types = λ ty h. h; trees = λ ty h. refl; items = λ number item e. (item, e, kept_item item) }

pub grows_extended : (old new : TypeTable) → AreTypes old → Extends old new → Grows old new
grows_extended old new sound extends = record {
  types = λ ty h. (let f : (shape : TyShape) × (slice_get old.shapes ty.0 ≡ Some shape) = get_found old.shapes ty.0 h in slice_get_within new.shapes ty.0 f.0 (extends.shapes ty f.0 f.1));
  trees = λ ty h. same_type old new extends sound ty h;
  items = extends.items;
}

pub grows_twice : (a b c : TypeTable) → Grows a b → Grows b c → Grows a c
grows_twice a b c one other = record {
  types = λ ty h. other.types ty (one.types ty h);
  trees = λ ty h. other.trees ty (one.types ty h) ∙ one.trees ty h;
  items = λ number item e.
      let m : (now : TypeItem) × (item_at b number ≡ Some now) × IsKept item now = one.items number item e in
      let n : (now : TypeItem) × (item_at c number ≡ Some now) × IsKept m.0 now = other.items number m.0 m.1 in
      (n.0, n.1, record { name = n.2.name ∙ m.2.name; copy = n.2.copy ∙ m.2.copy; fields = λ fields f. n.2.fields fields (m.2.fields fields f) });
}

-- what is defined stays so
module _ (old new : TypeTable) (grows : Grows old new) where
  by_item : (number : ℕ) (fields : List TypeField) (found : Option TypeItem) → item_at old number ≡ found → fields_of found ≡ Some fields → fields_at new number ≡ Some fields
  by_item number fields None e f = cc
  by_item number fields (Some item) e f =
      let m : (now : TypeItem) × (item_at new number ≡ Some now) × IsKept item now = grows.items number item e in
      ap fields_of m.1 ∙ m.2.fields fields f

  pub fields_stay : (number : ℕ) (fields : List TypeField) → fields_at old number ≡ Some fields → fields_at new number ≡ Some fields
  fields_stay number fields e = by_item number fields (item_at old number) refl e

  by_fields : (number : ℕ) (found : Option (List TypeField)) → fields_at old number ≡ found → is_some found ≡ true → is_defined new number ≡ true
  by_fields number None e h = cc
  by_fields number (Some fields) e h = ap is_some (fields_stay number fields e)

  pub defined_stay : (number : ℕ) → is_defined old number ≡ true → is_defined new number ≡ true
  defined_stay number h = by_fields number (fields_at old number) refl h

  pub told_stay : (fields : List TypeField) → AreTyped old fields → told_fields new fields ≡ told_fields old fields
  told_stay [] h = refl
  told_stay (field ∷ fields) h =
      ap (λ (tree : TypeTree). record { name = field.name; tree = tree } ∷ told_fields new fields) (grows.trees field.ty h.0)
      ∙ ap (λ rest. told_field old field ∷ rest) (told_stay fields h.1)

  module _ (sound : AreTypes old) where
    typed_of : (fields : List TypeField) → AllByRecursion (IsField old) fields → AreTyped old fields
    typed_of [] h = tt
    typed_of (field ∷ fields) h = (h.0.is_type, typed_of fields h.1)

    has_by : (file : List Entry) (number : ℕ) (one : Struct) (found : Option (List TypeField)) → fields_at old number ≡ found → option_map (told_fields old) found ≡ Some (written_fields file one.fields) → HasFields file new number one
    has_by file number one None e h = cc
    has_by file number one (Some fields) e h =
        ap (option_map (told_fields new)) (fields_stay number fields e) ∙ ap Some (told_stay fields (typed_of fields (sound.fields number fields e))) ∙ h

    pub has_stay : (file : List Entry) (number : ℕ) (one : Struct) → HasFields file old number one → HasFields file new number one
    has_stay file number one h = has_by file number one (fields_at old number) refl h

-- a struct gets its fields
get_same : {X : Type 0} (xs : List X) (i : ℕ) (y : X) → i < length xs → slice_get (slice_set xs i y) i ≡ Some y
get_same [] i y h = absurd (omega arith)
get_same (x ∷ xs) zero y h = refl
get_same (x ∷ xs) (suc i) y h = get_same xs i y (omega arith)

get_other : {X : Type 0} (xs : List X) (i j : ℕ) (y : X) → (j ≡ i → ⊥) → slice_get (slice_set xs i y) j ≡ slice_get xs j
get_other [] i j y h = refl
get_other (x ∷ xs) zero zero y h = absurd (h refl)
get_other (x ∷ xs) zero (suc j) y h = refl
get_other (x ∷ xs) (suc i) zero y h = refl
get_other (x ∷ xs) (suc i) (suc j) y h = get_other xs i j y (λ e. h (ap suc e))

length_set : {X : Type 0} (xs : List X) (i : ℕ) (y : X) → length (slice_set xs i y) ≡ length xs
length_set [] i y = refl
length_set (x ∷ xs) zero y = refl
length_set (x ∷ xs) (suc i) y = let e : length (slice_set xs i y) ≡ length xs = length_set xs i y in omega arith

module _ (types : TypeTable) (number : ℕ) (fields : List TypeField) where
  at_number : number < length types.items → fields_at (with_fields types number fields) number ≡ Some fields
  at_number h =
      let f : (item : TypeItem) × (slice_get types.items number ≡ Some item) = get_found types.items number h in
      ap (λ (found : Option TypeItem). fields_at (defining types number fields found) number) f.1
      ∙ ap fields_of (get_same types.items number (record f.0 { fields = Some fields }) h)

  at_other : (found : Option TypeItem) (other : ℕ) → (other ≡ number → ⊥) → fields_at (defining types number fields found) other ≡ fields_at types other
  at_other None other h = refl
  at_other (Some item) other h = ap fields_of (get_other types.items number other (record item { fields = Some fields }) h)

  same_count : (found : Option TypeItem) → length (defining types number fields found).items ≡ length types.items
  same_count None = refl
  same_count (Some item) = length_set types.items number (record item { fields = Some fields })

pub defines : (file : List Entry) (old middle new : TypeTable) (number : ℕ) (one : Struct) (fields : List TypeField) → AreTypes middle → number < length old.items
    → AreMade old middle [] fields (written_fields file one.fields) → new ≡ with_fields middle number fields → Extends middle new → Defines file old new number one
defines file old middle new number one fields sound declared made e extends =
    let grows : Grows middle new = grows_extended middle new sound extends in
    let inside : number < length middle.items = subst (λ (items : List TypeItem). number < length items) (sym made.kept.items) declared in
    record {
      grows = grows_twice old middle new (grows_kept old middle made.kept) grows;
      count = ap (λ (types : TypeTable). length types.items) e ∙ same_count middle number fields (item_at middle number) ∙ ap length made.kept.items;
      fields =
          ap (option_map (told_fields new)) (ap (λ (types : TypeTable). fields_at types number) e ∙ at_number middle number fields inside)
          ∙ ap Some (told_stay middle new grows fields made.typed ∙ made.mean);
      others = λ other h.
          ap (λ (types : TypeTable). fields_at types other) e ∙ at_other middle number fields (item_at middle number) other h ∙ ap (λ (items : List TypeItem). fields_of (slice_get items other)) made.kept.items;
    }

-- the row of a struct
pub row_at : (file : List Entry) (structs : List Struct) (number : ℕ) (one : Struct) → struct_at structs number ≡ Some one → held (struct_graph file structs) number ≡ held_by file one
row_at file structs zero one e = cc
row_at file [] (suc number) one e = cc
row_at file (first ∷ structs) (suc zero) one e = let i : first ≡ one = cc in ap (held_by file) i
row_at file (first ∷ structs) (suc (suc number)) one e = row_at file structs (suc number) one e

all_held : (types : TypeTable) (done : List ℕ) → ((number : ℕ) → is_among number done ≡ true → is_defined types number ≡ true) → (inner : List ℕ) → are_among inner done ≡ true → AreHeld types inner
all_held types done h [] e = tt
all_held types done h (number ∷ inner) e =
    let parts = and_parts (is_among number done) (are_among inner done) e in
    (h number parts.0, all_held types done h inner parts.1)

-- the next struct may get its fields
module _ (file : List Entry) (start types : TypeTable) (structs : List Struct) (done : List ℕ) (so : AreDefined file start types structs done) (number : ℕ) (next : IsNext (struct_graph file structs) done number) where
  ready_by : (found : Option Struct) → struct_at structs number ≡ found → IsReady file types number found
  ready_by None e = tt
  ready_by (Some one) e = (
    so.blank number one next.new e,
    subst (AreHeld types) (row_at file structs number one e) (all_held types done so.held (held (struct_graph file structs) number) next.after),
  )

  pub next_ready : IsReady file types number (struct_at structs number)
  next_ready = ready_by (struct_at structs number) refl

-- a number that is below the count has a struct, or is that of `Layout`
no_struct : (file : List Entry) (structs : List Struct) (number : ℕ) → number < length (struct_graph file structs) → struct_at structs number ≡ None → number ≡ 0
no_struct file structs zero h e = refl
no_struct file [] (suc number) h e = absurd (omega arith)
no_struct file (first ∷ structs) (suc zero) h e = cc
no_struct file (first ∷ structs) (suc (suc number)) h e = (let none : suc number ≡ 0 = no_struct file structs (suc number) (omega arith) e in absurd (omega arith))

-- and does
module _ (file : List Entry) (start old new : TypeTable) (structs : List Struct) (done : List ℕ) (so : AreDefined file start old structs done) (sound : AreTypes old) (number : ℕ) (next : IsNext (struct_graph file structs) done number) where
  still_new : (other : ℕ) → is_among other (done ++ number ∷ []) ≡ false → is_among other done ≡ false
  still_new other h = by (is_among other done) refl
    where
      by : (b : Bool) → is_among other done ≡ b → is_among other done ≡ false
      by false e = e
      by true e = absurd (false≢true (sym h ∙ among_left done (number ∷ []) other e))

  not_last : (other : ℕ) → is_among other (done ++ number ∷ []) ≡ false → other ≡ number → ⊥
  not_last other h e = false≢true (sym h ∙ subst (λ (n : ℕ). is_among n (done ++ number ∷ []) ≡ true) (sym e) (among_last done number))

  module _ (one : Struct) (is : struct_at structs number ≡ Some one) (step : Defines file old new number one) where
    defined_here : is_defined new number ≡ true
    defined_here = some (fields_at new number) step.fields
      where
        some : (found : Option (List TypeField)) → option_map (told_fields new) found ≡ Some (written_fields file one.fields) → is_some found ≡ true
        some None e = cc
        some (Some fields) e = refl

    one_more : AreDefined file start new structs (done ++ number ∷ [])
    one_more = record {
      grows = grows_twice start old new so.grows step.grows;
      count = step.count ∙ so.count;
      layout = defined_stay old new step.grows 0 so.layout;
      held = λ other h.
          ⊎_elim
          (λ in_done. defined_stay old new step.grows other (so.held other in_done))
          (λ last. subst (λ (n : ℕ). is_defined new n ≡ true) (sym last) defined_here)
          (among_push done number other h);
      fields = λ other another h e.
          ⊎_elim
          (λ in_done. has_stay old new step.grows sound file other another (so.fields other another in_done e))
          (λ last. (let same : one ≡ another = (let f : struct_at structs number ≡ Some another = subst (λ (n : ℕ). struct_at structs n ≡ Some another) last e in cc) in
          subst (λ (n : ℕ). HasFields file new n another) (sym last) (subst (HasFields file new number) same step.fields)))
          (among_push done number other h);
      blank = λ other another h e. step.others other (not_last other h) ∙ so.blank other another (still_new other h) e;
    }

  module _ (is : struct_at structs number ≡ None) (same : new ≡ old) where
    none_more_old : AreDefined file start old structs (done ++ number ∷ [])
    none_more_old =
        let zeroth : number ≡ 0 = no_struct file structs number next.below is in
        record {
          grows = so.grows;
          count = so.count;
          layout = so.layout;
          held = λ other h.
              ⊎_elim
              (λ in_done. so.held other in_done)
              (λ last. subst (λ (n : ℕ). is_defined old n ≡ true) (sym (last ∙ zeroth)) so.layout)
              (among_push done number other h);
          fields = λ other another h e.
              ⊎_elim
              (λ in_done. so.fields other another in_done e)
              (λ last. (let f : struct_at structs number ≡ Some another = subst (λ (n : ℕ). struct_at structs n ≡ Some another) last e in cc))
              (among_push done number other h);
          blank = λ other another h e. so.blank other another (still_new other h) e;
        }

    none_more : AreDefined file start new structs (done ++ number ∷ [])
    none_more = subst (λ (types : TypeTable). AreDefined file start types structs (done ++ number ∷ [])) (sym same) none_more_old

  more_by : (found : Option Struct) → struct_at structs number ≡ found → DefinesIf file old new number found → AreDefined file start new structs (done ++ number ∷ [])
  more_by None is step = none_more is step
  more_by (Some one) is step = one_more one is step

  pub next_defined : DefinesIf file old new number (struct_at structs number) → AreDefined file start new structs (done ++ number ∷ [])
  next_defined step = more_by (struct_at structs number) refl step

-- structs stay declared
pub declared_still : (start types : TypeTable) (file : List Entry) → length types.items ≡ length start.items → AreDeclared start file → AreDeclared types file
declared_still start types file e declared = record {
  layout = subst (λ (n : ℕ). 0 < n) (sym e) declared.layout;
  structs = λ name number f. subst (λ (n : ℕ). number < n) (sym e) (declared.structs name number f);
}

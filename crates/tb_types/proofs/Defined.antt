-- The definition of a struct changes no type that does not wait for it.
use Rattle.std.proofs.Common.{◌≡◌, refl, sym, ◌∙◌, ap, subst, ℕ, suc, zero, ◌+◌, ◌-◌, ◌*◌, ◌^◌, ◌<◌, ◌≤◌, Bool, true, false, true≢false, List, [], ◌∷◌, length, map, nat_eq, Option, Some, None, slice_get, slice_set, arith, IfSome, is_some, if◌then◌else◌, inl, inr, ◌⊎◌}
use Rattle.std.specs.List.{AllByRecursion, list_all}
use Rattle.std.specs.Cmp.{second_so}
use Rattle.std.proofs.lemmas.List.{length-set}
use Rattle.std.proofs.lemmas.Bool.{cases_order}
use Rattle.std.proofs.lemmas.Option.{slice_get_within}
use Rattle.std.proofs.Math.Nat.{mul_assoc, mul_comm, pow-suc, mul-le-mul}
use Rattle.tb_types.specs.declared.shape.Ty.{Ty}
use Rattle.tb_types.specs.declared.shape.TyShape.{TyShape}
use Rattle.tb_types.specs.declared.shape.TyShape.TheVariants.{Struct}
use Rattle.tb_types.specs.declared.item.Field.{Field}
use Rattle.tb_types.specs.declared.item.Item.{Item}
use Rattle.tb_types.specs.declared.facts.Facts.{Facts}
use Rattle.tb_types.specs.declared.known.Known.{Known}
use Rattle.tb_types.specs.Table.{TypeTable, IsType, IsDeclared, shape_at, item_at, fields_of, fields_at, item_named, IsKept, Extends}
use Rattle.tb_types.specs.Folded.{Node, node_in, node_by, node_of, item_in, parts_in, types_in, types_of, folded_at, folded, depth_of, defined_in, fits_by, is_known}
use Rattle.tb_types.specs.Trees.{StructTree}
use Rattle.tb_types.specs.Facts.{facts_by, is_complete}
use Rattle.tb_types.specs.Known.{known_by, known_of, known_at, fact_at}
use Rattle.tb_types.specs.Sound.{IsField, AreTypes, AreKnown}
use Rattle.tb_types.proofs.Folding.{plus, plus-is, same_at, same_folded, fits_within}
use Rattle.tb_types.proofs.Complete.{IsReady, struct_known, parts_ready}
use Rattle.tb_types.proofs.Within.{node_found, get_same, get_other, get_found, all_to, all_both, true_all, fields_all, parts_types}
use Rattle.tb_types.proofs.Interned.{power, fits_node, known_found}
use Rattle.tb_types.proofs.Knowing.{known_facts}

defined_one_more : (items : List Item) (number : ℕ) (item : Item) (fields : List Field) → slice_get items number ≡ Some item → item.fields ≡ None
    → defined_in (slice_set items number (record item { fields = Some fields })) ≡ suc (defined_in items)
defined_one_more [] number item fields e unset = cc
defined_one_more (x ∷ items) zero item fields e unset =
    let f : x ≡ item = cc in ap suc (sym (undefined x (ap (λ (i : Item). i.fields) f ∙ unset)))
  where
    undefined : (x : Item) → x.fields ≡ None → (if is_some x.fields then suc (defined_in items) else defined_in items) ≡ defined_in items
    undefined x h = ap (λ (fields : Option (List Field)). if is_some fields then suc (defined_in items) else defined_in items) h
defined_one_more (x ∷ items) (suc number) item fields e unset = by_head (is_some x.fields) (defined_one_more items number item fields e unset)
  where
    by_head : (b : Bool) → defined_in (slice_set items number (record item { fields = Some fields })) ≡ suc (defined_in items)
        → (if b then suc (defined_in (slice_set items number (record item { fields = Some fields }))) else defined_in (slice_set items number (record item { fields = Some fields })))
        ≡ suc (if b then suc (defined_in items) else defined_in items)
    by_head true h = ap suc h
    by_head false h = h

raise : (types : TypeTable) (ty : Ty) (a b : ℕ) → a ≤ b → folded_at fits_by types a ty ≡ true → folded_at fits_by types b ty ≡ true
raise types ty a b h f = subst (λ n. folded_at fits_by types n ty ≡ true) (let e : b - a + a ≡ b = omega arith in e) (fits_within types a (b - a) ty f)

module _ (types : TypeTable) (sound : AreTypes types) (number : ℕ) (item : Item) (found : item_at types number ≡ Some item) (unset : item.fields ≡ None) (fields : List Field) (are : AllByRecursion (IsField types) fields) where
  abbrev full : Item
  full = record item { fields = Some fields }

  abbrev wider : TypeTable
  wider = record types { items = slice_set types.items number full }

  within : number < length types.items
  within = slice_get_within types.items number item found

  here : item_at wider number ≡ Some full
  here = get_same types.items number full within

  other_struct : (other : ℕ) → is_some (fields_of (slice_get types.items other)) ≡ true → other ≡ number → ⊥
  other_struct other h e =
      let f : fields_of (slice_get types.items other) ≡ None = ap (λ n. fields_of (slice_get types.items n)) e ∙ ap fields_of found ∙ unset in
      true≢false (sym h ∙ ap is_some f)

  same_in : (shape : TyShape) → is_known shape (item_in types.items shape) ≡ true → node_in wider shape ≡ node_in types shape
  same_in (Struct other) h = ap (λ (i : Option Item). record { shape = Struct other; item = i; parts = parts_in (Struct other) i; tree = StructTree other }) (get_other types.items number other full (other_struct other h))
  same_in shape h = refl

  same_ready : (ty : Ty) → IsReady types ty → node_of wider ty ≡ node_of types ty
  same_ready ty h =
      let shape : (shape : TyShape) × (shape_at types ty ≡ Some shape) = get_found types.shapes ty.0 h.0 in
      node_found wider ty shape.0 shape.1 ∙ same_in shape.0 (struct_known types sound ty shape.0 shape.1 h) ∙ sym (node_found types ty shape.0 shape.1)

  fits_ready : (ty : Ty) → IsReady types ty → folded_at fits_by wider (depth_of types) ty ≡ true
  fits_ready ty h = same_at types wider (IsReady types) same_ready (parts_ready types sound) fits_by (depth_of types) ty h ∙ sound.ends ty h.0

  -- a type that names the struct, or one that is made of the same as before
  own_or_same : (shape : TyShape) → (shape ≡ Struct number) ⊎ (node_in wider shape ≡ node_in types shape)
  own_or_same (Struct other) = elim (cases_order other number) [
    | inl e ↦ inl (ap Struct e)
    | inr apart ↦ inr (ap (λ (i : Option Item). record { shape = Struct other; item = i; parts = parts_in (Struct other) i; tree = StructTree other }) (get_other types.items number other full (λ e. elim apart [ inl below ↦ omega arith | inr above ↦ omega arith ])))
  ]
  own_or_same shape = inr refl

  own_or_old : (ty : Ty) → IsType types ty → (node_of wider ty ≡ node_in wider (Struct number)) ⊎ (node_of wider ty ≡ node_of types ty)
  own_or_old ty h =
      let found_shape : (shape : TyShape) × (shape_at types ty ≡ Some shape) = get_found types.shapes ty.0 h in
      elim (own_or_same found_shape.0) [
        | inl own ↦ inl (ap (node_by wider) found_shape.1 ∙ ap (node_in wider) own)
        | inr old ↦ inr (ap (node_by wider) found_shape.1 ∙ old ∙ sym (ap (node_by types) found_shape.1))
      ]

  own_parts : (node_in wider (Struct number)).parts ≡ types_in fields
  own_parts = ap (λ (i : Option Item). types_of (fields_of i)) here

  own_fits : (ty : Ty) → node_of wider ty ≡ node_in wider (Struct number) → folded_at fits_by wider (suc (depth_of types)) ty ≡ true
  unfolding folded_at
  own_fits ty e =
      ap (λ (node : Node). fits_by node (map (folded_at fits_by wider (depth_of types)) node.parts)) e
      ∙ fits_node (node_in wider (Struct number)) (folded_at fits_by wider (depth_of types))
      (subst (AllByRecursion (λ part. folded_at fits_by wider (depth_of types) part ≡ true)) (sym own_parts)
      (fields_all (λ part. folded_at fits_by wider (depth_of types) part ≡ true) fields (all_to fields are (λ field is. fits_ready field.ty (is.is_type, is.complete)))))

  widen : (depth : ℕ) (ty : Ty) → IsType types ty → folded_at fits_by types depth ty ≡ true → folded_at fits_by wider (plus depth (suc (depth_of types))) ty ≡ true
  unfolding folded_at plus
  widen zero ty h f = elim (own_or_old ty h) [
    | inl own ↦ own_fits ty own
    | inr old ↦ raise wider ty zero (suc (depth_of types)) (omega arith) (ap (λ (node : Node). fits_by node []) old ∙ f)
  ]
  widen (suc depth) ty h f = elim (own_or_old ty h) [
    | inl own ↦ raise wider ty (suc (depth_of types)) (suc (plus depth (suc (depth_of types)))) (let e : plus depth (suc (depth_of types)) ≡ depth + suc (depth_of types) = plus-is depth (suc (depth_of types)) in omega arith) (own_fits ty own)
    | inr old ↦
        ap (λ (node : Node). fits_by node (map (folded_at fits_by wider (plus depth (suc (depth_of types)))) node.parts)) old
        ∙ fits_node (node_of types ty) (folded_at fits_by wider (plus depth (suc (depth_of types))))
        (all_to (node_of types ty).parts
        (all_both (IsType types) (λ part. folded_at fits_by types depth part ≡ true) (node_of types ty).parts (parts_types types sound ty h)
        (true_all (folded_at fits_by types depth) (node_of types ty).parts
        (second_so (nat_eq (length (node_of types ty).parts) (length (map (folded_at fits_by types depth) (node_of types ty).parts))) (list_all (λ b. b) (map (folded_at fits_by types depth) (node_of types ty).parts)) f)))
        (λ part p. widen depth part p.0 p.1))
  ]

  deep_defined : depth_of wider ≡ depth_of types * 3
  unfolding depth_of
  deep_defined =
      ap (λ n. 3 ^ n * length types.shapes) (defined_one_more types.items number item fields found unset)
      ∙ ap (λ n. n * length types.shapes) (pow-suc 3 (defined_in types.items))
      ∙ mul_assoc (3 ^ defined_in types.items) 3 (length types.shapes)
      ∙ ap (λ n. 3 ^ defined_in types.items * n) (mul_comm 3 (length types.shapes))
      ∙ sym (mul_assoc (3 ^ defined_in types.items) (length types.shapes) 3)

  some_depth : (ty : Ty) → IsType types ty → 1 ≤ depth_of types
  unfolding depth_of
  some_depth ty h = mul-le-mul {n₁ = 1} {m₁ = 1} {n₂ = 3 ^ defined_in types.items} {m₂ = length types.shapes} (power (defined_in types.items)) (omega arith)

  ends_defined : (ty : Ty) → IsType types ty → folded_at fits_by wider (depth_of wider) ty ≡ true
  ends_defined ty h =
      let e : plus (depth_of types) (suc (depth_of types)) ≡ depth_of types + suc (depth_of types) = plus-is (depth_of types) (suc (depth_of types)) in
      let one : 1 ≤ depth_of types = some_depth ty h in
      let d : depth_of wider ≡ depth_of types * 3 = deep_defined in
      raise wider ty (plus (depth_of types) (suc (depth_of types))) (depth_of wider) (omega arith) (widen (depth_of types) ty h (sound.ends ty h))

  -- what a type is whose structs were defined, it stays
  pub kept_defined : {A : Type 0} (step : Node → List A → A) (ty : Ty) → IsReady types ty → folded step wider ty ≡ folded step types ty
  kept_defined step ty h = same_folded types wider (IsReady types) same_ready (parts_ready types sound) step ty h (sound.ends ty h.0) (ends_defined ty h.0)

  field_defined : (field : Field) → IsField types field → IsField wider field
  field_defined field is = record { is_type = is.is_type; complete = ap (λ (fact : Facts). fact.complete) (kept_defined facts_by field.ty (is.is_type, is.complete)) ∙ is.complete }

  declared_defined : (other : Option ℕ) → IfSome other (IsDeclared types) → IfSome other (IsDeclared wider)
  declared_defined None h = h
  declared_defined (Some other) h = let e : length wider.items ≡ length types.items = length-set types.items number full in omega arith

  fields_defined : (other : ℕ) (given : List Field) → fields_at wider other ≡ Some given → AllByRecursion (IsField wider) given
  fields_defined other given e = elim (cases_order other number) [
    | inl own ↦
        let f : fields_at wider number ≡ Some fields = ap fields_of here in
        let g : fields_at wider number ≡ Some given = ap (λ n. fields_at wider n) (sym own) ∙ e in
        let s : fields ≡ given = cc in
        subst (AllByRecursion (IsField wider)) s (all_to fields are field_defined)
    | inr apart ↦ all_to given (sound.fields other given (ap fields_of (sym (get_other types.items number other full (λ e. elim apart [ inl below ↦ omega arith | inr above ↦ omega arith ]))) ∙ e)) field_defined
  ]

  pub sound_defined : AreTypes wider
  sound_defined = record {
    one_number = sound.one_number;
    names = sound.names;
    declared = λ ty shape e. declared_defined (item_named shape) (sound.declared ty shape e);
    fields = fields_defined;
    ends = ends_defined;
  }

  -- what is kept of a field of a struct that is defined now was right before
  pub fields_known : (known : List Known) → AreKnown types known → (other : ℕ) (given : List Field) → fields_at wider other ≡ Some given → AllByRecursion (λ (field : Field). slice_get known field.ty.0 ≡ Some (known_of wider field.ty)) given
  fields_known known kept other given e = elim (cases_order other number) [
    | inl own ↦
        let f : fields_at wider number ≡ Some fields = ap fields_of here in
        let g : fields_at wider number ≡ Some given = ap (λ n. fields_at wider n) (sym own) ∙ e in
        let s : fields ≡ given = cc in
        subst (AllByRecursion (λ (field : Field). slice_get known field.ty.0 ≡ Some (known_of wider field.ty))) s (all_to fields are (λ field is. kept.each field.ty is.is_type ∙ ap Some (sym (kept_defined known_by field.ty (is.is_type, is.complete)))))
    | inr apart ↦ all_to given (sound.fields other given (ap fields_of (sym (get_other types.items number other full (λ e. elim apart [ inl below ↦ omega arith | inr above ↦ omega arith ]))) ∙ e))
        (λ field is. kept.each field.ty is.is_type ∙ ap Some (sym (kept_defined known_by field.ty (is.is_type, is.complete))))
  ]

  -- and so was what is kept of a type in which each struct was defined
  pub ready_known : (known : List Known) → AreKnown types known → (ty : Ty) → IsType types ty → (fact_at known ty).complete ≡ true → slice_get known ty.0 ≡ Some (known_of wider ty)
  ready_known known kept ty h complete =
      let e : known_at known ty ≡ known_of types ty = known_found known ty (known_of types ty) (kept.each ty h) in
      let c : is_complete types ty ≡ true = ap (λ (fact : Facts). fact.complete) (sym (known_facts types sound ty h)) ∙ ap (λ (k : Known). k.facts.complete) (sym e) ∙ complete in
      kept.each ty h ∙ ap Some (sym (kept_defined known_by ty (h, c)))

  extends_item : (other : ℕ) (old : Item) → item_at types other ≡ Some old → (now : Item) × (item_at wider other ≡ Some now) × IsKept old now
  extends_item other old e = elim (cases_order other number) [
    | inl own ↦
        let g : item_at types number ≡ Some old = ap (item_at types) (sym own) ∙ e in
        let s : item ≡ old = cc in (
          full,
          ap (item_at wider) own ∙ here,
          record {
            name = ap (λ (i : Item). i.name) s;
            copy = ap (λ (i : Item). i.copy) s;
            fields = λ given g. absurd (none_some item.fields given unset (ap (λ (i : Item). i.fields) s ∙ g));
          },
        )
    | inr apart ↦ (old, get_other types.items number other full (λ e. elim apart [ inl below ↦ omega arith | inr above ↦ omega arith ]) ∙ e, record { name = refl; copy = refl; fields = λ given g. g })
  ]
    where
      none_some : (found_fields : Option (List Field)) (given : List Field) → found_fields ≡ None → found_fields ≡ Some given → ⊥
      none_some found_fields given h k = cc

  pub extends_defined : Extends types wider
  extends_defined = record { shapes = λ ty shape e. e; items = extends_item }

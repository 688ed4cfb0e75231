-- Working out what is kept of the types, one after another.
use Rattle.std.proofs.Common.{◌≡◌, refl, sym, ◌∙◌, ap, subst, ℕ, ◌+◌, ◌<◌, ◌≤◌, Bool, true, false, List, length, map, Some, slice_get, slice_set, arith, inl, inr, if◌then◌else◌}
use Rattle.std.specs.List.{AllByRecursion}
use Rattle.std.proofs.lemmas.Bool.{cases_order}
use Rattle.std.proofs.lemmas.List.{length-set}
use Rattle.std.proofs.lemmas.Option.{slice_get_within}
use Rattle.tb_types.specs.declared.shape.Ty.{Ty}
use Rattle.tb_types.specs.declared.shape.TyShape.{TyShape}
use Rattle.tb_types.specs.declared.item.Field.{Field}
use Rattle.tb_types.specs.declared.known.Known.{Known}
use Rattle.tb_types.specs.Table.{TypeTable, IsType, fields_at, named_in}
use Rattle.tb_types.specs.Folded.{Node, node_in}
use Rattle.tb_types.specs.Capped.{IsSmall}
use Rattle.tb_types.specs.Known.{known_by, known_of, known_at, fact_at, renewed, IsWithin, ArePlain, AreSmall}
use Rattle.tb_types.specs.Sound.{AreTypes}
use Rattle.tb_types.proofs.Folding.{folded_is, map_all}
use Rattle.tb_types.proofs.Within.{get_same, get_other, get_found, all_to, parts_all, items_all, parts_types, node_found}
use Rattle.tb_types.proofs.Interned.{known_found}
use Rattle.tb_types.proofs.Knowing.{known_plain}

module _ (types : TypeTable) (sound : AreTypes types) (known : List Known) (at : ℕ) (shape : TyShape) (here : slice_get types.shapes at ≡ Some shape) (len : length known ≡ length types.shapes) where
  abbrev own : Ty
  own = record { 0 = at }

  -- what lies in a type has its place
  pub within_at : AllByRecursion (IsWithin known) (node_in types shape).parts
  within_at =
      subst (λ (node : Node). AllByRecursion (IsWithin known) node.parts) (node_found types own shape here)
      (all_to _ (parts_types types sound own (slice_get_within types.shapes at shape here)) (λ part h. omega arith))

  -- what follows from its parts is to be kept where a struct in it was not defined
  pub anew : (fact_at known own).complete ≡ false → known_by (node_in types shape) (map (known_at known) (node_in types shape).parts) ≡ renewed types known at shape
  anew e = ap (λ b. if b then known_at known own else known_by (node_in types shape) (map (known_at known) (node_in types shape).parts)) (sym e)

  pub named_at : AllByRecursion (IsType types) (named_in shape)
  named_at = let h : at < length types.shapes = slice_get_within types.shapes at shape here in all_to (named_in shape) (sound.names own shape here) (λ part lower. omega arith)

  module _ (before : List Known) (known_fields : (item : ℕ) (fields : List Field) → fields_at types item ≡ Some fields → AllByRecursion (λ (field : Field). slice_get before field.ty.0 ≡ Some (known_of types field.ty)) fields)
      (ready : (ty : Ty) → IsType types ty → (fact_at before ty).complete ≡ true → slice_get before ty.0 ≡ Some (known_of types ty))
      (done : (ty : Ty) → ty.0 < at → slice_get known ty.0 ≡ Some (known_of types ty))
      (kept : (ty : Ty) → slice_get before ty.0 ≡ Some (known_of types ty) → slice_get known ty.0 ≡ Some (known_of types ty))
      (rest : (ty : Ty) → at ≤ ty.0 → slice_get known ty.0 ≡ slice_get before ty.0) where
    right_at : AllByRecursion (λ (ty : Ty). slice_get known ty.0 ≡ Some (known_of types ty)) (node_in types shape).parts
    right_at = parts_all (λ (ty : Ty). slice_get known ty.0 ≡ Some (known_of types ty)) types shape (all_to (named_in shape) (sound.names own shape here) (λ part lower. done part lower))
        (items_all (λ (ty : Ty). slice_get known ty.0 ≡ Some (known_of types ty)) types shape (λ item fields e. all_to fields (known_fields item fields e) (λ field is. kept field.ty is)))

    -- what follows from its parts is the type's
    worked_out : known_by (node_in types shape) (map (known_at known) (node_in types shape).parts) ≡ known_of types own
    worked_out =
        ap (known_by (node_in types shape)) (map_all (λ (ty : Ty). slice_get known ty.0 ≡ Some (known_of types ty)) (known_at known) (known_of types) (node_in types shape).parts right_at (λ part is. known_found known part (known_of types part) is))
        ∙ sym (ap (λ (node : Node). known_by node (map (known_of types) node.parts)) (node_found types own shape here))
        ∙ sym (folded_is known_by types own (sound.ends own (slice_get_within types.shapes at shape here)))

    -- and so is what is kept of a type that did not wait
    kept_right : (fact_at known own).complete ≡ true → known_at known own ≡ known_of types own
    kept_right complete =
        let h : at < length types.shapes = slice_get_within types.shapes at shape here in
        let now : (k : Known) × (slice_get known at ≡ Some k) = get_found known at (omega arith) in
        let old : slice_get before at ≡ Some now.0 = sym (rest own (omega arith)) ∙ now.1 in
        let same : known_at known own ≡ known_at before own = known_found known own now.0 now.1 ∙ sym (known_found before own now.0 old) in
        known_found known own (known_of types own) (rest own (omega arith) ∙ ready own h (ap (λ (k : Known). k.facts.complete) (sym same) ∙ complete))

    by_complete : (complete : Bool) → (fact_at known own).complete ≡ complete → (if complete then known_at known own else known_by (node_in types shape) (map (known_at known) (node_in types shape).parts)) ≡ known_of types own
    by_complete true e = kept_right e
    by_complete false e = worked_out

    module _ (now : Known) (is : now ≡ renewed types known at shape) where
      set_here : (ty : Ty) → ty.0 ≡ at → slice_get (slice_set known at now) ty.0 ≡ Some (known_of types ty)
      set_here ty e =
          let h : at < length known = (let g : at < length types.shapes = slice_get_within types.shapes at shape here in omega arith) in
          let f : ty ≡ own = ap (λ n. record { 0 = n }) e in
          ap (slice_get (slice_set known at now)) e ∙ get_same known at now h ∙ ap Some (is ∙ by_complete (fact_at known own).complete refl ∙ ap (known_of types) (sym f))

      pub done_next : (ty : Ty) → ty.0 < at + 1 → slice_get (slice_set known at now) ty.0 ≡ Some (known_of types ty)
      done_next ty h = elim (cases_order ty.0 at) [
        | inl e ↦ set_here ty e
        | inr apart ↦ get_other known at ty.0 now (λ e. elim apart [ inl below ↦ omega arith | inr above ↦ omega arith ]) ∙ done ty (elim apart [ inl below ↦ below | inr above ↦ absurd (omega arith) ])
      ]

      pub kept_next : (ty : Ty) → slice_get before ty.0 ≡ Some (known_of types ty) → slice_get (slice_set known at now) ty.0 ≡ Some (known_of types ty)
      kept_next ty h = elim (cases_order ty.0 at) [
        | inl e ↦ set_here ty e
        | inr apart ↦ get_other known at ty.0 now (λ e. elim apart [ inl below ↦ omega arith | inr above ↦ omega arith ]) ∙ kept ty h
      ]

      pub rest_next : (ty : Ty) → at + 1 ≤ ty.0 → slice_get (slice_set known at now) ty.0 ≡ slice_get before ty.0
      rest_next ty h = get_other known at ty.0 now (λ e. omega arith) ∙ rest ty (omega arith)

      same_at : (ty : Ty) → ty.0 ≡ at → known_at (slice_set known at now) ty ≡ now
      same_at ty e =
          let h : at < length known = (let g : at < length types.shapes = slice_get_within types.shapes at shape here in omega arith) in
          known_found (slice_set known at now) ty now (ap (slice_get (slice_set known at now)) e ∙ get_same known at now h)

      same_other : (ty : Ty) → (ty.0 ≡ at → ⊥) → IsWithin known ty → known_at (slice_set known at now) ty ≡ known_at known ty
      same_other ty apart within =
          let found : (k : Known) × (slice_get known ty.0 ≡ Some k) = get_found known ty.0 within in
          known_found (slice_set known at now) ty found.0 (get_other known at ty.0 now apart ∙ found.1) ∙ sym (known_found known ty found.0 found.1)

      pub plain_next : ArePlain types known → ArePlain types (slice_set known at now)
      plain_next plain ty h = elim (cases_order ty.0 at) [
        | inl e ↦ ap (λ (k : Known). k.plain) (same_at ty e ∙ is ∙ by_complete (fact_at known own).complete refl ∙ ap (known_of types) (let f : own ≡ ty = ap (λ n. record { 0 = n }) (sym e) in f)) ∙ known_plain types sound ty h
        | inr apart ↦ ap (λ (k : Known). k.plain) (same_other ty (λ e. elim apart [ inl below ↦ omega arith | inr above ↦ omega arith ]) (omega arith)) ∙ plain ty h
      ]

      pub small_next : IsSmall now.extent → AreSmall known → AreSmall (slice_set known at now)
      small_next own_small small ty h = elim (cases_order ty.0 at) [
        | inl e ↦ subst (λ (k : Known). IsSmall k.extent) (sym (same_at ty e)) own_small
        | inr apart ↦
            let within : IsWithin known ty = (let e : length (slice_set known at now) ≡ length known = length-set known at now in omega arith) in
            subst (λ (k : Known). IsSmall k.extent) (sym (same_other ty (λ e. elim apart [ inl below ↦ omega arith | inr above ↦ omega arith ]) within)) (small ty within)
      ]

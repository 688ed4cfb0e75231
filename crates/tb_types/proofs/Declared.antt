-- One more declared struct changes no type.
use Rattle.std.proofs.Common.{◌≡◌, refl, sym, ◌∙◌, ap, ℕ, suc, zero, ◌+◌, ◌*◌, ◌^◌, ◌≤◌, Bool, true, List, [], ◌∷◌, ◌++◌, length, Option, Some, None, slice_get, arith, IfSome, is_some, if◌then◌else◌, inl, inr}
use Rattle.std.proofs.lemmas.List.{length-append}
use Rattle.std.proofs.lemmas.Bool.{cases_lt}
use Rattle.std.proofs.lemmas.Option.{slice_get_within}
use Rattle.tb_types.specs.declared.shape.Ty.{Ty}
use Rattle.tb_types.specs.declared.shape.TyShape.{TyShape}
use Rattle.tb_types.specs.declared.shape.TyShape.TheVariants.{Struct}
use Rattle.tb_types.specs.declared.item.Field.{Field}
use Rattle.tb_types.specs.declared.item.Item.{Item}
use Rattle.tb_types.specs.declared.facts.Facts.{Facts}
use Rattle.tb_types.specs.declared.known.Known.{Known}
use Rattle.tb_types.specs.Table.{TypeTable, IsType, IsDeclared, shape_at, fields_of, fields_at, item_named, with_item, Extends}
use Rattle.tb_types.specs.Folded.{Node, node_in, node_by, node_of, parts_in, folded_at, folded, depth_of, defined_in, fits_by}
use Rattle.tb_types.specs.Trees.{StructTree}
use Rattle.tb_types.specs.Facts.{facts_by}
use Rattle.tb_types.specs.Known.{known_by}
use Rattle.tb_types.specs.Sound.{AreTypes, AreKnown}
use Rattle.tb_types.proofs.Folding.{same_at, same_folded}
use Rattle.tb_types.proofs.Within.{get_left, get_found, all_to, parts_types}

defined_more : (items : List Item) (item : Item) → item.fields ≡ None → defined_in (items ++ item ∷ []) ≡ defined_in items
defined_more [] item h = ap (λ (fields : Option (List Field)). if is_some fields then suc zero else zero) h
defined_more (x ∷ items) item h = ap (λ n. if is_some x.fields then suc n else n) (defined_more items item h)

module _ (types : TypeTable) (sound : AreTypes types) (name : List ℕ) (copy : Bool) where
  abbrev fresh : Item
  fresh = record { name = name; copy = copy; fields = None }

  abbrev longer : TypeTable
  longer = with_item types name copy

  same_node : (shape : TyShape) → IfSome (item_named shape) (IsDeclared types) → node_in longer shape ≡ node_in types shape
  same_node (Struct number) h = ap (λ (item : Option Item). record { shape = Struct number; item = item; parts = parts_in (Struct number) item; tree = StructTree number }) (get_left types.items (fresh ∷ []) number h)
  same_node shape h = refl

  same_declared : (ty : Ty) → IsType types ty → node_of longer ty ≡ node_of types ty
  same_declared ty h =
      let found : (shape : TyShape) × (shape_at types ty ≡ Some shape) = get_found types.shapes ty.0 h in
      ap (node_by longer) found.1 ∙ same_node found.0 (sound.declared ty found.0 found.1) ∙ sym (ap (node_by types) found.1)

  deep_declared : depth_of longer ≡ depth_of types
  unfolding depth_of
  deep_declared = ap (λ n. 3 ^ n * length types.shapes) (defined_more types.items fresh refl)

  ends_declared : (ty : Ty) → IsType longer ty → folded_at fits_by longer (depth_of longer) ty ≡ true
  ends_declared ty h =
      ap (λ n. folded_at fits_by longer n ty) deep_declared
      ∙ same_at types longer (IsType types) same_declared (parts_types types sound) fits_by (depth_of types) ty h ∙ sound.ends ty h

  pub kept_declared : {A : Type 0} (step : Node → List A → A) (ty : Ty) → IsType types ty → folded step longer ty ≡ folded step types ty
  kept_declared step ty h = same_folded types longer (IsType types) same_declared (parts_types types sound) step ty h (sound.ends ty h) (ends_declared ty h)

  declared_more : (item : Option ℕ) → IfSome item (IsDeclared types) → IfSome item (IsDeclared longer)
  declared_more None h = h
  declared_more (Some item) h = let e : length longer.items ≡ length types.items + 1 = length-append types.items (fresh ∷ []) in omega arith

  old_fields : (item : ℕ) (fields : List Field) → fields_at longer item ≡ Some fields → fields_at types item ≡ Some fields
  old_fields item fields e =
      elim (cases_lt item (length types.items)) [
        | inl old ↦ ap fields_of (sym (get_left types.items (fresh ∷ []) item old)) ∙ e
        | inr past ↦ absurd (no_fields item fields past e)
      ]
    where
      beyond : (items : List Item) (i : ℕ) → length items ≤ i → fields_of (slice_get (items ++ fresh ∷ []) i) ≡ None
      beyond [] zero h = refl
      beyond [] (suc i) h = refl
      beyond (x ∷ items) zero h = absurd (omega arith)
      beyond (x ∷ items) (suc i) h = beyond items i (omega arith)

      no_fields : (item : ℕ) (fields : List Field) → length types.items ≤ item → fields_at longer item ≡ Some fields → ⊥
      no_fields item fields past e = let f : fields_at longer item ≡ None = beyond types.items item past in cc

  pub sound_declared : AreTypes longer
  sound_declared = record {
    one_number = sound.one_number;
    names = sound.names;
    declared = λ ty shape e. declared_more (item_named shape) (sound.declared ty shape e);
    fields = λ item fields e. all_to fields (sound.fields item fields (old_fields item fields e))
        (λ field is. record { is_type = is.is_type; complete = ap (λ (fact : Facts). fact.complete) (kept_declared facts_by field.ty is.is_type) ∙ is.complete });
    ends = ends_declared;
  }

  pub known_declared : (known : List Known) → AreKnown types known → AreKnown longer known
  known_declared known are = record {
    len = are.len;
    each = λ ty h. are.each ty h ∙ ap Some (sym (kept_declared known_by ty h));
  }

  pub extends_declared : Extends types longer
  extends_declared = record {
    shapes = λ ty shape e. e;
    items = λ number item e. (item, get_left types.items (fresh ∷ []) number (slice_get_within types.items number item e) ∙ e, record { name = refl; copy = refl; fields = λ fields f. f });
  }

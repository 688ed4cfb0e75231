use Rattle.std.proofs.Common.{◌≡◌, subst, sym, ℕ, List, Some, true, slice_get}
use Rattle.std.specs.List.{AllByRecursion}
use Rattle.tb_types.specs.declared.shape.Ty.{Ty}
use Rattle.tb_types.specs.declared.shape.TyShape.{TyShape}
use Rattle.tb_types.specs.declared.item.Field.{Field}
use Rattle.tb_types.specs.Table.{IsType, fields_at}
use Rattle.tb_types.specs.Known.{known_of, fact_at, ArePlain}
use Rattle.tb_types.specs.Sound.{AreTypes}
use Rattle.tb_types.specs.Kept.{table_of}
use Rattle.tb_types.proofs.Keeping.{kept_plain, kept_small, defined_sound, defined_known, defined_ready, defined_kept, defined_types, defined_extends}
use Rattle.tb_types.proofs.tables.define_in.Goals as goal

pub refresh-requires-clause-sound : goal.refresh-requires-clause-sound
refresh-requires-clause-sound c =
    subst (λ (shapes : List TyShape). AreTypes (table_of shapes c.set_fields.new.items)) (sym c.as_slice.ensures.keys)
    (defined_sound c.args.shapes.now.keys c.args.items.now c.args.known.now c.requires.kept c.args.item c.requires.declared c.requires.once c.args.fields c.requires.fields c.set_fields.new.items c.set_fields.ensures)

pub refresh-requires-clause-plain : goal.refresh-requires-clause-plain
refresh-requires-clause-plain c =
    subst (λ (shapes : List TyShape). ArePlain (table_of shapes c.set_fields.new.items) c.args.known.now) (sym c.as_slice.ensures.keys)
    (kept_plain c.args.shapes.now.keys c.args.items.now c.args.known.now c.requires.kept)

pub refresh-requires-clause-small : goal.refresh-requires-clause-small
refresh-requires-clause-small c = kept_small c.args.shapes.now.keys c.args.items.now c.args.known.now c.requires.kept

pub refresh-requires-clause-ready : goal.refresh-requires-clause-ready
refresh-requires-clause-ready c =
    subst (λ (shapes : List TyShape). (ty : Ty) → IsType (table_of shapes c.set_fields.new.items) ty → (fact_at c.args.known.now ty).complete ≡ true → slice_get c.args.known.now ty.0 ≡ Some (known_of (table_of shapes c.set_fields.new.items) ty)) (sym c.as_slice.ensures.keys)
    (defined_ready c.args.shapes.now.keys c.args.items.now c.args.known.now c.requires.kept c.args.item c.requires.declared c.requires.once c.args.fields c.requires.fields c.set_fields.new.items c.set_fields.ensures)

pub refresh-requires-clause-fields : goal.refresh-requires-clause-fields
refresh-requires-clause-fields c =
    subst (λ (shapes : List TyShape). (other : ℕ) (others : List Field) → fields_at (table_of shapes c.set_fields.new.items) other ≡ Some others
    → AllByRecursion (λ (field : Field). slice_get c.args.known.now field.ty.0 ≡ Some (known_of (table_of shapes c.set_fields.new.items) field.ty)) others) (sym c.as_slice.ensures.keys)
    (defined_known c.args.shapes.now.keys c.args.items.now c.args.known.now c.requires.kept c.args.item c.requires.declared c.requires.once c.args.fields c.requires.fields c.set_fields.new.items c.set_fields.ensures)

pub returns-clause-kept : goal.returns-clause-kept
returns-clause-kept c =
    defined_kept c.args.shapes.now.keys c.args.items.now c.args.known.now c.requires.kept c.args.item c.requires.declared c.requires.once c.args.fields c.requires.fields c.set_fields.new.items c.set_fields.ensures
    c.refresh.new.known c.refresh.auto.known
    (subst (λ (shapes : List TyShape). (ty : Ty) → IsType (table_of shapes c.set_fields.new.items) ty → slice_get c.refresh.new.known ty.0 ≡ Some (known_of (table_of shapes c.set_fields.new.items) ty)) c.as_slice.ensures.keys c.refresh.ensures)

pub returns-clause-types : goal.returns-clause-types
returns-clause-types c =
    defined_types c.args.shapes.now.keys c.args.items.now c.args.known.now c.requires.kept c.args.item c.requires.declared c.requires.once c.args.fields c.requires.fields c.set_fields.new.items c.set_fields.ensures

pub returns-clause-extends : goal.returns-clause-extends
returns-clause-extends c =
    defined_extends c.args.shapes.now.keys c.args.items.now c.args.known.now c.requires.kept c.args.item c.requires.declared c.requires.once c.args.fields c.requires.fields c.set_fields.new.items c.set_fields.ensures

use Rattle.std.proofs.Common.{◌∙◌, ap, sym, subst, List, [], ◌∷◌, ◌++◌, map, if◌then◌else◌}
use Rattle.std.specs.List.{AllByRecursion, list_any}
use Rattle.tb_types.specs.declared.shape.TyShape.{TyShape}
use Rattle.tb_types.specs.declared.known.Known.{Known}
use Rattle.tb_types.specs.Shapes.{shape_eq}
use Rattle.tb_types.specs.Table.{AreNamed, IsType, named_in}
use Rattle.tb_types.specs.Folded.{node_in}
use Rattle.tb_types.specs.Known.{known_by, known_at, IsWithin, ArePlain, AreSmall}
use Rattle.tb_types.specs.Kept.{table_of}
use Rattle.tb_types.proofs.Keeping.{own_within, kept_with, kept_plain, kept_small, placed, only_place, extends_to}
use Rattle.tb_types.proofs.tables.intern_in.Goals as goal

pub known_of_shape-own-requires-clause-within : goal.known_of_shape-own-requires-clause-within
known_of_shape-own-requires-clause-within c =
    subst (λ (known : List Known). AllByRecursion (IsWithin known) (node_in (table_of c.as_slice.result.now c.args.items.now) c.args.shape).parts) (sym c.deref.ensures.value)
    (own_within c.args.shapes.now.keys c.args.items.now c.args.known.now.items c.requires.kept c.args.shape c.requires.named)

pub known_of_shape-own-requires-clause-named : goal.known_of_shape-own-requires-clause-named
known_of_shape-own-requires-clause-named c =
    subst (λ (shapes : List TyShape). AllByRecursion (IsType (table_of shapes c.args.items.now)) (named_in c.args.shape)) (sym c.as_slice.ensures.keys) c.requires.named

pub known_of_shape-own-requires-clause-names : goal.known_of_shape-own-requires-clause-names
known_of_shape-own-requires-clause-names c = subst AreNamed (sym c.as_slice.ensures.keys) c.requires.kept.sound.names

pub known_of_shape-own-requires-clause-plain : goal.known_of_shape-own-requires-clause-plain
known_of_shape-own-requires-clause-plain c =
    subst (λ (shapes : List TyShape). ArePlain (table_of shapes c.args.items.now) c.deref.result.now) (sym c.as_slice.ensures.keys)
    (subst (ArePlain (table_of c.args.shapes.now.keys c.args.items.now)) (sym c.deref.ensures.value) (kept_plain c.args.shapes.now.keys c.args.items.now c.args.known.now.items c.requires.kept))

pub known_of_shape-own-requires-clause-small : goal.known_of_shape-own-requires-clause-small
known_of_shape-own-requires-clause-small c = subst AreSmall (sym c.deref.ensures.value) (kept_small c.args.shapes.now.keys c.args.items.now c.args.known.now.items c.requires.kept)

pub returns-clause-kept : goal.returns-clause-kept
returns-clause-kept c =
    kept_with c.args.shapes.now.keys c.args.items.now c.args.known.now.items c.requires.kept c.args.shape c.requires.named c.requires.declared
    c.add_shape.new.shapes.keys c.add_shape.new.known.items c.in_ok-place.ensures.shapes
    (c.in_ok-place.ensures.known ∙ ap (λ (own : Known). if list_any (shape_eq c.args.shape) c.args.shapes.now.keys then c.args.known.now.items else c.args.known.now.items ++ own ∷ [])
    (c.known_of_shape-own.ensures.known ∙ ap (λ (shapes : List TyShape). known_by (node_in (table_of shapes c.args.items.now) c.args.shape) (map (known_at c.deref.result.now) (node_in (table_of shapes c.args.items.now) c.args.shape).parts)) c.as_slice.ensures.keys
    ∙ ap (λ (known : List Known). known_by (node_in (table_of c.args.shapes.now.keys c.args.items.now) c.args.shape) (map (known_at known) (node_in (table_of c.args.shapes.now.keys c.args.items.now) c.args.shape).parts)) c.deref.ensures.value))
    c.in_ok-place.ensures.distinct c.requires.room

pub returns-clause-shape : goal.returns-clause-shape
returns-clause-shape c = placed c.args.shapes.now.keys c.add_shape.new.shapes.keys c.args.shape c.in_ok-place.place c.in_ok-place.ensures.shapes c.in_ok-place.ensures.place

pub returns-clause-one : goal.returns-clause-one
returns-clause-one c = only_place c.add_shape.new.shapes.keys c.args.items.now c.add_shape.new.known.items (returns-clause-kept c) c.in_ok-place.place c.args.shape (returns-clause-shape c)

pub returns-clause-extends : goal.returns-clause-extends
returns-clause-extends c = extends_to c.args.shapes.now.keys c.add_shape.new.shapes.keys c.args.items.now c.args.known.now.items c.requires.kept c.args.shape c.in_ok-place.ensures.shapes

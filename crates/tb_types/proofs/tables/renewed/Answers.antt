use Rattle.std.proofs.Common.{◌≡◌, refl, sym, ◌∙◌, ap, subst, ◌<◌, false, Some, slice_get, length, arith}
use Rattle.std.proofs.lemmas.Option.{slice_get_read}
use Rattle.tb_types.specs.declared.known.Known.{Known}
use Rattle.tb_types.specs.Capped.{IsSmall}
use Rattle.tb_types.specs.Known.{fact_at, renewed}
use Rattle.tb_types.specs.Kept.{table_of}
use Rattle.tb_types.proofs.Plain.{same_read}
use Rattle.tb_types.proofs.Refreshed.{within_at, named_at, anew}
use Rattle.tb_types.proofs.tables.renewed.Goals as goal

pub returns-then-own-clause-small : goal.returns-then-own-clause-small
returns-then-own-clause-small c =
    let h : c.args.at < length c.args.known.now = (let a = c.requires.at in let e = c.requires.len in omega arith) in
    subst (λ (known : Known). IsSmall known.extent) (sym (same_read c.args.known.now (record { 0 = c.args.at }) _ h)) (c.requires.small (record { 0 = c.args.at }) h)

pub known_of_shape-requires-clause-within : goal.known_of_shape-requires-clause-within
known_of_shape-requires-clause-within c =
    let here : slice_get c.args.shapes.now c.args.at ≡ Some c.index-shapes-at.result = slice_get_read c.args.shapes.now (length c.args.shapes.now) c.args.at c.index-shapes-at.result refl c.requires.at c.index-shapes-at.is in
    within_at (table_of c.args.shapes.now c.args.items.now) c.requires.sound c.args.known.now c.args.at c.index-shapes-at.result here c.requires.len

pub known_of_shape-requires-clause-named : goal.known_of_shape-requires-clause-named
known_of_shape-requires-clause-named c =
    let here : slice_get c.args.shapes.now c.args.at ≡ Some c.index-shapes-at.result = slice_get_read c.args.shapes.now (length c.args.shapes.now) c.args.at c.index-shapes-at.result refl c.requires.at c.index-shapes-at.is in
    named_at (table_of c.args.shapes.now c.args.items.now) c.requires.sound c.args.known.now c.args.at c.index-shapes-at.result here c.requires.len

pub returns-clause-known : goal.returns-clause-known
returns-clause-known c = λ shape e.
    let here : slice_get c.args.shapes.now c.args.at ≡ Some c.index-shapes-at.result = slice_get_read c.args.shapes.now (length c.args.shapes.now) c.args.at c.index-shapes-at.result refl c.requires.at c.index-shapes-at.is in
    let h : c.args.at < length c.args.known.now = (let a = c.requires.at in let l = c.requires.len in omega arith) in
    let f : c.index-shapes-at.result ≡ shape = cc in
    let waits : (fact_at c.args.known.now (record { 0 = c.args.at })).complete ≡ false = ap (λ (known : Known). known.facts.complete) (sym (same_read c.args.known.now (record { 0 = c.args.at }) _ h)) ∙ c.if-own.false in
    c.known_of_shape.ensures.known
    ∙ anew (table_of c.args.shapes.now c.args.items.now) c.requires.sound c.args.known.now c.args.at c.index-shapes-at.result here c.requires.len waits
    ∙ ap (renewed (table_of c.args.shapes.now c.args.items.now) c.args.known.now c.args.at) f

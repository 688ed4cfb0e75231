use Rattle.std.proofs.Common.{◌≡◌, ◌∙◌, Some, slice_get}
use Rattle.std.proofs.lemmas.List.{length-set}
use Rattle.tb_types.specs.declared.shape.TyShape.{TyShape}
use Rattle.tb_types.specs.Kept.{table_of}
use Rattle.tb_types.proofs.Within.{get_found}
use Rattle.tb_types.proofs.Refreshed.{done_next, kept_next, rest_next, plain_next, small_next}
use Rattle.tb_types.proofs.tables.refresh.Goals as goal

pub loop-at-preserved : goal.loop-at-preserved
loop-at-preserved c =
    let types = table_of c.args.shapes.now c.args.items.now in
    let found : (shape : TyShape) × (slice_get c.args.shapes.now c.loop-at.at ≡ Some shape) = get_found c.args.shapes.now c.loop-at.at c.loop-at-test.true in
    let is = c.renewed.ensures.known found.0 found.1 in
    record {
      len = length-set c.loop-at.known c.loop-at.at c.renewed.result ∙ c.loop-at.invariant.len;
      done = done_next types c.requires.sound c.loop-at.known c.loop-at.at found.0 found.1 c.loop-at.invariant.len c.args.known.now c.requires.fields c.requires.ready c.loop-at.invariant.done c.loop-at.invariant.kept c.loop-at.invariant.rest c.renewed.result is;
      kept = kept_next types c.requires.sound c.loop-at.known c.loop-at.at found.0 found.1 c.loop-at.invariant.len c.args.known.now c.requires.fields c.requires.ready c.loop-at.invariant.done c.loop-at.invariant.kept c.loop-at.invariant.rest c.renewed.result is;
      rest = rest_next types c.requires.sound c.loop-at.known c.loop-at.at found.0 found.1 c.loop-at.invariant.len c.args.known.now c.requires.fields c.requires.ready c.loop-at.invariant.done c.loop-at.invariant.kept c.loop-at.invariant.rest c.renewed.result is;
      plain = plain_next types c.requires.sound c.loop-at.known c.loop-at.at found.0 found.1 c.loop-at.invariant.len c.args.known.now c.requires.fields c.requires.ready c.loop-at.invariant.done c.loop-at.invariant.kept c.loop-at.invariant.rest c.renewed.result is c.loop-at.invariant.plain;
      small = small_next types c.requires.sound c.loop-at.known c.loop-at.at found.0 found.1 c.loop-at.invariant.len c.args.known.now c.requires.fields c.requires.ready c.loop-at.invariant.done c.loop-at.invariant.kept c.loop-at.invariant.rest c.renewed.result is c.renewed.ensures.small c.loop-at.invariant.small;
    }

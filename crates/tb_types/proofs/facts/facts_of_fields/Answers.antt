use Rattle.std.proofs.Common.{refl, map, length}
use Rattle.std.proofs.lemmas.Option.{slice_get_read}
use Rattle.tb_types.specs.Facts.{beside}
use Rattle.tb_types.specs.Known.{fact_at, IsWithin}
use Rattle.tb_types.specs.Folded.{types_in}
use Rattle.tb_types.proofs.FactsLemmas.{next_field, within_next_field}
use Rattle.tb_types.proofs.facts.facts_of_fields.Goals as goal

pub loop-field-preserved : goal.loop-field-preserved
loop-field-preserved c = record {
  within = (within_next_field (IsWithin c.args.known.now) c.args.fields.now c.loop-field.field-index c.field-item.result (slice_get_read c.args.fields.now (length c.args.fields.now) c.loop-field.field-index c.field-item.result refl c.loop-field-test.true c.field-item.is) c.loop-field.invariant.within).1;
  told = next_field (fact_at c.args.known.now) c.args.fields.now c.loop-field.field-index c.field-item.result c.loop-field.all c.with_part-all.result (beside (map (fact_at c.args.known.now) (types_in c.args.fields.now)))
      (slice_get_read c.args.fields.now (length c.args.fields.now) c.loop-field.field-index c.field-item.result refl c.loop-field-test.true c.field-item.is) c.with_part-all.ensures c.loop-field.invariant.told;
}

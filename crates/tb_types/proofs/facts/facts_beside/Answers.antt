use Rattle.std.proofs.Common.{map}
use Rattle.std.proofs.lemmas.Option.{slice_get-get_or}
use Rattle.tb_types.specs.Facts.{beside}
use Rattle.tb_types.specs.Known.{fact_at, IsWithin}
use Rattle.tb_types.proofs.FactsLemmas.{next_part, within_next}
use Rattle.tb_types.proofs.facts.facts_beside.Goals as goal

pub loop-part-preserved : goal.loop-part-preserved
loop-part-preserved c = record {
  within = (within_next (IsWithin c.args.known.now) c.args.parts.now c.loop-part.part-index _ (slice_get-get_or c.args.parts.now c.loop-part.part-index (record { 0 = 0 }) c.loop-part-test.true) c.loop-part.invariant.within).1;
  told = next_part (fact_at c.args.known.now) c.args.parts.now c.loop-part.part-index _ c.loop-part.all c.with_part-all.result (beside (map (fact_at c.args.known.now) c.args.parts.now))
      (slice_get-get_or c.args.parts.now c.loop-part.part-index _ c.loop-part-test.true) c.with_part-all.ensures c.loop-part.invariant.told;
}

use Rattle.std.proofs.Common.{◌∙◌, ap, map}
use Rattle.std.proofs.lemmas.Option.{slice_get-get_or}
use Rattle.tb_types.specs.declared.extent.Extent.{Extent}
use Rattle.tb_types.specs.Extent.{nothing, laid, with_part}
use Rattle.tb_types.specs.Capped.{capped_row}
use Rattle.tb_types.specs.Known.{extent_at, IsWithin}
use Rattle.tb_types.proofs.FactsLemmas.{within_next}
use Rattle.tb_types.proofs.Plain.{row_part}
use Rattle.tb_types.proofs.known.row_of_parts.Goals as goal

pub loop-part-preserved : goal.loop-part-preserved
loop-part-preserved c =
    let here = slice_get-get_or c.args.parts.now c.loop-part.part-index (record { 0 = 0 }) c.loop-part-test.true in
    let within = within_next (IsWithin c.args.known.now) c.args.parts.now c.loop-part.part-index _ here c.loop-part.invariant.within in
    record {
      within = within.1;
      small = c.with_part-row.ensures.small;
      told = row_part c.args.known.now c.requires.small c.args.parts.now c.loop-part.part-index _ c.loop-part.row c.with_part-row.result (capped_row (laid nothing (map (extent_at c.args.known.now) c.args.parts.now))) here
          (c.with_part-row.ensures.row ∙ ap (λ (e : Extent). capped_row (with_part c.loop-part.row e)) c.extent_at.ensures.extent) within.1 c.loop-part.invariant.told;
    }

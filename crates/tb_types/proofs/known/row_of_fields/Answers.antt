use Rattle.std.proofs.Common.{refl, ◌∙◌, ap, map, length}
use Rattle.std.proofs.lemmas.Option.{slice_get_read}
use Rattle.tb_types.specs.declared.extent.Extent.{Extent}
use Rattle.tb_types.specs.Folded.{types_in}
use Rattle.tb_types.specs.Extent.{nothing, laid, with_part}
use Rattle.tb_types.specs.Capped.{capped_row}
use Rattle.tb_types.specs.Known.{extent_at, IsWithin}
use Rattle.tb_types.proofs.FactsLemmas.{within_next_field}
use Rattle.tb_types.proofs.Plain.{row_field}
use Rattle.tb_types.proofs.known.row_of_fields.Goals as goal

pub loop-field-preserved : goal.loop-field-preserved
loop-field-preserved c =
    let here = slice_get_read c.args.fields.now (length c.args.fields.now) c.loop-field.field-index c.field-item.result refl c.loop-field-test.true c.field-item.is in
    let within = within_next_field (IsWithin c.args.known.now) c.args.fields.now c.loop-field.field-index c.field-item.result here c.loop-field.invariant.within in
    record {
      within = within.1;
      small = c.with_part-row.ensures.small;
      told = row_field c.args.known.now c.requires.small c.args.fields.now c.loop-field.field-index c.field-item.result c.loop-field.row c.with_part-row.result (capped_row (laid nothing (map (extent_at c.args.known.now) (types_in c.args.fields.now)))) here
          (c.with_part-row.ensures.row ∙ ap (λ (e : Extent). capped_row (with_part c.loop-field.row e)) c.extent_at.ensures.extent) within.1 c.loop-field.invariant.told;
    }

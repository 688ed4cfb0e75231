use Rattle.std.proofs.Common.{length, false, ap, sym, ◌∙◌, rules}
use Rattle.std.proofs.lemmas.List.{length-replicate}
use Rattle.tb_bytes.specs.Parts.{byte_list}
use Rattle.tb_bytes.proofs.PartsLaws.{byte_list_new, clear_new}
use Rattle.tb_bytes.proofs.bytes.Bytes.new.Goals as goal

pub invariant_of-result : goal.invariant_of-result
invariant_of-result c =
    let filled = c.in-Ok.ensures.items_if_clones_equal (λ y e. search rules) in (
      ap length filled ∙ length-replicate c.args.size 0 ∙ sym (length-replicate c.args.size false) ∙ ap length (sym c.in-Ok-new.ensures),
      rw (c.in-Ok-new.ensures, c.in-Ok-new-2.ensures) (clear_new c.args.size),
    )

pub returns : goal.returns
returns c =
    let filled = c.in-Ok.ensures.items_if_clones_equal (λ y e. search rules) in
    ap (λ vs. byte_list vs c.in-Ok-new.init c.in-Ok-new-2.provs) filled ∙ rw (c.in-Ok-new.ensures, c.in-Ok-new-2.ensures) (byte_list_new c.args.size)

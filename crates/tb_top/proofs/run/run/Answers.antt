use Rattle.std.proofs.Common.{◌≤◌, length, ◌∙◌, sym, ap, refl, arith}
use Rattle.std.specs.Option.{option_copied}
use Rattle.std.proofs.lemmas.Result.{err_from_is_err_and}
use Rattle.tb_base.proofs.GrowthLaws.{Stays-refl}
use Rattle.tb_top.specs.Output.{longest}
use Rattle.tb_top.proofs.StageLaws.{parse_failed, ran_to}
use Rattle.tb_top.proofs.run.run.Goals as goal

pub returns-in_err-tree : goal.returns-in_err-tree
returns-in_err-tree g c =
    let p = err_from_is_err_and c.from_residual-in_err-tree.result c.from_residual-in_err-tree.ensures.1 in
    let named = sym c.file_word.ensures ∙ ap option_copied c.in_ok-name.ensures.ok_part in
    let size : length c.as_slice-text.result.now ≤ longest = omega (arith, ap length c.as_slice-text.ensures.value, c.in_ok-source.source.ok.0, c.in_ok-source.ensures.source.1) in
    rw (p.1, p.2) (parse_failed (Unit {0}) _ _ _ c.in_ok-name.name.now c.as_slice-text.result.now c.in_err-tree.field-0.0
    (record { named = named; asked = c.in_ok-source.ensures.asked })
    (rw c.as_slice-text.ensures.value c.in_ok-source.ensures.source.0) c.in_ok-source.ensures.count size c.in_err-tree.ensures.not_built
    (record { bytes = Stays-refl _; faults = refl }))

pub returns : goal.returns
returns g c =
    let named = sym c.file_word.ensures ∙ ap option_copied c.in_ok-name.ensures.ok_part in
    let size : length c.as_slice-text.result.now ≤ longest = omega (arith, ap length c.as_slice-text.ensures.value, c.in_ok-source.source.ok.0, c.in_ok-source.ensures.source.1) in
    ran_to (Unit {0}) _ _ _ c.as_slice-text.result.now c.in_ok-mir.mir c.run_mir.result
    (record {
      read = record { name = c.in_ok-name.name.now; opened = record { named = named; asked = c.in_ok-source.ensures.asked }; found = rw c.as_slice-text.ensures.value c.in_ok-source.ensures.source.0; faults = c.in_ok-source.ensures.count };
      size = size;
      tree = c.in_ok-tree.tree;
      related = c.in_ok-tree.ensures.tree;
      only = c.in_ok-tree.ensures.only;
      program = c.in_ok-mir.ensures.program;
    })
    c.run_mir.ensures

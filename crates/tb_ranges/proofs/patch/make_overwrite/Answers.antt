use Rattle.std.proofs.Common.{◌≤◌, ◌-◌, ◌++◌, length, take, drop, append_assoc, sym, subst, ◌∙◌, arith}
use Rattle.tb_ranges.specs.Runs.{expanded}
use Rattle.tb_ranges.specs.Pieces.{IsRebuilt}
use Rattle.tb_ranges.proofs.RunLaws.{in_order}
use Rattle.tb_ranges.proofs.patch.make_overwrite.Goals as goal

pub returns-clause-bounds : goal.returns-clause-bounds
returns-clause-bounds g c =
    let runs = c.args.runs.now in
    let order : c.in_ok-start.field-0.first ≤ c.find_run-past.result =
    in_order (length (expanded runs)) c.in_ok-start.field-0.first c.find_run-past.result c.args.lo (c.args.hi - 1) runs c.requires.runs c.in_ok-start.ensures.first.0 (omega arith) c.find_run-past.ensures.ends
    in
    (omega (arith, c.in_ok-start.ensures.bounds.0, c.in_ok-end.ensures.bounds.0), c.in_ok-end.ensures.bounds.1)

pub returns-clause-runs : goal.returns-clause-runs
returns-clause-runs g c =
    let runs = c.args.runs.now in
    let front = take c.in_ok-start.field-0.start runs in
    let values = take c.args.lo (expanded runs) ++ expanded c.args.new.now in
    let added = c.in_ok-push_all.ensures.adds front _ c.in_ok-start.ensures.values in
    let done = c.in_ok-end.ensures.completes front values (subst (λ n. IsRebuilt front c.push_all.new.out.items n values) (sym c.requires.long) added) in
    done.0

pub returns-clause-values : goal.returns-clause-values
returns-clause-values g c =
    let runs = c.args.runs.now in
    let front = take c.in_ok-start.field-0.start runs in
    let values = take c.args.lo (expanded runs) ++ expanded c.args.new.now in
    let added = c.in_ok-push_all.ensures.adds front _ c.in_ok-start.ensures.values in
    let done = c.in_ok-end.ensures.completes front values (subst (λ n. IsRebuilt front c.push_all.new.out.items n values) (sym c.requires.long) added) in
    done.1 ∙ append_assoc (take c.args.lo (expanded runs)) (expanded c.args.new.now) (drop c.args.hi (expanded runs))

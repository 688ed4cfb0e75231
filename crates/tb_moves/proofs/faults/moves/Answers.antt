use Rattle.std.proofs.Common.{◌≡◌, ◌∙◌, ◌≤◌, length, ap, sym, subst, None, Some}
use Rattle.std.proofs.lemmas.List.{drop_all}
use Rattle.tb_moves.specs.Moves.{IsFaultIn}
use Rattle.tb_moves.specs.Firsts.{faults_from}
use Rattle.tb_moves.proofs.Least.{IsLeast}
use Rattle.tb_moves.proofs.Ordered.{least_fault}
use Rattle.tb_moves.proofs.faults.moves.Goals as goal

pub returns-in-None-clause-none : goal.returns-in-None-clause-none
returns-in-None-clause-none c =
    let thir = c.args.thir.now in
    let left = drop_all c.loop-function.function-index thir.functions (subst (λ fs. length fs ≤ c.loop-function.function-index) c.as_slice-function-items.ensures c.loop-function-test.false) in
    let found : faults_from thir.types None thir.functions ≡ None =
    sym c.loop-function.invariant ∙ ap (λ fs. faults_from thir.types c.loop-function.first fs) left ∙ c.in-None.is in
    λ _. subst (IsLeast (IsFaultIn thir.types thir.functions)) found (least_fault thir.types thir.functions)

pub returns-in-Some-clause-first : goal.returns-in-Some-clause-first
returns-in-Some-clause-first c =
    let thir = c.args.thir.now in
    let left = drop_all c.loop-function.function-index thir.functions (subst (λ fs. length fs ≤ c.loop-function.function-index) c.as_slice-function-items.ensures c.loop-function-test.false) in
    let found : faults_from thir.types None thir.functions ≡ Some c.in-Some.fault =
    sym c.loop-function.invariant ∙ ap (λ fs. faults_from thir.types c.loop-function.first fs) left ∙ c.in-Some.is in
    subst (IsLeast (IsFaultIn thir.types thir.functions)) found (least_fault thir.types thir.functions)

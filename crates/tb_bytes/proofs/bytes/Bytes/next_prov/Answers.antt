use Rattle.std.proofs.Common.{◌≢◌, ◌≤◌, ℕ, map, Option, Some, List, ap, sym, ◌∙◌, subst, MatchOption}
use Rattle.std.specs.List.{slice_get}
use Rattle.tb_perm.specs.declared.tag.Prov.{Prov}
use Rattle.tb_bytes.specs.Bytes.{prov_of, IsNextRun}
use Rattle.tb_bytes.proofs.PartsLaws.{provs_are}
use Rattle.tb_bytes.proofs.bytes.Bytes.next_prov.Goals as goal

pub returns : goal.returns
returns c =
    let same = c.runs.ensures.values ∙ sym (provs_are c.self.inside.values.items c.self.inside.init c.self.inside.provs c.self.invariant) ∙ ap (map prov_of) c.self.view_is in
    subst (λ (provs : List (Option Prov)). MatchOption c.next_run.result ((k : ℕ) (prov : Prov) → c.args.at ≤ k → slice_get provs k ≢ Some (Some prov)) (λ run. IsNextRun c.args.at provs run.0 run.1)) same c.next_run.ensures

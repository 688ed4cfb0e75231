use Rattle.std.proofs.Common.{◌↔◌, map, Option, Some, List, ap, sym, ◌∙◌, subst, IfOk}
use Rattle.std.specs.List.{Contains}
use Rattle.tb_perm.specs.declared.tag.Prov.{Prov}
use Rattle.tb_bytes.specs.Bytes.{prov_of}
use Rattle.tb_bytes.proofs.PartsLaws.{provs_are}
use Rattle.tb_bytes.proofs.bytes.Bytes.provenances.Goals as goal

pub returns-clause-members : goal.returns-clause-members
returns-clause-members c =
    let same = sym (provs_are c.self.inside.values.items c.self.inside.init c.self.inside.provs c.self.invariant) ∙ ap (map prov_of) c.self.view_is in
    subst (λ (provs : List (Option Prov)). IfOk c.list_provs.result (λ list. (prov : Prov) → Contains list.items prov ↔ Contains provs (Some prov))) same c.list_provs.ensures.members

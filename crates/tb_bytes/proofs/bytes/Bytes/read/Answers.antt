use Rattle.std.proofs.Common.{◌≡◌, ◌≤◌, ◌+◌, length, drop, IfOk, ap, sym, ◌∙◌, subst, arith}
use Rattle.std.specs.List.{slice_range}
use Rattle.std.proofs.lemmas.List.{length-drop}
use Rattle.tb_bytes.specs.Parts.{byte_list}
use Rattle.tb_bytes.proofs.PartsLaws.{length_parts, clear_long, byte_list-part}
use Rattle.tb_bytes.proofs.bytes.Bytes.read.Goals as goal

pub read_from-init-requires : goal.read_from-init-requires
read_from-init-requires c =
    omega (arith, c.requires.within, c.requires.order, length_parts c.self.inside.values.items c.self.inside.init c.self.inside.provs c.self.invariant, ap length c.self.view_is, c.self.invariant.0)

pub read_from-provs-requires : goal.read_from-provs-requires
read_from-provs-requires c =
    omega (arith, c.requires.within, c.requires.order, length_parts c.self.inside.values.items c.self.inside.init c.self.inside.provs c.self.invariant, ap length c.self.view_is, c.self.invariant.0, clear_long c.self.inside.init c.self.inside.provs c.self.invariant.1)

pub read_bytes-requires-clause-within : goal.read_bytes-requires-clause-within
read_bytes-requires-clause-within c =
    omega (arith, c.requires.within, length_parts c.self.inside.values.items c.self.inside.init c.self.inside.provs c.self.invariant, ap length c.self.view_is, ap length c.deref.ensures.value)

pub read_bytes-requires-clause-init : goal.read_bytes-requires-clause-init
read_bytes-requires-clause-init c =
    omega (arith, ap length c.read_from-init.ensures, length-drop c.args.lo c.self.inside.init, c.requires.within, length_parts c.self.inside.values.items c.self.inside.init c.self.inside.provs c.self.invariant, ap length c.self.view_is, c.self.invariant.0)

pub read_bytes-requires-clause-provs : goal.read_bytes-requires-clause-provs
read_bytes-requires-clause-provs c =
    omega (arith, ap length c.read_from-provs.ensures, length-drop c.args.lo c.self.inside.provs, c.requires.within, length_parts c.self.inside.values.items c.self.inside.init c.self.inside.provs c.self.invariant, ap length c.self.view_is, c.self.invariant.0, clear_long c.self.inside.init c.self.inside.provs c.self.invariant.1)

pub returns : goal.returns
returns c =
    let lo = c.args.lo in
    let hi = c.args.hi in
    let values = c.self.inside.values.items in
    let init = c.self.inside.init in
    let provs = c.self.inside.provs in
    let is =
    ap (λ vs. byte_list (slice_range vs lo hi) c.read_from-init.result c.read_from-provs.result) c.deref.ensures.value
    ∙ ap (λ xs. byte_list (slice_range values lo hi) xs c.read_from-provs.result) c.read_from-init.ensures
    ∙ ap (byte_list (slice_range values lo hi) (drop lo init)) c.read_from-provs.ensures
    ∙ byte_list-part lo hi values init provs
    ∙ ap (λ bytes. slice_range bytes lo hi) c.self.view_is
    in
    subst (λ xs. IfOk c.read_bytes.result (λ bytes. bytes.items ≡ xs)) is c.read_bytes.ensures

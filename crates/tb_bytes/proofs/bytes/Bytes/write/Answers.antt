use Rattle.std.proofs.Common.{◌≡◌, ◌≤◌, ◌+◌, ◌-◌, length, map, ap, sym, ◌∙◌, subst, arith}
use Rattle.std.specs.List.{splice}
use Rattle.std.proofs.lemmas.List.{with_items_is, length-map}
use Rattle.tb_bytes.specs.Bytes.{is_init, prov_of, value_of, OnlyChanges}
use Rattle.tb_bytes.specs.Parts.{byte_list, AreParts}
use Rattle.tb_bytes.proofs.Splices.{length-splice, only_spliced}
use Rattle.tb_bytes.proofs.PartsLaws.{length_parts, clear_long, byte_list-splice, byte_list_of, marks_only}
use Rattle.tb_bytes.proofs.bytes.Bytes.write.Goals as goal

pub mark-requires-clause-within : goal.mark-requires-clause-within
mark-requires-clause-within c =
    omega (arith, length_parts c.self.inside.values.items c.self.inside.init c.self.inside.provs c.self.invariant, c.self.invariant.0, ap length c.self.view_is, c.requires)

pub returns-in_err-mark-clause-others : goal.returns-in_err-mark-clause-others
returns-in_err-mark-clause-others c =
    let values = c.self.inside.values.items in
    let lo = c.args.lo in
    let hi = lo + length c.args.bytes.now in
    let new : AreParts values c.mark.new.init c.mark.new.provs = (c.self.invariant.0 ∙ sym c.in_err-mark.ensures.other_init.size, c.in_err-mark.ensures.clear) in
    let only = marks_only lo hi values c.self.inside.init c.mark.new.init c.self.inside.provs c.mark.new.provs c.self.invariant new c.in_err-mark.ensures.other_init c.in_err-mark.ensures.other_provs in
    subst (λ old. OnlyChanges lo hi old (byte_list values c.mark.new.init c.mark.new.provs)) c.self.view_is only

pub write_values-requires : goal.write_values-requires
write_values-requires c =
    omega (arith, length_parts c.self.inside.values.items c.self.inside.init c.self.inside.provs c.self.invariant, ap length c.self.view_is, c.requires, ap length c.deref_mut.ensures.value)

pub returns-clause-value : goal.returns-clause-value
returns-clause-value c =
    let values = c.self.inside.values.items in
    let init = c.self.inside.init in
    let provs = c.self.inside.provs in
    let bytes = c.args.bytes.now in
    let lo = c.args.lo in
    let hi = lo + length bytes in
    let many = length_parts values init provs c.self.invariant in
    let within : hi ≤ length values = omega (arith, many, ap length c.self.view_is, c.requires) in
    let few : length init ≡ length values = sym c.self.invariant.0 in
    let long : length provs ≡ length values = clear_long init provs c.self.invariant.1 ∙ few in
    let written = c.write_values.ensures ∙ ap (λ xs. splice xs lo hi (map value_of bytes)) c.deref_mut.ensures.value in
    let part : length (map value_of bytes) ≡ hi - lo = omega (arith, length-map bytes value_of) in
    let kept = ap length written ∙ length-splice values (map value_of bytes) lo hi (omega arith) within part in
    let whole = with_items_is c.self.inside.values c.write_values.new.values (kept ∙ sym c.self.inside.values.ok.0) in
    ap (λ xs. byte_list xs c.mark.new.init c.mark.new.provs) (whole ∙ written)
    ∙ ap (λ xs. byte_list (splice values lo hi (map value_of bytes)) xs c.mark.new.provs) c.in_ok-mark.ensures.init
    ∙ ap (byte_list (splice values lo hi (map value_of bytes)) (splice init lo hi (map is_init bytes))) c.in_ok-mark.ensures.provs
    ∙ byte_list-splice lo hi values (map value_of bytes) init (map is_init bytes) provs (map prov_of bytes) (omega arith) few long (length-map bytes is_init ∙ sym (length-map bytes value_of)) (length-map bytes prov_of ∙ sym (length-map bytes value_of))
    ∙ ap (splice (byte_list values init provs) lo hi) (byte_list_of bytes)
    ∙ ap (λ xs. splice xs lo hi bytes) c.self.view_is

pub returns-clause-others : goal.returns-clause-others
returns-clause-others c =
    let lo = c.args.lo in
    let hi = lo + length c.args.bytes.now in
    subst (OnlyChanges lo hi c.args.self.now) (sym (returns-clause-value c)) (only_spliced c.args.self.now c.args.bytes.now lo hi (omega arith) c.requires (omega arith))

use Rattle.std.proofs.Common.{◌≡◌, ap, sym, subst, ◌∙◌, [], List, length}
use Rattle.std.specs.declared.vec.Vec.{Vec}
use Rattle.std.specs.declared.alloc.Global.{Global}
use Rattle.std.proofs.Common.{ℕ}
use Rattle.tb_ast.specs.declared.item.Struct.{Struct}
use Rattle.tb_order.specs.Graph.{graph_of, AreNodes}
use Rattle.tb_fields.specs.Fields.{structs_of, told_structs, struct_graph}
use Rattle.tb_fields.specs.Defined.{AreDefined, AreBlank}
use Rattle.tb_fields.proofs.Finishing.{graph_count, none_defined, are_nodes, blank_kept, have_before}
use Rattle.tb_fields.proofs.define.define_structs.Goals as goal

pub define_by-requires-clause-count : goal.define_by-requires-clause-count
define_by-requires-clause-count c =
    let told : told_structs c.as_slice-structs.result.now ≡ structs_of c.args.items.now = ap told_structs c.as_slice-structs.ensures.value ∙ c.in_ok-list.ensures in
    let blank : AreBlank c.struct_graph.new.types c.args.items.now = blank_kept c.args.items.now c.args.types.now c.struct_graph.new.types c.in_ok-rows.ensures.kept c.requires.blank in
    subst (λ (list : List Struct). length c.struct_graph.new.types.items ≡ length (struct_graph c.args.file.now list)) (sym told) (graph_count c.args.file.now c.struct_graph.new.types c.args.items.now blank)

pub define_by-requires-clause-blank : goal.define_by-requires-clause-blank
define_by-requires-clause-blank c =
    let told : told_structs c.as_slice-structs.result.now ≡ structs_of c.args.items.now = ap told_structs c.as_slice-structs.ensures.value ∙ c.in_ok-list.ensures in
    let blank : AreBlank c.struct_graph.new.types c.args.items.now = blank_kept c.args.items.now c.args.types.now c.struct_graph.new.types c.in_ok-rows.ensures.kept c.requires.blank in
    subst (λ (list : List Struct). AreDefined c.args.file.now c.struct_graph.new.types c.struct_graph.new.types list []) (sym told) (none_defined c.args.file.now c.struct_graph.new.types c.args.items.now blank)

pub define_by-requires-clause-nodes : goal.define_by-requires-clause-nodes
define_by-requires-clause-nodes c =
    let told : told_structs c.as_slice-structs.result.now ≡ structs_of c.args.items.now = ap told_structs c.as_slice-structs.ensures.value ∙ c.in_ok-list.ensures in
    let blank : AreBlank c.struct_graph.new.types c.args.items.now = blank_kept c.args.items.now c.args.types.now c.struct_graph.new.types c.in_ok-rows.ensures.kept c.requires.blank in
    let count : length c.struct_graph.new.types.items ≡ length (struct_graph c.args.file.now (told_structs c.as_slice-structs.result.now)) =
    subst (λ (list : List Struct). length c.struct_graph.new.types.items ≡ length (struct_graph c.args.file.now list)) (sym told) (graph_count c.args.file.now c.struct_graph.new.types c.args.items.now blank) in
    subst (λ (rows : List (Vec ℕ Global)). AreNodes (graph_of rows)) (sym c.as_slice.ensures.value)
    (are_nodes c.struct_graph.new.types c.in_ok-rows.rows.items (ap length c.in_ok-rows.ensures.are ∙ sym count) c.in_ok-rows.ensures.below)

pub returns : goal.returns
returns c =
    let told : told_structs c.as_slice-structs.result.now ≡ structs_of c.args.items.now = ap told_structs c.as_slice-structs.ensures.value ∙ c.in_ok-list.ensures in
    record {
      defined = have_before c.args.file.now (structs_of c.args.items.now) (told_structs c.as_slice-structs.result.now) c.args.types.now c.struct_graph.new.types c.define_by.new.types c.define_by.result told c.in_ok-rows.ensures.kept c.define_by.ensures;
    }

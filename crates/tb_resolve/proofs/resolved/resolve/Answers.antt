use Rattle.std.proofs.Common.{◌≡◌, ◌∙◌, ap, sym, subst, Err, None, Result}
use Rattle.std.proofs.lemmas.Result.{err_from_is_err_and}
use Rattle.tb_resolve.specs.declared.error.NameError.{NameError}
use Rattle.tb_resolve.specs.declared.names.Names.{Names}
use Rattle.tb_resolve.specs.Resolved.{Resolves, early_fault}
use Rattle.tb_resolve.proofs.Resolving.{early_none, refused_given, refused_unknown, refused_circle, refused_main, no_circle, accepted, tree_names, declared_twice}
use Rattle.tb_resolve.proofs.resolved.resolve.Goals as goal

pub returns-in_err-pass_given : goal.returns-in_err-pass_given
returns-in_err-pass_given c =
    let p = err_from_is_err_and c.from_residual.result c.from_residual.ensures.1 in
    record {
      resolved = subst (λ (result : Result Names NameError). Resolves c.args.tree.now result) (sym (p.1 ∙ ap (λ e. Err e) p.2))
          (refused_given c.args.tree.now c.as_slice-items.result.now c.as_slice-items.ensures c.in_err-pass_given.field-0.0 _ c.in_err-pass_given.ensures);
    }

pub returns-in_err-meanings : goal.returns-in_err-meanings
returns-in_err-meanings c =
    let p = err_from_is_err_and c.from_residual-in_err-meanings.result c.from_residual-in_err-meanings.ensures.1 in
    record {
      resolved = subst (λ (result : Result Names NameError). Resolves c.args.tree.now result) (sym (p.1 ∙ ap (λ e. Err e) p.2))
          (refused_unknown c.args.tree.now c.as_slice-items.result.now c.as_slice-items.ensures c.in_ok-file.file c.in_ok-file.ensures.names c.in_err-meanings.field-0.0 _ c.in_ok-pass_given.ensures.0 c.in_err-meanings.ensures);
    }

pub define-requires-clause-declared : goal.define-requires-clause-declared
define-requires-clause-declared c =
    declared_twice c.as_slice-items.result.now c.in_ok-file.file c.in_ok-types.types c.meanings_of.new.types c.signatures.new.types c.in_ok-file.ensures.names c.in_ok-types.ensures.declared c.in_ok-meanings.ensures.1.kept c.in_ok-functions.ensures.signatures.kept

pub returns-in_err-define : goal.returns-in_err-define
returns-in_err-define c =
    let p = err_from_is_err_and c.from_residual-in_err-define.result c.from_residual-in_err-define.ensures.1 in
    let early : early_fault c.args.tree.now.items ≡ None = early_none c.args.tree.now c.as_slice-items.result.now c.as_slice-items.ensures c.in_ok-file.file c.in_ok-file.ensures.names c.in_ok-pass_given.ensures.0 c.in_ok-meanings.ensures.0 in
    record {
      resolved = subst (λ (result : Result Names NameError). Resolves c.args.tree.now result) (sym (p.1 ∙ ap (λ e. Err e) p.2))
          (refused_circle c.args.tree.now (Unit {0}) c.as_slice-items.result.now c.as_slice-items.ensures c.in_err-define.field-0.0 _ early c.in_err-define.ensures);
    }

pub returns-in_err-pass : goal.returns-in_err-pass
returns-in_err-pass c =
    let p = err_from_is_err_and c.from_residual-in_err-pass.result c.from_residual-in_err-pass.ensures.1 in
    let early : early_fault c.args.tree.now.items ≡ None = early_none c.args.tree.now c.as_slice-items.result.now c.as_slice-items.ensures c.in_ok-file.file c.in_ok-file.ensures.names c.in_ok-pass_given.ensures.0 c.in_ok-meanings.ensures.0 in
    record {
      resolved = subst (λ (result : Result Names NameError). Resolves c.args.tree.now result) (sym (p.1 ∙ ap (λ e. Err e) p.2))
          (refused_main c.args.tree.now c.in_err-pass.field-0.0 _ c.main_fault.result c.main_fault.ensures.fault early (no_circle c.args.tree.now c.as_slice-items.result.now c.as_slice-items.ensures c.in_ok-define.ensures.0) c.in_err-pass.ensures);
    }

pub returns : goal.returns
returns c =
    let early : early_fault c.args.tree.now.items ≡ None = early_none c.args.tree.now c.as_slice-items.result.now c.as_slice-items.ensures c.in_ok-file.file c.in_ok-file.ensures.names c.in_ok-pass_given.ensures.0 c.in_ok-meanings.ensures.0 in
    record {
      resolved = (
        accepted c.args.tree.now c.main_fault.result c.main_fault.ensures.fault early (no_circle c.args.tree.now c.as_slice-items.result.now c.as_slice-items.ensures c.in_ok-define.ensures.0) c.in_ok-pass.ensures.0,
        tree_names c.args.tree.now c.as_slice-items.result.now c.as_slice-items.ensures c.in_ok-file.file c.in_ok-file.ensures.names c.in_ok-types.types c.meanings_of.new.types c.signatures.new.types _ c.in_ok-types.ensures.types c.in_ok-meanings.ensures.1 c.in_ok-functions.ensures.signatures c.in_ok-define.ensures.1,
      );
    }

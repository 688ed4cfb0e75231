-- Heads of functions, one after another, in a table of types that grows.
use Rattle.std.proofs.Common.{◌≡◌, ℕ, ◌+◌, ◌<◌, List, [], ◌∷◌, ◌++◌, drop, length, map, get_or, arith, Option, Some, None, is_some, Result, Ok, Err, OnOk, refl, ap, subst, sym, ◌∙◌}
use Rattle.std.specs.List.{AllByRecursion}
use Rattle.std.specs.Borrow.{Bor}
use Rattle.std.proofs.lemmas.List.{append_assoc, append-nil}
use Rattle.tb_types.specs.declared.shape.Ty.{Ty}
use Rattle.tb_types.specs.Table.{TypeTable, IsType}
use Rattle.tb_types.specs.Trees.{tree_of}
use Rattle.tb_ast.specs.declared.leaf.Ident.{Ident}
use Rattle.tb_ast.specs.declared.item.Item.{Item}
use Rattle.tb_ast.specs.declared.item.Function.{Function}
use Rattle.tb_names.specs.Names.{name_of, names_of, told}
use Rattle.tb_names.specs.Limits.{type_parameters_of}
use Rattle.tb_lookup.specs.declared.file.Entry.{Entry}
use Rattle.tb_written.specs.Kept.{IsTypeIf, tree_if, trees_if, IsFound, IsMore}
use Rattle.tb_written.proofs.Keeping.{keeps_itself, kept_twice, next}
use Rattle.tb_signatures.specs.declared.signature.Signature.{Signature}
use Rattle.tb_signatures.specs.Signatures.{SignatureOf, told_signature, told_signatures, IsTyped, parameter_tree, output_tree, signature_of, signatures_by, signatures_in, IsSigned, AreSigned, AreSignedBefore}

module _ (old new : TypeTable) (types : (ty : Ty) → IsType old ty → IsType new ty) (trees : (ty : Ty) → IsType old ty → tree_of new ty ≡ tree_of old ty) where
  part_kept : (part : Option Ty) → IsTypeIf old part → IsTypeIf new part
  part_kept None h = tt
  part_kept (Some ty) h = types ty h

  part_told : (part : Option Ty) → IsTypeIf old part → tree_if new part ≡ tree_if old part
  part_told None h = refl
  part_told (Some ty) h = ap Some (trees ty h)

  parts_kept : (parts : List (Option Ty)) → AllByRecursion (IsTypeIf old) parts → AllByRecursion (IsTypeIf new) parts
  parts_kept [] h = tt
  parts_kept (part ∷ parts) h = (part_kept part h.0, parts_kept parts h.1)

  parts_told : (parts : List (Option Ty)) → AllByRecursion (IsTypeIf old) parts → trees_if new parts ≡ trees_if old parts
  parts_told [] h = refl
  parts_told (part ∷ parts) h = ap (λ t. t ∷ trees_if new parts) (part_told part h.0) ∙ ap (λ ts. tree_if old part ∷ ts) (parts_told parts h.1)

  typed_kept : (one : Signature) → IsTyped old one → IsTyped new one
  typed_kept one h = record { parameters = parts_kept one.parameters h.parameters; output = part_kept one.output h.output }

  told_kept : (one : Signature) → IsTyped old one → told_signature new one ≡ told_signature old one
  told_kept one h =
      let p : trees_if new one.parameters ≡ trees_if old one.parameters = parts_told one.parameters h.parameters in
      let o : tree_if new one.output ≡ tree_if old one.output = part_told one.output h.output in
      λ i. record { name = one.name; parameters = p i; output = o i; needs_unsafe = one.needs_unsafe; generic_count = one.generic_count }

  pub all_typed_kept : (list : List Signature) → AllByRecursion (IsTyped old) list → AllByRecursion (IsTyped new) list
  all_typed_kept [] h = tt
  all_typed_kept (one ∷ list) h = (typed_kept one h.0, all_typed_kept list h.1)

  pub all_told_kept : (list : List Signature) → AllByRecursion (IsTyped old) list → told_signatures new list ≡ told_signatures old list
  all_told_kept [] h = refl
  all_told_kept (one ∷ list) h = ap (λ s. s ∷ told_signatures new list) (told_kept one h.0) ∙ ap (λ ss. told_signature old one ∷ ss) (all_told_kept list h.1)

typed_more : (types : TypeTable) (list : List Signature) (one : Signature) → AllByRecursion (IsTyped types) list → IsTyped types one → AllByRecursion (IsTyped types) (list ++ one ∷ [])
typed_more types [] one h k = (k, tt)
typed_more types (first ∷ list) one h k = (h.0, typed_more types list one h.1 k)

told_more : (types : TypeTable) (list : List Signature) (one : Signature) → told_signatures types (list ++ one ∷ []) ≡ told_signatures types list ++ told_signature types one ∷ []
told_more types [] one = refl
told_more types (first ∷ list) one = ap (λ ss. told_signature types first ∷ ss) (told_more types list one)

-- one more head
pub signed_one : (old new : TypeTable) (before after : List Signature) (one : Signature) (right : SignatureOf) → AllByRecursion (IsTyped old) before → IsSigned old new one right → after ≡ before ++ one ∷ [] → AreSigned old new before after (right ∷ [])
signed_one old new before after one right typed is e = record {
  kept = is.kept;
  typed = subst (AllByRecursion (IsTyped new)) (sym e) (typed_more new before one (all_typed_kept old new is.kept.types is.kept.trees before typed) is.typed);
  mean = ap (told_signatures new) e ∙ told_more new before one ∙ ap (λ ss. ss ++ told_signature new one ∷ []) (all_told_kept old new is.kept.types is.kept.trees before typed) ∙ ap (λ s. told_signatures old before ++ s ∷ []) is.means;
}

-- an item that is no function adds none
pub signed_none : (types : TypeTable) (list : List Signature) → AllByRecursion (IsTyped types) list → AreSigned types types list list []
signed_none types list typed = record { kept = keeps_itself types; typed = typed; mean = sym (append-nil (told_signatures types list)) }

-- an item is passed
module _ (file : List Entry) where
  pub sign_on : (first old new : TypeTable) (before after : List Signature) (items : List Item) (at : ℕ) (item : Item) (all : List SignatureOf)
      → at < length items → item ≡ get_or items at item
      → AreSignedBefore first old before (signatures_in file (drop at items)) all
      → AreSigned old new before after (signatures_by file item.kind)
      → AreSignedBefore first new after (signatures_in file (drop (at + 1) items)) all
  sign_on first old new before after items at item all inside is so signed =
      let rest : List Item = drop (at + 1) items in
      record {
        kept = kept_twice first old new so.kept signed.kept;
        typed = signed.typed;
        mean =
            ap (λ ss. ss ++ signatures_in file rest) signed.mean
            ∙ append_assoc (told_signatures old before) (signatures_by file item.kind) (signatures_in file rest)
            ∙ ap (λ list. told_signatures old before ++ signatures_in file list) (sym (next items at item inside is))
            ∙ so.mean;
      }

pub on_ok : {T E : Type 0} {A B : Type 0} (result : Result T E) → (A → B) → OnOk result A → OnOk result B
on_ok (Ok x) f h = f h
on_ok (Err e) f h = h

pub told_count : (idents : List (Bor Ident)) → length (told idents) ≡ length idents
told_count [] = refl
told_count (ident ∷ idents) = let e : length (told idents) ≡ length idents = told_count idents in omega arith

-- the head of a function from its parts
pub signed : (file : List Entry) (old middle new : TypeTable) (function : Function) (generics : List Ident) (one : Signature) (parts : List (Option Ty))
    → generics ≡ type_parameters_of function.generics
    → IsMore old middle [] parts (map (parameter_tree file (names_of generics)) function.parameters)
    → IsFound middle new one.output (output_tree file (names_of generics) function.result)
    → one.name ≡ name_of function.name → one.parameters ≡ parts → one.needs_unsafe ≡ is_some function.unsafe_keyword → one.generic_count ≡ length generics
    → IsSigned old new one (signature_of file function)
signed file old middle new function generics one parts g more found name are unsafe count =
    let p : trees_if new one.parameters ≡ map (parameter_tree file (names_of (type_parameters_of function.generics))) function.parameters =
    ap (trees_if new) are ∙ parts_told middle new found.kept.types found.kept.trees parts more.are_types ∙ more.means ∙ ap (λ gs. map (parameter_tree file (names_of gs)) function.parameters) g in
    let o : tree_if new one.output ≡ output_tree file (names_of (type_parameters_of function.generics)) function.result = found.means ∙ ap (λ gs. output_tree file (names_of gs) function.result) g in
    let n : one.generic_count ≡ length (type_parameters_of function.generics) = count ∙ ap length g in
    record {
      kept = kept_twice old middle new more.kept found.kept;
      typed = record { parameters = subst (AllByRecursion (IsTypeIf new)) (sym are) (parts_kept middle new found.kept.types found.kept.trees parts more.are_types); output = found.is_type };
      means = λ i. record { name = name i; parameters = p i; output = o i; needs_unsafe = unsafe i; generic_count = n i };
    }

-- From the parts of a file to the whole.
use Rattle.std.proofs.Common.{◌≡◌, ℕ, ◌<◌, List, [], Option, Some, None, Err, refl, ap, subst, sym, ◌∙◌, ⊎_elim, arith}
use Rattle.std.specs.Option.{option_map}
use Rattle.std.proofs.lemmas.Bool.{cases_lt}
use Rattle.tb_perm.specs.declared.span.Span.{Span}
use Rattle.tb_perm.specs.declared.code.Code.{Code}
use Rattle.tb_perm.specs.declared.code.Code.TheVariants.{NoMainFunction, UnknownName, TypeHoldsItself}
use Rattle.tb_types.specs.Table.{TypeTable}
use Rattle.tb_ast.specs.declared.item.Item.{Item}
use Rattle.tb_ast.specs.declared.item.Struct.{Struct}
use Rattle.tb_ast.specs.declared.item.Tree.{Tree}
use Rattle.tb_names.specs.Names.{first_of}
use Rattle.tb_names.specs.Main.{main_fault}
use Rattle.tb_order.specs.Graph.{Graph}
use Rattle.tb_order.specs.Answer.{HasNoCircle, IsLeastCircle}
use Rattle.tb_lookup.specs.Files.{file_names}
use Rattle.tb_written.specs.Kept.{Keeps, AreDeclared}
use Rattle.tb_written.proofs.Keeping.{still_declared}
use Rattle.tb_lookup.specs.declared.file.Entry.{Entry}
use Rattle.tb_structs.specs.Structs.{with_items, layout_types, declared_items}
use Rattle.tb_fields.specs.Fields.{structs_of, struct_at, IsFirstCircle}
use Rattle.tb_fields.specs.Defined.{Grows, HaveFields}
use Rattle.tb_fields.proofs.Defining.{grows_kept, grows_twice}
use Rattle.tb_signatures.specs.Signatures.{AreSigned, signatures_in}
use Rattle.tb_signatures.proofs.Signing.{all_typed_kept, all_told_kept}
use Rattle.tb_resolve.specs.declared.error.NameError.{NameError}
use Rattle.tb_resolve.specs.declared.error.NameError.TheVariants.{Refused, Memory}
use Rattle.tb_resolve.specs.declared.names.Names.{Names}
use Rattle.tb_resolve.specs.Meanings.{meanings_in, unknowns_in, unknown_faults, IsListed}
use Rattle.tb_resolve.proofs.Listing.{lists_kept, lists_told}
use Rattle.tb_resolve.specs.Resolved.{Fault, fault, coded, or_fault, given_fault, early_fault, graph_in, IsRefused, IsAccepted, AreNames, Resolves, MeanSame, Passes, PassesCircle}
use Rattle.tb_resolve.specs.Resolved.IsRefused.{Early, Circle, Main}

no_early : (given unknown : Option Fault) → given ≡ None → unknown ≡ None → or_fault given unknown ≡ None
no_early given unknown e f = ap (λ g. or_fault g unknown) e ∙ f

pub none_early : (items : List Item) → given_fault items ≡ None → coded UnknownName (first_of (unknown_faults items)) ≡ None → early_fault items ≡ None
none_early items e f = no_early (given_fault items) (coded UnknownName (first_of (unknown_faults items))) e f

-- what is known of the items of a tree and of the names of the file
module _ (tree : Tree) (items : List Item) (e : items ≡ tree.items) (file : List Entry) (f : file ≡ file_names items) where
  unknown_at : (found : Option Fault) → coded UnknownName (first_of (unknowns_in file items)) ≡ found → coded UnknownName (first_of (unknown_faults tree.items)) ≡ found
  unknown_at found h =
      ap (λ (list : List Item). coded UnknownName (first_of (unknown_faults list))) (sym e) ∙ ap (λ (names : List Entry). coded UnknownName (first_of (unknowns_in names items))) (sym f) ∙ h

  pub early_none : given_fault items ≡ None → coded UnknownName (first_of (unknowns_in file items)) ≡ None → early_fault tree.items ≡ None
  early_none g u = none_early tree.items (ap given_fault (sym e) ∙ g) (unknown_at None u)

  pub refused_unknown : {A : Type 0} (error : NameError) (P : A → Type 0) → given_fault items ≡ None → Passes (Err error) (coded UnknownName (first_of (unknowns_in file items))) P → Resolves tree (Err error)
  refused_unknown (Refused code span) P g h =
      Early (fault code span) (ap (λ first. or_fault first (coded UnknownName (first_of (unknown_faults tree.items)))) (ap given_fault (sym e) ∙ g) ∙ unknown_at (Some (fault code span)) h)
  refused_unknown Memory P g h = tt

-- refused for a limit or a name that is given twice, for a struct that holds itself, or for `main`
module _ (tree : Tree) where
  pub refused_given : {A : Type 0} (items : List Item) (e : items ≡ tree.items) (error : NameError) (P : A → Type 0) → Passes (Err error) (given_fault items) P → Resolves tree (Err error)
  refused_given items e (Refused code span) P h = Early (fault code span) (ap (λ first. or_fault first (coded UnknownName (first_of (unknown_faults tree.items)))) (ap given_fault (sym e) ∙ h))
  refused_given items e Memory P h = tt

  pub refused_circle : (A : Type 0) (items : List Item) (e : items ≡ tree.items) (error : NameError) (P : Type 0) → early_fault tree.items ≡ None → PassesCircle {A = A} (Err error) items P → Resolves tree (Err error)
  refused_circle A items e (Refused code span) P none h =
      subst (λ (c : Code). IsRefused tree (fault c span)) (sym h.0) (Circle span none (subst (λ (list : List Item). IsFirstCircle (file_names list) (structs_of list) span) e h.1))
  refused_circle A items e Memory P none h = tt

  coded_is : (code wanted : Code) (span : Span) (found : Option Span) → coded wanted found ≡ Some (fault code span) → (wanted ≡ code) × (found ≡ Some span)
  coded_is code wanted span None h = cc
  coded_is code wanted span (Some other) h = (let same : fault wanted other ≡ fault code span = cc in (ap (λ (one : Fault). one.code) same, ap (λ (one : Fault). Some one.span) same))

  pub no_circle : (items : List Item) → items ≡ tree.items → HasNoCircle (graph_in items) → HasNoCircle (graph_in tree.items)
  no_circle items e h = subst (λ (list : List Item). HasNoCircle (graph_in list)) e h

  pub refused_main : {A : Type 0} (error : NameError) (P : A → Type 0) (main : Option Span) → main ≡ main_fault tree → early_fault tree.items ≡ None → HasNoCircle (graph_in tree.items) → Passes (Err error) (coded NoMainFunction main) P → Resolves tree (Err error)
  refused_main (Refused code span) P main m none circle h =
      let is = coded_is code NoMainFunction span main h in
      subst (λ (c : Code). IsRefused tree (fault c span)) is.0 (Main span none circle (sym m ∙ is.1))
  refused_main Memory P main m none circle h = tt

  no_coded : (code : Code) (found : Option Span) → coded code found ≡ None → found ≡ None
  no_coded code None h = refl
  no_coded code (Some span) h = cc

  pub accepted : (main : Option Span) → main ≡ main_fault tree → early_fault tree.items ≡ None → HasNoCircle (graph_in tree.items) → coded NoMainFunction main ≡ None → IsAccepted tree
  accepted main m none circle h = record { early = none; circle = circle; main = sym m ∙ no_coded NoMainFunction main h }

-- names of one file mean the same
pub same_names : (items : List Item) (one other : Names) → AreNames items one → AreNames items other → MeanSame items one other
same_names items one other a b = record {
  fields = λ number struct_item e. a.fields number struct_item e ∙ sym (b.fields number struct_item e);
  meanings = a.means ∙ sym b.means;
  functions = a.functions ∙ sym b.functions;
}

-- there is one least circle
one_least : (graph : Graph) (a b : ℕ) → IsLeastCircle graph a → IsLeastCircle graph b → a ≡ b
one_least graph a b x y =
    ⊎_elim
    (λ (l : a < b). absurd (y.1 a l x.0))
    (λ past. ⊎_elim (λ (l : b < a). absurd (x.1 b l y.0)) (λ also. omega arith) (cases_lt b a))
    (cases_lt a b)

-- and one first fault
early_or_late : (items : List Item) (found : Fault) {X : Type 0} → early_fault items ≡ Some found → early_fault items ≡ None → X
early_or_late items found e f = (let g : Some found ≡ None = sym e ∙ f in cc)

module _ (tree : Tree) where
  circle_not : (number : ℕ) {X : Type 0} → IsLeastCircle (graph_in tree.items) number → HasNoCircle (graph_in tree.items) → X
  circle_not number least none = absurd (none number least.0)

  pub one_fault : (found other : Fault) → IsRefused tree found → IsRefused tree other → found ≡ other
  one_fault found other (Early _ e) (Early _ f) = (let g : Some found ≡ Some other = sym e ∙ f in cc)
  one_fault found other (Early _ e) (Circle span f circle) = early_or_late tree.items found e f
  one_fault found other (Early _ e) (Main span f none main) = early_or_late tree.items found e f
  one_fault found other (Circle span e circle) (Early _ f) = early_or_late tree.items other f e
  one_fault found other (Circle span e one) (Circle another f two) =
      let same : one.number ≡ two.number = one_least (graph_in tree.items) one.number two.number one.least two.least in
      let place : Some span ≡ Some another = sym one.place ∙ ap (λ n. option_map (λ (s : Struct). s.name.span) (struct_at (structs_of tree.items) n)) same ∙ two.place in
      (let spans : span ≡ another = cc in ap (fault TypeHoldsItself) spans)
  one_fault found other (Circle span e circle) (Main another f none main) = circle_not circle.number circle.least none
  one_fault found other (Main span e none main) (Early _ f) = early_or_late tree.items other f e
  one_fault found other (Main span e none main) (Circle another f circle) = circle_not circle.number circle.least none
  one_fault found other (Main span e none main) (Main another f more again) = (let spans : span ≡ another = (let g : Some span ≡ Some another = sym main ∙ again in cc) in ap (fault NoMainFunction) spans)

  pub not_both : (found : Fault) → IsRefused tree found → IsAccepted tree → ⊥
  not_both found (Early _ e) is = early_or_late tree.items found e is.early
  not_both found (Circle span e circle) is = circle_not circle.number circle.least is.circle
  not_both found (Main span e none main) is = (let g : Some span ≡ None = sym main ∙ is.main in cc)

-- the names of a file from those of its parts
pub all_names : (items : List Item) (first second third : TypeTable) (names : Names) → first ≡ with_items layout_types (declared_items items)
    → IsListed first second [] names.meanings.items (meanings_in (file_names items) items)
    → AreSigned second third [] names.functions.items (signatures_in (file_names items) items)
    → HaveFields (file_names items) third names.types (structs_of items)
    → AreNames items names
all_names items first second third names start listed signed have =
    let to_third : Grows second third = grows_kept second third signed.kept in
    let to_last : Grows second names.types = grows_twice second third names.types to_third have.grows in
    record {
      structs = subst (λ (types : TypeTable). Grows types names.types) start (grows_twice first second names.types (grows_kept first second listed.kept) to_last);
      fields = have.fields;
      meant = lists_kept second names.types to_last.types to_last.trees names.meanings.items listed.meant;
      means = lists_told second names.types to_last.types to_last.trees names.meanings.items listed.meant ∙ listed.means;
      typed = all_typed_kept third names.types have.grows.types have.grows.trees names.functions.items signed.typed;
      functions = all_told_kept third names.types have.grows.types have.grows.trees names.functions.items signed.typed ∙ signed.mean;
    }

-- and those of a tree
pub tree_names : (tree : Tree) (items : List Item) (e : items ≡ tree.items) (file : List Entry) (f : file ≡ file_names items) (first second third : TypeTable) (names : Names) → first ≡ with_items layout_types (declared_items items)
    → IsListed first second [] names.meanings.items (meanings_in file items)
    → AreSigned second third [] names.functions.items (signatures_in file items)
    → HaveFields file third names.types (structs_of items)
    → AreNames tree.items names
tree_names tree items e file f first second third names start listed signed have =
    subst (λ (list : List Item). AreNames list names) e
    (all_names items first second third names start
    (subst (λ (known : List Entry). IsListed first second [] names.meanings.items (meanings_in known items)) f listed)
    (subst (λ (known : List Entry). AreSigned second third [] names.functions.items (signatures_in known items)) f signed)
    (subst (λ (known : List Entry). HaveFields known third names.types (structs_of items)) f have))

-- structs that are declared stay so
pub declared_twice : (items : List Item) (file : List Entry) (first second third : TypeTable) → file ≡ file_names items → AreDeclared first (file_names items) → Keeps first second → Keeps second third → AreDeclared third file
declared_twice items file first second third f declared one other =
    still_declared second third file other (still_declared first second file one (subst (AreDeclared first) (sym f) declared))

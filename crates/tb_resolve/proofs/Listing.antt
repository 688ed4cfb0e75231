-- Meanings of one item after another, in a table of types that grows.
use Rattle.std.proofs.Common.{◌≡◌, ℕ, ◌+◌, ◌<◌, List, [], ◌∷◌, ◌++◌, drop, length, get_or, Some, None, Result, Err, refl, ap, subst, sym, ◌∙◌}
use Rattle.std.specs.List.{AllByRecursion}
use Rattle.std.proofs.lemmas.List.{append_assoc}
use Rattle.tb_perm.specs.declared.span.Span.{Span}
use Rattle.tb_types.specs.declared.shape.Ty.{Ty}
use Rattle.tb_types.specs.Table.{TypeTable, IsType}
use Rattle.tb_types.specs.Trees.{tree_of}
use Rattle.tb_ast.specs.declared.item.Item.{Item}
use Rattle.tb_names.specs.Names.{first_of}
use Rattle.tb_lookup.specs.declared.file.Entry.{Entry}
use Rattle.tb_written.proofs.Keeping.{kept_twice, next}
use Rattle.tb_mentions.specs.declared.meaning.Meaning.{Meaning}
use Rattle.tb_mentions.specs.declared.meaning.Meaning.TheVariants as meaning
use Rattle.tb_mentions.specs.Meanings.{MeaningOf, told_meaning, told_meanings, IsMeant}
use Rattle.tb_mentions.specs.declared.error.MentionError.{MentionError}
use Rattle.tb_mentions.specs.declared.error.MentionError.TheVariants.{Unknown, Memory}
use Rattle.tb_mentions.specs.Walks.{item_meanings, item_unknowns, IsNoted, Gives}
use Rattle.tb_resolve.specs.Meanings.{meanings_in, unknowns_in, AreMeant, told_lists, IsListed, IsListedBefore}

module _ (old new : TypeTable) (types : (ty : Ty) → IsType old ty → IsType new ty) (trees : (ty : Ty) → IsType old ty → tree_of new ty ≡ tree_of old ty) where
  meant_kept : (one : Meaning) → IsMeant old one → IsMeant new one
  meant_kept (meaning.Variable number) h = tt
  meant_kept (meaning.Called call) h = tt
  meant_kept (meaning.Struct number) h = tt
  meant_kept (meaning.Written None) h = tt
  meant_kept (meaning.Written (Some ty)) h = types ty h

  told_kept : (one : Meaning) → IsMeant old one → told_meaning new one ≡ told_meaning old one
  told_kept (meaning.Variable number) h = refl
  told_kept (meaning.Called call) h = refl
  told_kept (meaning.Struct number) h = refl
  told_kept (meaning.Written None) h = refl
  told_kept (meaning.Written (Some ty)) h = ap (λ tree. MeaningOf.Written (Some tree)) (trees ty h)

  list_kept : (list : List Meaning) → AreMeant old list → AreMeant new list
  list_kept [] h = tt
  list_kept (one ∷ list) h = (meant_kept one h.0, list_kept list h.1)

  list_told : (list : List Meaning) → AreMeant old list → told_meanings new list ≡ told_meanings old list
  list_told [] h = refl
  list_told (one ∷ list) h = ap (λ m. m ∷ told_meanings new list) (told_kept one h.0) ∙ ap (λ ms. told_meaning old one ∷ ms) (list_told list h.1)

  pub lists_kept : (lists : List (List Meaning)) → AllByRecursion (AreMeant old) lists → AllByRecursion (AreMeant new) lists
  lists_kept [] h = tt
  lists_kept (list ∷ lists) h = (list_kept list h.0, lists_kept lists h.1)

  pub lists_told : (lists : List (List Meaning)) → AllByRecursion (AreMeant old) lists → told_lists new lists ≡ told_lists old lists
  lists_told [] h = refl
  lists_told (list ∷ lists) h = ap (λ ms. ms ∷ told_lists new lists) (list_told list h.0) ∙ ap (λ ms. told_meanings old list ∷ ms) (lists_told lists h.1)

lists_more : (types : TypeTable) (lists : List (List Meaning)) (list : List Meaning) → AllByRecursion (AreMeant types) lists → AreMeant types list → AllByRecursion (AreMeant types) (lists ++ list ∷ [])
lists_more types [] list h k = (k, tt)
lists_more types (first ∷ lists) list h k = (h.0, lists_more types lists list h.1 k)

told_more : (types : TypeTable) (lists : List (List Meaning)) (list : List Meaning) → told_lists types (lists ++ list ∷ []) ≡ told_lists types lists ++ told_meanings types list ∷ []
told_more types [] list = refl
told_more types (first ∷ lists) list = ap (λ ms. told_meanings types first ∷ ms) (told_more types lists list)

-- the meanings of one item are put behind the others
pub listed_one : (old new : TypeTable) (before after : List (List Meaning)) (list : List Meaning) (right : List MeaningOf) → AllByRecursion (AreMeant old) before → IsNoted old new [] list right → after ≡ before ++ list ∷ [] → IsListed old new before after (right ∷ [])
listed_one old new before after list right meant is e = record {
  kept = is.kept;
  meant = subst (AllByRecursion (AreMeant new)) (sym e) (lists_more new before list (lists_kept old new is.kept.types is.kept.trees before meant) is.meant);
  means = ap (told_lists new) e ∙ told_more new before list ∙ ap (λ ms. ms ++ told_meanings new list ∷ []) (lists_told old new is.kept.types is.kept.trees before meant) ∙ ap (λ ms. told_lists old before ++ ms ∷ []) is.means;
}

-- an item is passed
module _ (file : List Entry) where
  pub list_on : (first old new : TypeTable) (before after : List (List Meaning)) (items : List Item) (at : ℕ) (item : Item) (all : List (List MeaningOf)) (every : List Span)
      → at < length items → item ≡ get_or items at item
      → IsListedBefore first old before (meanings_in file (drop at items)) all (unknowns_in file (drop at items)) every
      → item_unknowns file item ≡ []
      → IsListed old new before after (item_meanings file item ∷ [])
      → IsListedBefore first new after (meanings_in file (drop (at + 1) items)) all (unknowns_in file (drop (at + 1) items)) every
  list_on first old new before after items at item all every inside is so nothing listed =
      let rest : List Item = drop (at + 1) items in
      let split : drop at items ≡ item ∷ rest = next items at item inside is in
      record {
        kept = kept_twice first old new so.kept listed.kept;
        meant = listed.meant;
        means =
            ap (λ ms. ms ++ meanings_in file rest) listed.means
            ∙ append_assoc (told_lists old before) (item_meanings file item ∷ []) (meanings_in file rest)
            ∙ ap (λ list. told_lists old before ++ meanings_in file list) (sym split)
            ∙ so.means;
        known =
            ap (λ spans. spans ++ unknowns_in file rest) (sym nothing)
            ∙ ap (unknowns_in file) (sym split)
            ∙ so.known;
      }

-- an item whose name is unknown is the first such item
first_more : {X : Type 0} (xs ys : List X) (x : X) → first_of xs ≡ Some x → first_of (xs ++ ys) ≡ Some x
first_more [] ys x e = cc
first_more (y ∷ xs) ys x e = e

pub item_refused : {A B : Type 0} (P : A → Type 0) (Q : B → Type 0) (file : List Entry) (items : List Item) (at : ℕ) (item : Item) (every : List Span) (error : MentionError) (result : Result B MentionError)
    → at < length items → item ≡ get_or items at item → unknowns_in file (drop at items) ≡ every → Gives (Err error) (item_unknowns file item) P → result ≡ Err error → Gives result every Q
item_refused {A} {B} P Q file items at item every error result inside is known h e = subst (λ (r : Result B MentionError). Gives r every Q) (sym e) (by error h)
  where
    by : (error : MentionError) → Gives {A = A} (Err error) (item_unknowns file item) P → Gives {A = B} (Err error) every Q
    by (Unknown span) h =
        ap first_of (sym known ∙ ap (unknowns_in file) (next items at item inside is)) ∙ first_more (item_unknowns file item) (unknowns_in file (drop (at + 1) items)) span h
    by Memory h = tt

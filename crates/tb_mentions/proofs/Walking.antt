-- From one step of an item to the next.
use Rattle.std.proofs.Common.{◌≡◌, ℕ, ◌+◌, ◌<◌, List, [], ◌∷◌, ◌++◌, drop, length, get_or, Option, Some, refl, ap, subst, sym, ◌∙◌}
use Rattle.std.specs.List.{AllByRecursion}
use Rattle.std.proofs.lemmas.List.{append_assoc}
use Rattle.tb_perm.specs.declared.span.Span.{Span}
use Rattle.tb_types.specs.Table.{TypeTable}
use Rattle.tb_outline.specs.declared.step.Step.{Step}
use Rattle.tb_outline.specs.Outlines.{StepOf, told_step, told_steps}
use Rattle.tb_lookup.specs.declared.file.Entry.{Entry}
use Rattle.tb_lookup.specs.Paths.{Words}
use Rattle.tb_written.specs.Kept.{Keeps}
use Rattle.tb_written.proofs.Keeping.{kept_twice, is_kept, tree_kept, next}
use Rattle.tb_mentions.specs.declared.meaning.Meaning.{Meaning}
use Rattle.tb_mentions.specs.declared.meaning.Meaning.TheVariants as meaning
use Rattle.tb_mentions.specs.Variables.{VariablesOf, after}
use Rattle.tb_mentions.specs.Meanings.{MeaningOf, told_meaning, told_meanings, IsMeant, IsMeaning, place_unless, listed, meaning_at, unknown_at, meanings, unknowns}
use Rattle.tb_mentions.specs.Walks.{IsNoted, IsOnTheWay}

module _ (old new : TypeTable) (kept : Keeps old new) where
  meant_kept : (one : Meaning) → IsMeant old one → IsMeant new one
  meant_kept (meaning.Variable number) h = tt
  meant_kept (meaning.Called call) h = tt
  meant_kept (meaning.Struct number) h = tt
  meant_kept (meaning.Written found) h = is_kept old new kept found h

  told_kept : (one : Meaning) → IsMeant old one → told_meaning new one ≡ told_meaning old one
  told_kept (meaning.Variable number) h = refl
  told_kept (meaning.Called call) h = refl
  told_kept (meaning.Struct number) h = refl
  told_kept (meaning.Written found) h = ap MeaningOf.Written (tree_kept old new kept found h)

  pub all_meant_kept : (list : List Meaning) → AllByRecursion (IsMeant old) list → AllByRecursion (IsMeant new) list
  all_meant_kept [] h = tt
  all_meant_kept (one ∷ list) h = (meant_kept one h.0, all_meant_kept list h.1)

  pub all_told_kept : (list : List Meaning) → AllByRecursion (IsMeant old) list → told_meanings new list ≡ told_meanings old list
  all_told_kept [] h = refl
  all_told_kept (one ∷ list) h = ap (λ m. m ∷ told_meanings new list) (told_kept one h.0) ∙ ap (λ ms. told_meaning old one ∷ ms) (all_told_kept list h.1)

meant_more : (types : TypeTable) (list : List Meaning) (one : Meaning) → AllByRecursion (IsMeant types) list → IsMeant types one → AllByRecursion (IsMeant types) (list ++ one ∷ [])
meant_more types [] one h k = (k, tt)
meant_more types (first ∷ list) one h k = (h.0, meant_more types list one h.1 k)

told_more : (types : TypeTable) (list : List Meaning) (one : Meaning) → told_meanings types (list ++ one ∷ []) ≡ told_meanings types list ++ told_meaning types one ∷ []
told_more types [] one = refl
told_more types (first ∷ list) one = ap (λ ms. told_meaning types first ∷ ms) (told_more types list one)

-- one meaning is noted
pub noted_one : (old new : TypeTable) (before after : List Meaning) (one : Meaning) (right : Option MeaningOf) (place : Span) → AllByRecursion (IsMeant old) before → IsMeaning old new (Some one) right → after ≡ before ++ one ∷ []
    → (place_unless right place ≡ []) × IsNoted old new before after (listed right)
noted_one old new before after one right place meant is e = (
  ap (λ r. place_unless r place) (sym is.means),
  record {
    kept = is.kept;
    meant = subst (AllByRecursion (IsMeant new)) (sym e) (meant_more new before one (all_meant_kept old new is.kept before meant) is.meant);
    means = ap (told_meanings new) e ∙ told_more new before one ∙ ap (λ ms. ms ++ told_meaning new one ∷ []) (all_told_kept old new is.kept before meant) ∙ ap (λ r. told_meanings old before ++ listed r) is.means;
  },
)

-- a step is noted
module _ (file : List Entry) (parameters : Words) where
  pub walk_on : (first old new : TypeTable) (before after_it : List Meaning) (variables others : VariablesOf) (steps : List Step) (at : ℕ) (step : Step) (all : List MeaningOf) (every : List Span)
      → at < length steps → step ≡ get_or steps at step
      → IsOnTheWay first old before (meanings file parameters variables (told_steps (drop at steps))) all (unknowns file parameters variables (told_steps (drop at steps))) every
      → unknown_at file parameters variables (told_step step) ≡ []
      → IsNoted old new before after_it (meaning_at file parameters variables (told_step step))
      → others ≡ after variables (told_step step)
      → IsOnTheWay first new after_it (meanings file parameters others (told_steps (drop (at + 1) steps))) all (unknowns file parameters others (told_steps (drop (at + 1) steps))) every
  walk_on first old new before after_it variables others steps at step all every inside is so nothing noted e =
      let rest : List StepOf = told_steps (drop (at + 1) steps) in
      let split : told_steps (drop at steps) ≡ told_step step ∷ rest = ap told_steps (next steps at step inside is) in
      record {
        kept = kept_twice first old new so.kept noted.kept;
        meant = noted.meant;
        means =
            ap (λ ms. ms ++ meanings file parameters others rest) noted.means
            ∙ append_assoc (told_meanings old before) (meaning_at file parameters variables (told_step step)) (meanings file parameters others rest)
            ∙ ap (λ vs. told_meanings old before ++ (meaning_at file parameters variables (told_step step) ++ meanings file parameters vs rest)) e
            ∙ ap (λ ss. told_meanings old before ++ meanings file parameters variables ss) (sym split)
            ∙ so.means;
        known =
            ap (λ vs. unknowns file parameters vs rest) e
            ∙ ap (λ ss. ss ++ unknowns file parameters (after variables (told_step step)) rest) (sym nothing)
            ∙ ap (unknowns file parameters variables) (sym split)
            ∙ so.known;
      }

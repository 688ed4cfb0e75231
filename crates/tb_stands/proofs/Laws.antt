-- The events on own rows that stand for all rows.
use Rattle.std.proofs.Common.{◌≡◌, ◌∙◌, ◌++◌, ℕ, ◌<◌, Bool, true, List, [], ◌∷◌, refl, sym, subst, None, All}
use Rattle.std.specs.List.{AllByRecursion}
use Rattle.std.proofs.lemmas.List.Elements.{recursion_from_All}
use Rattle.std.proofs.lemmas.List.FromFn.{length-map-range_with_len}
use Rattle.tb_perm.specs.declared.perm.Kind.{Kind}
use Rattle.tb_perm.specs.declared.perm.Kind.TheVariants.{Write}
use Rattle.tb_perm.specs.declared.new_tag.NewTag.{NewTag}
use Rattle.tb_perm.specs.declared.report.Access.TheVariants.{CallEnd as OfCallEnd, Reborrow as OfReborrow}
use Rattle.tb_perm.specs.Rows.{Row, HasTag, unguarded}
use Rattle.tb_perm.specs.Access.{access_event, access_of, accessed, access_report}
use Rattle.tb_perm.specs.Release.{release_event, released, release_report}
use Rattle.tb_perm.specs.Reborrow.{reborrow_event, reborrowed, reborrowed_rows, reborrow_report, new_row, new_state}
use Rattle.tb_perm.specs.Deallocation.{deallocated, dealloc_report}
use Rattle.tb_perm.proofs.Kept.{HasTag-after, HasTag-unguarded, HasTag-reborrowed, HasTag-made, All_tags-kept, after-keeps}
use Rattle.tb_stands.specs.Restricted.{restricted}
use Rattle.tb_stands.specs.Stands.{StandsBy, Stands}
use Rattle.tb_stands.proofs.Ways.{own_keeps, own_has}
use Rattle.tb_stands.proofs.AnyEvent.{event_report, event_stands}
use Rattle.tb_stands.proofs.Seen.{access_seen, reborrow_seen, release_seen}
use Rattle.tb_stands.proofs.Unguards.{unguard_stands}
use Rattle.tb_stands.proofs.Frees.{free_same, free_stands}
use Rattle.tb_stands.proofs.Made.{made_stands}

All_map : (P Q : ℕ → Type 0) → ((t : ℕ) → P t → Q t) → (xs : List ℕ) → AllByRecursion P xs → AllByRecursion Q xs
All_map P Q f [] all = tt
All_map P Q f (x ∷ xs) all = (f x all.0, All_map P Q f xs all.1)

-- what is to be shown of own rows, shown of the kept part of all
of_kept : (kept : ℕ → Bool) (size : ℕ) (own rows : List Row) → StandsBy kept size own rows → (P : List Row → Type 0) → (StandsBy kept size (restricted kept rows) rows → P (restricted kept rows)) → P own
of_kept kept size own rows stands P show = subst P (sym stands.are) (show (subst (λ o. StandsBy kept size o rows) stands.are stands))

pub access_same : (size : ℕ) (own rows : List Row) (reached : List ℕ) (t lo hi : ℕ) (kind : Kind) → Stands size own rows reached → HasTag own t → access_report own size t lo hi kind ≡ access_report rows size t lo hi kind
access_same size own rows reached t lo hi kind stands =
    of_kept stands.0 size own rows stands.1 (λ o. HasTag o t → access_report o size t lo hi kind ≡ access_report rows size t lo hi kind)
    (λ s has. event_report stands.0 size rows s (access_event t lo hi kind) (access_event t lo hi kind) (access_seen stands.0 rows t lo hi kind (own_has stands.0 rows t has) (own_keeps stands.0 rows t has)) (access_of kind))

pub access_stands : (size : ℕ) (own rows : List Row) (reached : List ℕ) (t lo hi : ℕ) (kind : Kind) → Stands size own rows reached → HasTag own t → access_report own size t lo hi kind ≡ None → Stands size (accessed own t lo hi kind) (accessed rows t lo hi kind) reached
access_stands size own rows reached t lo hi kind stands has none = (
  stands.0,
  of_kept stands.0 size own rows stands.1 (λ o. HasTag o t → StandsBy stands.0 size (accessed o t lo hi kind) (accessed rows t lo hi kind))
      (λ s has. event_stands stands.0 size rows s (access_event t lo hi kind) (access_event t lo hi kind) (access_seen stands.0 rows t lo hi kind (own_has stands.0 rows t has) (own_keeps stands.0 rows t has)) (access_of kind) (sym (access_same size own rows reached t lo hi kind stands (subst (λ o. HasTag o t) (sym stands.1.are) has)) ∙ none)) has,
  All_map (HasTag own) (HasTag (accessed own t lo hi kind)) (λ u. HasTag-after (access_event t lo hi kind) own u) reached stands.2,
)

pub release_same : (size : ℕ) (own rows : List Row) (reached : List ℕ) (t : ℕ) → Stands size own rows reached → HasTag own t → release_report own size t ≡ release_report rows size t
release_same size own rows reached t stands =
    of_kept stands.0 size own rows stands.1 (λ o. HasTag o t → release_report o size t ≡ release_report rows size t)
    (λ s has. event_report stands.0 size rows s (release_event (restricted stands.0 rows) t) (release_event rows t) (release_seen stands.0 size rows t s.sound (own_has stands.0 rows t has) (own_keeps stands.0 rows t has)) OfCallEnd)

pub release_stands : (size : ℕ) (own rows : List Row) (reached : List ℕ) (t : ℕ) → Stands size own rows reached → HasTag own t → release_report own size t ≡ None → Stands size (released own t) (released rows t) reached
release_stands size own rows reached t stands has none = (
  stands.0,
  of_kept stands.0 size own rows stands.1 (λ o. HasTag o t → StandsBy stands.0 size (released o t) (released rows t))
      (λ s has. event_stands stands.0 size rows s (release_event (restricted stands.0 rows) t) (release_event rows t) (release_seen stands.0 size rows t s.sound (own_has stands.0 rows t has) (own_keeps stands.0 rows t has)) OfCallEnd (sym (release_same size own rows reached t stands (subst (λ o. HasTag o t) (sym stands.1.are) has)) ∙ none)) has,
  All_map (HasTag own) (HasTag (released own t)) (λ u. HasTag-after (release_event own t) own u) reached stands.2,
)

pub unguarded_stands : (size : ℕ) (own rows : List Row) (reached : List ℕ) (t : ℕ) → Stands size own rows reached → Stands size (unguarded own t) (unguarded rows t) reached
unguarded_stands size own rows reached t stands = (
  stands.0,
  of_kept stands.0 size own rows stands.1 (λ o. StandsBy stands.0 size (unguarded o t) (unguarded rows t)) (λ s. unguard_stands stands.0 size rows t s),
  All_map (HasTag own) (HasTag (unguarded own t)) (λ u. HasTag-unguarded own t u) reached stands.2,
)

pub dealloc_same : (size : ℕ) (own rows : List Row) (reached : List ℕ) (t : ℕ) → Stands size own rows reached → HasTag own t → dealloc_report own size t ≡ dealloc_report rows size t
dealloc_same size own rows reached t stands =
    of_kept stands.0 size own rows stands.1 (λ o. HasTag o t → dealloc_report o size t ≡ dealloc_report rows size t)
    (λ s has. free_same stands.0 size rows t s (own_has stands.0 rows t has) (own_keeps stands.0 rows t has))

pub dealloc_stands : (size : ℕ) (own rows : List Row) (reached : List ℕ) (t : ℕ) → Stands size own rows reached → HasTag own t → dealloc_report own size t ≡ None → Stands size (deallocated own size t) (deallocated rows size t) reached
dealloc_stands size own rows reached t stands has none = (
  stands.0,
  of_kept stands.0 size own rows stands.1 (λ o. HasTag o t → dealloc_report o size t ≡ None → StandsBy stands.0 size (deallocated o size t) (deallocated rows size t))
      (λ s has. free_stands stands.0 size rows t s (own_has stands.0 rows t has) (own_keeps stands.0 rows t has)) has none,
  All_map (HasTag own) (HasTag (deallocated own size t)) (λ u. HasTag-after (access_event t 0 size Write) own u) reached stands.2,
)

pub reborrow_same : (size : ℕ) (own rows : List Row) (reached : List ℕ) (new : NewTag) → Stands size own rows reached → HasTag own new.parent.0 → reborrow_report own size new ≡ reborrow_report rows size new
reborrow_same size own rows reached new stands =
    of_kept stands.0 size own rows stands.1 (λ o. HasTag o new.parent.0 → reborrow_report o size new ≡ reborrow_report rows size new)
    (λ s has. event_report stands.0 size rows s (reborrow_event new) (reborrow_event new) (reborrow_seen stands.0 rows new (own_has stands.0 rows new.parent.0 has) (own_keeps stands.0 rows new.parent.0 has)) OfReborrow)

-- the earlier rows stand, and then with the new one
reborrow_by : (kept : ℕ → Bool) (size : ℕ) (own rows : List Row) (new : NewTag) → StandsBy kept size own rows → HasTag own new.parent.0 → All (λ (row : Row). row.tag < new.tag.0) rows → reborrow_report rows size new ≡ None → StandsBy kept size (reborrowed own size new) (reborrowed rows size new)
reborrow_by kept size own rows new stands has above none =
    of_kept kept size own rows stands (λ o. HasTag o new.parent.0 → StandsBy kept size (reborrowed o size new) (reborrowed rows size new)) (λ s has. made s (own_has kept rows new.parent.0 has) (own_keeps kept rows new.parent.0 has)) has
  where
    made : StandsBy kept size (restricted kept rows) rows → HasTag rows new.parent.0 → kept new.parent.0 ≡ true → StandsBy kept size (reborrowed (restricted kept rows) size new) (reborrowed rows size new)
    made s has keeps =
        of_kept kept size (reborrowed_rows (restricted kept rows) new) (reborrowed_rows rows new)
        (event_stands kept size rows s (reborrow_event new) (reborrow_event new) (reborrow_seen kept rows new has keeps) OfReborrow none)
        (λ o. StandsBy kept size (o ++ new_row size new ∷ []) (reborrowed rows size new))
        (λ after.
        made_stands kept size (reborrowed_rows rows new) (new_row size new) new.parent.0 after
        (All_tags-kept (λ t. t < new.tag.0) rows (reborrowed_rows rows new) (after-keeps (reborrow_event new) rows) (recursion_from_All (λ (row : Row). row.tag < new.tag.0) rows above))
        refl
        (HasTag-after (reborrow_event new) rows new.parent.0 has)
        keeps
        (length-map-range_with_len (new_state new) 0 size))

pub reborrow_stands : (size : ℕ) (own rows : List Row) (reached : List ℕ) (new : NewTag) → Stands size own rows reached → HasTag own new.parent.0 → All (λ (row : Row). row.tag < new.tag.0) rows → reborrow_report own size new ≡ None → Stands size (reborrowed own size new) (reborrowed rows size new) (new.tag.0 ∷ reached)
reborrow_stands size own rows reached new stands has above none = (
  stands.0,
  reborrow_by stands.0 size own rows new stands.1 has above (sym (reborrow_same size own rows reached new stands has) ∙ none),
  (HasTag-made size own new, All_map (HasTag own) (HasTag (reborrowed own size new)) (λ u. HasTag-reborrowed size own new u) reached stands.2),
)

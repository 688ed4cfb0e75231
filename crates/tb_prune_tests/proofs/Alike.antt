-- Two trees answer alike.
use Rattle.std.proofs.Common.{◌≡◌, ◌∙◌, ℕ, List, [], ◌∷◌, refl, sym, subst, Option, Some, None}
use Rattle.std.specs.Prelude.{Result, Ok, Err, OnOk}
use Rattle.tb_perm.specs.declared.perm.Kind.{Kind}
use Rattle.tb_perm.specs.declared.report.Report.{Report}
use Rattle.tb_perm.specs.declared.report.TreeError.{TreeError}
use Rattle.tb_perm.specs.declared.report.TreeError.TheVariants.{Borrow, Memory}
use Rattle.tb_perm.specs.declared.span.Span.{Span}
use Rattle.tb_perm.specs.Rows.{Row, HasTag, root_row}
use Rattle.tb_perm.specs.Answer.{Answers}
use Rattle.tb_perm.specs.Access.{accessed, access_report}
use Rattle.tb_stands.specs.Stands.{Stands}
use Rattle.tb_stands.proofs.Ways.{own_has}
use Rattle.tb_perm.proofs.Kept.{IsRows-root}
use Rattle.tb_stands.proofs.Laws.{access_same, access_stands}
use Rattle.tb_stands.proofs.Start.{start_stands}
use Rattle.tb_prune_tests.specs.Alike.{AreAlike}

-- own tags are tags of all
pub eager_has : (size : ℕ) (own rows : List Row) (reached : List ℕ) (t : ℕ) → Stands size own rows reached → HasTag own t → HasTag rows t
eager_has size own rows reached t stands has = own_has stands.0 rows t (subst (λ o. HasTag o t) stands.1.are has)

alike : {T : Type 0} (report : Option Report) (mine theirs : Result T TreeError) (fact : Type 0) (A B : Type 0) → Answers report mine → Answers report theirs → OnOk mine A → OnOk theirs B → (report ≡ None → A → B → fact) → AreAlike mine theirs fact
alike None (Ok x) (Ok y) fact A B m t a b show = show refl a b
alike (Some r) (Err (Borrow x)) (Err (Borrow y)) fact A B m t a b show = m ∙ sym t
alike report (Err Memory) theirs fact A B m t a b show = tt
alike None (Ok x) (Err Memory) fact A B m t a b show = tt
alike (Some r) (Err (Borrow x)) (Err Memory) fact A B m t a b show = tt
alike None (Ok x) (Err (Borrow y)) fact A B m t a b show = absurd t
alike None (Err (Borrow x)) theirs fact A B m t a b show = absurd m
alike (Some r) (Ok x) theirs fact A B m t a b show = absurd m
alike (Some r) (Err (Borrow x)) (Ok y) fact A B m t a b show = absurd t

pub access_alike : {T : Type 0} (size : ℕ) (own own_new rows rows_new : List Row) (t lo hi : ℕ) (kind : Kind) (mine theirs : Result T TreeError)
    → Stands size own rows [] → HasTag own t
    → Answers (access_report own size t lo hi kind) mine → Answers (access_report rows size t lo hi kind) theirs
    → OnOk mine (own_new ≡ accessed own t lo hi kind) → OnOk theirs (rows_new ≡ accessed rows t lo hi kind)
    → AreAlike mine theirs (Stands size own_new rows_new [])
access_alike size own own_new rows rows_new t lo hi kind mine theirs stands has told told_all moved moved_all =
    alike (access_report own size t lo hi kind) mine theirs (Stands size own_new rows_new []) (own_new ≡ accessed own t lo hi kind) (rows_new ≡ accessed rows t lo hi kind)
    told (subst (λ r. Answers r theirs) (sym (access_same size own rows [] t lo hi kind stands has)) told_all) moved moved_all
    (λ none is is_all.
    subst (λ o. Stands size o rows_new []) (sym is)
    (subst (λ r. Stands size (accessed own t lo hi kind) r []) (sym is_all) (access_stands size own rows [] t lo hi kind stands has none)))

-- two new trees
pub new_stand : (size tag : ℕ) (made : Span) (own rows : List Row) → own ≡ root_row tag size made ∷ [] → rows ≡ root_row tag size made ∷ [] → Stands size own rows []
new_stand size tag made own rows is is_all =
    subst (λ o. Stands size o rows []) (sym is)
    (subst (λ r. Stands size (root_row tag size made ∷ []) r []) (sym is_all) (start_stands size (root_row tag size made ∷ []) [] (IsRows-root tag size made) tt))

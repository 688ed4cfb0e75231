-- Any event: it has the same report among the kept rows and among all, and where no tag refuses it the
-- ones stand for the others again.
use Rattle.std.proofs.Common.{◌≡◌, ◌∙◌, ℕ, ◌<◌, Bool, true, false, cond, List, [], ◌∷◌, map, reverse, refl, ap, sym, subst, Option, Some, None, find, inl, inr}
use Rattle.std.specs.Prelude.{option_map, is_some}
use Rattle.std.specs.List.{list_any}
use Rattle.tb_perm.specs.declared.perm.State.{State}
use Rattle.tb_perm.specs.declared.perm.Kind.{Kind}
use Rattle.tb_perm.specs.declared.perm.Rel.TheVariants.{Local, Foreign}
use Rattle.tb_perm.specs.declared.report.Access.{Access}
use Rattle.tb_perm.specs.Rows.{Row, is_tag, HasTag, is_on_path, path_from, guard_in, state_at}
use Rattle.tb_perm.specs.Tree.{KeepsTree}
use Rattle.tb_perm.specs.Table.{is_guarded}
use Rattle.tb_perm.specs.Event.{Event, after, moved_row, moved_states, moved_state, refusal_of, refusal_at, rel_of}
use Rattle.tb_perm.specs.Choice.{refuses, report_of}
use Rattle.tb_perm.specs.Release.{is_below}
use Rattle.tb_perm.specs.Pruning.{perm_in}
use Rattle.tb_perm.specs.Covers.{Covers}
use Rattle.tb_perm.proofs.Found.{has_found, found_tag, perm_in-found, perm_in-after, guard_in-found, guard_in-after}
use Rattle.tb_perm.proofs.Kept.{after-keeps, IsRows-after, list_any-KeepsTree, is_on_path-kept}
use Rattle.tb_perm.proofs.Paths.{path_chain}
use Rattle.tb_perm.proofs.Removed.{find_has}
use Rattle.tb_perm.proofs.Reported.{report_clear}
use Rattle.tb_stands.specs.Restricted.{is_kept, nearest, raised, restricted}
use Rattle.tb_stands.specs.Stands.{IsCover, MayMiss, KeepsRoot, StandsBy}
use Rattle.tb_stands.proofs.Lists.{find_changed, path_changed, filter_changed, reverse_map, map_some}
use Rattle.tb_stands.proofs.Ways.{on_own}
use Rattle.tb_stands.proofs.Reports.{Among, find_any, report_same}
use Rattle.tb_stands.proofs.Table.{refuses_local, moves_covered}
use Rattle.tb_stands.proofs.Below.{not_both, below_on, kept_below, below_less, is_below-kept}

-- an event as it is seen among the kept rows, and among all
pub record IsSeen (kept : ℕ → Bool) (rows : List Row) (mine all : Event) : Type 0 where
  pub there : HasTag rows all.through
  pub keeps : kept all.through ≡ true
  pub through : mine.through ≡ all.through
  pub meets : (u : ℕ) → kept u ≡ true → mine.meets u ≡ all.meets u
  pub alike : (t c byte : ℕ) → HasTag rows c → kept t ≡ false → kept c ≡ true → is_on_path rows c t ≡ true
      → is_on_path rows all.through t ≡ is_on_path rows all.through c → all.meets t byte ≡ all.meets c byte

abbrev row_with : Row → Option ℕ → List State → Row
row_with row parent states = record row { parent = parent; states = states }

-- rows that are changed one by one, and keep their tags and parents, have the same nearest kept tags
pub nearest_changed : (kept : ℕ → Bool) (f : Row → Row) → ((row : Row) → (f row).tag ≡ row.tag) → ((row : Row) → (f row).parent ≡ row.parent) → (rows : List Row) (asked : Option ℕ) → nearest kept (reverse (map f rows)) asked ≡ nearest kept (reverse rows) asked
nearest_changed kept f tags parents rows asked =
    ap (λ xs. nearest kept xs asked) (reverse_map f rows [])
    ∙ ap (λ xs. option_map (λ (row : Row). row.tag) (find (is_kept kept) xs)) (path_changed f tags parents (reverse rows) asked)
    ∙ ap (option_map (λ (row : Row). row.tag)) (find_changed (is_kept kept) (is_kept kept) f (λ row. ap kept (tags row)) (path_from (reverse rows) asked))
    ∙ at (find (is_kept kept) (path_from (reverse rows) asked))
  where
    at : (o : Option Row) → option_map (λ (row : Row). row.tag) (option_map f o) ≡ option_map (λ (row : Row). row.tag) o
    at None = refl
    at (Some row) = ap Some (tags row)

pub root_kept : (kept : ℕ → Bool) (f : Row → Row) → ((row : Row) → (f row).tag ≡ row.tag) → (rows : List Row) → KeepsRoot kept rows → KeepsRoot kept (map f rows)
root_kept kept f tags [] root = root
root_kept kept f tags (row ∷ rows) root = ap kept (tags row) ∙ root

-- where no row passes a test, a row that is found does not
pub none_passes : (p q : Row → Bool) (rows : List Row) (r : Row) → list_any q rows ≡ false → find p rows ≡ Some r → q r ≡ false
none_passes p q rows r none found = at (q r) refl
  where
    at : (b : Bool) → q r ≡ b → q r ≡ false
    at true is = absurd (not_both (list_any q rows) (find_any p q rows r found is) none)
    at false is = is

module _ (kept : ℕ → Bool) (size : ℕ) (rows : List Row) (stands : StandsBy kept size (restricted kept rows) rows) (mine all : Event) (seen : IsSeen kept rows mine all) where
  rel_same : (row : Row) → kept row.tag ≡ true → rel_of (restricted kept rows) mine (raised kept rows row) ≡ rel_of rows all row
  rel_same row keeps =
      ap (λ k. cond (is_on_path (restricted kept rows) k row.tag) Local Foreign) seen.through
      ∙ ap (λ b. cond b Local Foreign) (on_own kept rows size all.through row.tag stands.sound seen.keeps keeps)

  -- what goes through a tag below one that covers
  goes_same : (t c : ℕ) → kept t ≡ false → IsCover kept size rows t c → is_on_path rows all.through t ≡ is_on_path rows all.through c
  goes_same t c drops cover = at (is_on_path rows all.through c) refl (is_on_path rows all.through t) refl
    where
      at : (b : Bool) → is_on_path rows all.through c ≡ b → (d : Bool) → is_on_path rows all.through t ≡ d → is_on_path rows all.through t ≡ is_on_path rows all.through c
      at true on d is = path_chain size rows all.through c t stands.sound on (below_on rows t c cover.below).0 ∙ sym on
      at false off true on = absurd (not_both (is_on_path rows all.through c) (cover.topmost all.through seen.there seen.keeps (kept_below kept rows t all.through seen.keeps drops on)) off)
      at false off false is = is ∙ sym off

  meets_same : (t c byte : ℕ) → kept t ≡ false → IsCover kept size rows t c → all.meets t byte ≡ all.meets c byte
  meets_same t c byte drops cover = seen.alike t c byte cover.there drops cover.keeps (below_on rows t c cover.below).0 (goes_same t c drops cover)

  -- a covering tag by its row
  by_row : (t c : ℕ) → IsCover kept size rows t c → (r : Row) × Among rows r × IsCover kept size rows t r.tag
  by_row t c cover =
      let found = has_found rows c cover.there in
      let same : found.0.tag ≡ c = found_tag rows c found.0 found.1 in
      (found.0, ap (λ k. find (is_tag k) rows) same ∙ found.1, subst (IsCover kept size rows t) (sym same) cover)

  free_row : (r : Row) → Among rows r → kept r.tag ≡ false → is_guarded r.guard ≡ false
  free_row r among drops = ap is_guarded (sym (guard_in-found rows r.tag r among) ∙ stands.free r.tag (find_has rows r.tag r among) drops)

  covers_rows : (r c : Row) → Among rows r → Among rows c → IsCover kept size rows r.tag c.tag → (byte : ℕ) → byte < size → Covers (state_at r byte).perm (state_at c byte).perm (is_guarded c.guard)
  covers_rows r c among_r among_c cover byte within =
      subst (λ p. Covers p (state_at c byte).perm (is_guarded c.guard)) (perm_in-found rows r.tag byte r among_r)
      (subst (λ p. Covers (perm_in rows r.tag byte) p (is_guarded c.guard)) (perm_in-found rows c.tag byte c among_c)
      (subst (λ g. Covers (perm_in rows r.tag byte) (perm_in rows c.tag byte) (is_guarded g)) (guard_in-found rows c.tag c among_c) (cover.folds byte within)))

  refusal_same : (r : Row) → kept r.tag ≡ true → (byte : ℕ) → refusal_at (restricted kept rows) mine (raised kept rows r) byte ≡ refusal_at rows all r byte
  refusal_same r keeps byte =
      ap (λ m. refusal_of (m byte) (is_guarded r.guard) (rel_of (restricted kept rows) mine (raised kept rows r)) (state_at r byte)) (seen.meets r.tag keeps)
      ∙ ap (λ rel. refusal_of (all.meets r.tag byte) (is_guarded r.guard) rel (state_at r byte)) (rel_same r keeps)

  abbrev Blamed : Row → ℕ → Type 0
  Blamed r byte = (c : Row) × Among rows c × (kept c.tag ≡ true) × (refuses (refusal_at rows all) byte c ≡ true) × (is_on_path rows all.through c.tag ≡ true) × (r.tag < c.tag)

  -- a row that is left out and refuses is on the path, and what covers it refuses too
  blamed : (r : Row) (byte : ℕ) → byte < size → Among rows r → kept r.tag ≡ false → refuses (refusal_at rows all) byte r ≡ true → Blamed r byte
  blamed r byte within among drops refused =
      met (all.meets r.tag byte) refl (is_on_path rows all.through r.tag) refl
      (sym (ap (λ g. is_some (refusal_of (all.meets r.tag byte) g (rel_of rows all r) (state_at r byte))) (free_row r among drops)) ∙ refused)
    where
      covered : (kind : Kind) → all.meets r.tag byte ≡ Some kind → is_on_path rows all.through r.tag ≡ true → is_some (refusal_of (Some kind) false Local (state_at r byte)) ≡ true → MayMiss kept size rows r.tag → Blamed r byte
      covered kind is on refused (inl bare) = absurd (not_both (is_below rows r.tag all.through) (kept_below kept rows r.tag all.through seen.keeps drops on) (bare all.through seen.there seen.keeps))
      covered kind is on refused (inr some) =
          let c = by_row r.tag some.0 some.1 in
          let local : is_some (refusal_of (Some kind) (is_guarded c.0.guard) Local (state_at c.0 byte)) ≡ true = refuses_local (state_at r byte) (state_at c.0 byte) (is_guarded c.0.guard) kind (covers_rows r c.0 among c.1 c.2 byte within) refused in
          let on_c : is_on_path rows all.through c.0.tag ≡ true = sym (goes_same r.tag c.0.tag drops c.2) ∙ on in (
            c.0,
            c.1,
            c.2.keeps,
            ap (λ m. is_some (refusal_of m (is_guarded c.0.guard) (rel_of rows all c.0) (state_at c.0 byte))) (sym (meets_same r.tag c.0.tag byte drops c.2) ∙ is)
                ∙ ap (λ b. is_some (refusal_of (Some kind) (is_guarded c.0.guard) (cond b Local Foreign) (state_at c.0 byte))) on_c
                ∙ local,
            on_c,
            below_less size rows r.tag c.0.tag stands.sound c.2.below,
          )

      met : (o : Option Kind) → all.meets r.tag byte ≡ o → (b : Bool) → is_on_path rows all.through r.tag ≡ b → is_some (refusal_of (all.meets r.tag byte) false (rel_of rows all r) (state_at r byte)) ≡ true → Blamed r byte
      met None is b on refused = absurd (let clash : false ≡ true = sym (ap (λ m. is_some (refusal_of m false (rel_of rows all r) (state_at r byte))) is) ∙ refused in cc)
      met (Some kind) is false on refused =
          absurd (let clash : false ≡ true = sym (ap (λ m. is_some (refusal_of m false (rel_of rows all r) (state_at r byte))) is ∙ ap (λ b. is_some (refusal_of (Some kind) false (cond b Local Foreign) (state_at r byte))) on) ∙ refused in cc)
      met (Some kind) is true on refused =
          covered kind is on
          (sym (ap (λ m. is_some (refusal_of m false (rel_of rows all r) (state_at r byte))) is ∙ ap (λ b. is_some (refusal_of (Some kind) false (cond b Local Foreign) (state_at r byte))) on) ∙ refused)
          (stands.covered r.tag (find_has rows r.tag r among) drops)

  -- the same report
  pub event_report : (access : Access) → report_of (refusal_at (restricted kept rows) mine) access size (restricted kept rows) all.through ≡ report_of (refusal_at rows all) access size rows all.through
  event_report access =
      report_same kept size rows all.through (refusal_at (restricted kept rows) mine) (refusal_at rows all) stands.sound seen.keeps
      (record { same = refusal_same; blame = blamed }) access

  -- the kept rows after the event
  after_same : after mine (restricted kept rows) ≡ restricted kept (after all rows)
  after_same =
      sym
      (ap (map (raised kept (after all rows))) (filter_changed (is_kept kept) (moved_row rows all) (λ row. refl) rows)
      ∙ map_some (is_kept kept) (raised kept (after all rows)) (moved_row rows all) (moved_row (restricted kept rows) mine) (raised kept rows) one rows)
    where
      one : (row : Row) → kept row.tag ≡ true → raised kept (after all rows) (moved_row rows all row) ≡ moved_row (restricted kept rows) mine (raised kept rows row)
      one row keeps =
          ap (λ o. row_with row o (moved_states (all.meets row.tag) (is_guarded row.guard) (rel_of rows all row) 0 row.states)) (nearest_changed kept (moved_row rows all) (λ row. refl) (λ row. refl) rows row.parent)
          ∙ ap (λ m. row_with row (nearest kept (reverse rows) row.parent) (moved_states m (is_guarded row.guard) (rel_of rows all row) 0 row.states)) (sym (seen.meets row.tag keeps))
          ∙ ap (λ rel. row_with row (nearest kept (reverse rows) row.parent) (moved_states (mine.meets row.tag) (is_guarded row.guard) rel 0 row.states)) (sym (rel_same row keeps))

  keeps_tree : KeepsTree rows (after all rows)
  keeps_tree = after-keeps all rows

  has_before : (t : ℕ) → HasTag (after all rows) t → HasTag rows t
  has_before t has = sym (list_any-KeepsTree rows (after all rows) t keeps_tree) ∙ has

  -- Covers holds again
  folds_after : (access : Access) → report_of (refusal_at rows all) access size rows all.through ≡ None → (r c : Row) → Among rows r → Among rows c → kept r.tag ≡ false → IsCover kept size rows r.tag c.tag → (byte : ℕ) → byte < size → Covers (perm_in (after all rows) r.tag byte) (perm_in (after all rows) c.tag byte) (is_guarded (guard_in (after all rows) c.tag))
  folds_after access none r c among_r among_c drops cover byte within =
      subst (λ g. Covers (perm_in (after all rows) r.tag byte) (perm_in (after all rows) c.tag byte) (is_guarded g)) (sym (guard_in-after all rows c.tag ∙ guard_in-found rows c.tag c among_c))
      (subst (λ p. Covers p (perm_in (after all rows) c.tag byte) (is_guarded c.guard)) (sym (perm_in-after size all rows r.tag byte r stands.sound within among_r ∙ ap (λ g. (moved_state (all.meets r.tag byte) g (rel_of rows all r) (state_at r byte)).perm) (free_row r among_r drops)))
      (subst (λ p. Covers (moved_state (all.meets r.tag byte) false (rel_of rows all r) (state_at r byte)).perm p (is_guarded c.guard)) (sym (perm_in-after size all rows c.tag byte c stands.sound within among_c))
      moved))
    where
      clear : (x : Row) → Among rows x → refuses (refusal_at rows all) byte x ≡ false
      clear x among = none_passes (is_tag x.tag) (refuses (refusal_at rows all) byte) rows x (report_clear (refusal_at rows all) access size rows all.through byte none within) among

      rel : rel_of rows all c ≡ rel_of rows all r
      rel = ap (λ b. cond b Local Foreign) (sym (goes_same r.tag c.tag drops cover))

      met : all.meets c.tag byte ≡ all.meets r.tag byte
      met = sym (meets_same r.tag c.tag byte drops cover)

      free_r : is_some (refusal_of (all.meets r.tag byte) false (rel_of rows all r) (state_at r byte)) ≡ false
      free_r = sym (ap (λ g. is_some (refusal_of (all.meets r.tag byte) g (rel_of rows all r) (state_at r byte))) (free_row r among_r drops)) ∙ clear r among_r

      free_c : is_some (refusal_of (all.meets r.tag byte) (is_guarded c.guard) (rel_of rows all r) (state_at c byte)) ≡ false
      free_c = sym (ap (λ m. is_some (refusal_of m (is_guarded c.guard) (rel_of rows all c) (state_at c byte))) met ∙ ap (λ k. is_some (refusal_of (all.meets r.tag byte) (is_guarded c.guard) k (state_at c byte))) rel) ∙ clear c among_c

      moved : Covers (moved_state (all.meets r.tag byte) false (rel_of rows all r) (state_at r byte)).perm (moved_state (all.meets c.tag byte) (is_guarded c.guard) (rel_of rows all c) (state_at c byte)).perm (is_guarded c.guard)
      moved =
          subst (λ s. Covers (moved_state (all.meets r.tag byte) false (rel_of rows all r) (state_at r byte)).perm s.perm (is_guarded c.guard))
          (sym (ap (λ m. moved_state m (is_guarded c.guard) (rel_of rows all c) (state_at c byte)) met ∙ ap (λ k. moved_state (all.meets r.tag byte) (is_guarded c.guard) k (state_at c byte)) rel))
          (moves_covered (state_at r byte) (state_at c byte) (is_guarded c.guard) (rel_of rows all r) (all.meets r.tag byte) (covers_rows r c among_r among_c cover byte within) free_r free_c)

  covered_after : (access : Access) → report_of (refusal_at rows all) access size rows all.through ≡ None → (r : Row) → Among rows r → kept r.tag ≡ false → MayMiss kept size rows r.tag → MayMiss kept size (after all rows) r.tag
  covered_after access none r among drops (inl bare) = inl (λ u has keeps. is_below-kept rows (after all rows) r.tag u keeps_tree ∙ bare u (has_before u has) keeps)
  covered_after access none r among drops (inr some) =
      let c = by_row r.tag some.0 some.1 in
      inr (
        c.0.tag,
        record {
          there = list_any-KeepsTree rows (after all rows) c.0.tag keeps_tree ∙ c.2.there;
          keeps = c.2.keeps;
          below = is_below-kept rows (after all rows) r.tag c.0.tag keeps_tree ∙ c.2.below;
          topmost = λ u has keeps below. is_on_path-kept rows (after all rows) u c.0.tag keeps_tree ∙ c.2.topmost u (has_before u has) keeps (sym (is_below-kept rows (after all rows) r.tag u keeps_tree) ∙ below);
          folds = folds_after access none r c.0 among c.1 drops c.2;
        },
      )

  -- they stand again
  pub event_stands : (access : Access) → report_of (refusal_at rows all) access size rows all.through ≡ None → StandsBy kept size (after mine (restricted kept rows)) (after all rows)
  event_stands access none =
      record {
        sound = IsRows-after size all rows stands.sound;
        are = after_same;
        root = root_kept kept (moved_row rows all) (λ row. refl) rows stands.root;
        unknown = λ t away. stands.unknown t (sym (list_any-KeepsTree rows (after all rows) t keeps_tree) ∙ away);
        free = λ t has drops. guard_in-after all rows t ∙ stands.free t (has_before t has) drops;
        covered = λ t has drops. covered t (has_before t has) drops;
      }
    where
      covered : (t : ℕ) → HasTag rows t → kept t ≡ false → MayMiss kept size (after all rows) t
      covered t has drops =
          let found = has_found rows t has in
          let same : found.0.tag ≡ t = found_tag rows t found.0 found.1 in
          subst (MayMiss kept size (after all rows)) same
          (covered_after access none found.0 (ap (λ k. find (is_tag k) rows) same ∙ found.1) (ap kept same ∙ drops) (subst (MayMiss kept size rows) (sym same) (stands.covered t has drops)))

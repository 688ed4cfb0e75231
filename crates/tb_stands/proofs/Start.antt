-- All rows stand for themselves; and rows without one tag are the rows of the others.
use Rattle.std.proofs.Common.{◌≡◌, ◌∙◌, ◌≢◌, ℕ, ◌<◌, Bool, true, false, cond, not, List, [], ◌∷◌, reverse, refl, ap, sym, arith, Option, Some, None, find, ◌==◌}
use Rattle.std.specs.Prelude.{option_map, option_and_then}
use Rattle.std.specs.List.{AllByRecursion}
use Rattle.std.proofs.lemmas.Bool.{eqb-true, eq-eqb, ne_eqb}
use Rattle.tb_perm.specs.Rows.{Row, is_tag, HasTag, IsRows, path_from}
use Rattle.tb_perm.specs.Pruning.{parent_in, is_child, moved_up_row, removed}
use Rattle.tb_perm.proofs.Found.{has_found, found_tag}
use Rattle.tb_perm.proofs.Paths.{path_step}
use Rattle.tb_perm.proofs.Roots.{parent_lesser}
use Rattle.tb_perm.proofs.Unique.{AreRising-rows, find_self}
use Rattle.tb_stands.specs.Restricted.{is_kept, nearest, raised, restricted}
use Rattle.tb_stands.specs.Stands.{KeepsRoot, Stands}
use Rattle.tb_stands.proofs.Lists.{some_of}
use Rattle.tb_stands.proofs.Ways.{path_none, nearest_self, has_back}
use Rattle.tb_stands.proofs.Reports.{Among}
use Rattle.tb_stands.proofs.Made.{some_agree}
use Rattle.tb_stands.proofs.Below.{not_both}

abbrev pub every : ℕ → Bool
every t = true

-- the nearest kept tag above a kept parent is that one
pub nearest_parent : (kept : ℕ → Bool) (size : ℕ) (rows : List Row) (x : Row) (q : ℕ) → IsRows size rows → Among rows x → x.parent ≡ Some q → kept q ≡ true → nearest kept (reverse rows) (Some q) ≡ Some q
nearest_parent kept size rows x q is among up keeps =
    nearest_self kept (reverse rows) q keeps (has_back kept rows q ∙ (parent_lesser size rows x.tag q is (ap (option_and_then (λ (y : Row). y.parent)) among ∙ up)).0)

some_every : (xs : List Row) → some_of (is_kept every) (λ x. x) xs ≡ xs
some_every [] = refl
some_every (x ∷ xs) = ap (λ ys. x ∷ ys) (some_every xs)

pub restricted_every : (size : ℕ) (rows : List Row) → IsRows size rows → restricted every rows ≡ rows
restricted_every size rows is = some_agree (is_kept every) (raised every rows) (λ x. x) rows (over rows (find_self rows (AreRising-rows size rows is))) ∙ some_every rows
  where
    one : (x : Row) → Among rows x → (o : Option ℕ) → x.parent ≡ o → nearest every (reverse rows) o ≡ o
    one x among None up = ap (λ xs. option_map (λ (y : Row). y.tag) (find (is_kept every) xs)) (path_none (reverse rows))
    one x among (Some q) up = nearest_parent every size rows x q is among up refl

    over : (xs : List Row) → AllByRecursion (Among rows) xs → AllByRecursion (λ (x : Row). raised every rows x ≡ x) xs
    over [] all = tt
    over (x ∷ xs) all = (ap (λ o. record x { parent = o }) (one x all.0 x.parent refl), over xs all.1)

root_every : (size : ℕ) (rows : List Row) → IsRows size rows → KeepsRoot every rows
root_every size [] is = is.grown
root_every size (row ∷ rows) is = refl

-- all rows stand for themselves
pub start_stands : (size : ℕ) (rows : List Row) (reached : List ℕ) → IsRows size rows → AllByRecursion (HasTag rows) reached → Stands size rows rows reached
start_stands size rows reached is known = (
  every,
  record {
    sound = is;
    are = sym (restricted_every size rows is);
    root = root_every size rows is;
    unknown = λ t away. refl;
    free = λ t has drops. absurd (not_both true refl drops);
    covered = λ t has drops. absurd (not_both true refl drops);
  },
  known,
)

-- all but one tag
abbrev pub but : ℕ → ℕ → Bool
but t u = not (u == t)

pub but_self : (t : ℕ) → but t t ≡ false
but_self t = ap not (eq-eqb t t refl)

pub but_other : (t u : ℕ) → u ≢ t → but t u ≡ true
but_other t u differs = ap not (ne_eqb u t differs)

-- what is left where a tag with a parent is taken out
pub removed_restricted : (size : ℕ) (rows : List Row) (t p : ℕ) → IsRows size rows → HasTag rows t → parent_in rows t ≡ Some p → removed rows t ≡ restricted (but t) rows
removed_restricted size rows t p is has up = some_agree (is_kept (but t)) (moved_up_row t (parent_in rows t)) (raised (but t) rows) rows (over rows (find_self rows (AreRising-rows size rows is)))
  where
    found : (r : Row) × (find (is_tag t) rows ≡ Some r)
    found = has_found rows t has

    up_row : found.0.parent ≡ Some p
    up_row = sym (ap (option_and_then (λ (y : Row). y.parent)) found.1) ∙ up

    older : HasTag rows p × (p < t)
    older = parent_lesser size rows t p is up

    keeps_p : but t p ≡ true
    keeps_p = let less : p < t = older.1 in but_other t p (λ same. absurd (omega (arith, less, same)))

    -- above the children of the tag stands its parent
    above : nearest (but t) (reverse rows) (Some t) ≡ Some p
    above =
        ap (λ xs. option_map (λ (y : Row). y.tag) (find (is_kept (but t)) xs)) (path_step size rows t p found.0 is found.1 up_row)
        ∙ ap (λ b. option_map (λ (y : Row). y.tag) (cond b (Some found.0) (find (is_kept (but t)) (path_from (reverse rows) (Some p))))) (ap (but t) (found_tag rows t found.0 found.1) ∙ but_self t)
        ∙ nearest_self (but t) (reverse rows) p keeps_p (has_back (but t) rows p ∙ older.0)

    moved : (x : Row) → Among rows x → (o : Option ℕ) → x.parent ≡ o → (b : Bool) → is_child t o ≡ b → cond {A = Row} b (record x { parent = parent_in rows t }) x ≡ record x { parent = nearest (but t) (reverse rows) o }
    moved x among None is_o true child = absurd (not_both false child refl)
    moved x among None is_o false child = ap (λ o. record x { parent = o }) (is_o ∙ sym (ap (λ xs. option_map (λ (y : Row). y.tag) (find (is_kept (but t)) xs)) (path_none (reverse rows))))
    moved x among (Some q) is_o true child = ap (λ o. record x { parent = o }) (up ∙ sym above ∙ ap (λ k. nearest (but t) (reverse rows) (Some k)) (sym (eqb-true q t child)))
    moved x among (Some q) is_o false child =
        ap (λ o. record x { parent = o }) (is_o ∙ sym (nearest_parent (but t) size rows x q is among is_o (ap not child)))

    over : (xs : List Row) → AllByRecursion (Among rows) xs → AllByRecursion (λ (x : Row). moved_up_row t (parent_in rows t) x ≡ raised (but t) rows x) xs
    over [] all = tt
    over (x ∷ xs) all = (moved x all.0 x.parent refl (is_child t x.parent) refl, over xs all.1)

-- Accesses, the reads of reborrows, and releases, as they are seen among the kept rows and among all.
use Rattle.std.proofs.Common.{◌≡◌, ◌∙◌, ◌≢◌, ◌⊎◌, ◌&&◌, ℕ, ◌≤◌, Bool, true, false, cond, not, List, refl, ap, sym, arith, Option, Some, None, find, inl, inr, ◌==◌}
use Rattle.std.specs.Prelude.{option_map, option_and_then}
use Rattle.tb_perm.specs.declared.perm.Kind.{Kind}
use Rattle.tb_perm.specs.declared.new_tag.NewTag.{NewTag}
use Rattle.tb_perm.specs.Rows.{Row, is_tag, HasTag, IsRows, is_on_path, state_at}
use Rattle.tb_perm.specs.Access.{access_event}
use Rattle.tb_perm.specs.Reborrow.{reborrow_event}
use Rattle.tb_perm.specs.Release.{is_below, released_kind, released_at, release_event}
use Rattle.tb_perm.proofs.Paths.{path_chain, path_comparable, path_falls}
use Rattle.tb_stands.specs.Restricted.{raised, restricted}
use Rattle.tb_stands.proofs.Ways.{find_own, on_own}
use Rattle.tb_stands.proofs.Below.{not_both, below_on, on_below}
use Rattle.tb_stands.proofs.AnyEvent.{IsSeen}

pub access_seen : (kept : ℕ → Bool) (rows : List Row) (t lo hi : ℕ) (kind : Kind) → HasTag rows t → kept t ≡ true → IsSeen kept rows (access_event t lo hi kind) (access_event t lo hi kind)
access_seen kept rows t lo hi kind has keeps =
    record { there = has; keeps = keeps; through = refl; meets = λ u keeps. refl; alike = λ t c byte has drops keeps on goes. refl }

pub reborrow_seen : (kept : ℕ → Bool) (rows : List Row) (new : NewTag) → HasTag rows new.parent.0 → kept new.parent.0 ≡ true → IsSeen kept rows (reborrow_event new) (reborrow_event new)
reborrow_seen kept rows new has keeps =
    record { there = has; keeps = keeps; through = refl; meets = λ u keeps. refl; alike = λ t c byte has drops keeps on goes. refl }

-- a kept tag asks for the same accesses at the end of its call
released_same : (kept : ℕ → Bool) (rows : List Row) (t byte : ℕ) → kept t ≡ true → released_at (restricted kept rows) t byte ≡ released_at rows t byte
released_same kept rows t byte keeps = ap (option_and_then (λ (row : Row). released_kind (state_at row byte))) (find_own kept rows t keeps) ∙ at (find (is_tag t) rows)
  where
    at : (o : Option Row) → option_and_then (λ (row : Row). released_kind (state_at row byte)) (option_map (raised kept rows) o) ≡ option_and_then (λ (row : Row). released_kind (state_at row byte)) o
    at None = refl
    at (Some row) = refl

-- a tag that is left out is below a kept one exactly where the tag that covers it is, unless the kept one
-- lies between
below_alike : (size : ℕ) (rows : List Row) (through t c : ℕ) → IsRows size rows → through ≢ t → is_on_path rows c t ≡ true → is_on_path rows through t ≡ is_on_path rows through c → is_below rows through t ≡ is_below rows through c
below_alike size rows through t c is differs on goes = at (is_below rows through t) refl (is_below rows through c) refl
  where
    same_tag : (a b : ℕ) → is_on_path rows a b ≡ true → is_on_path rows b a ≡ true → a ≡ b
    same_tag a b on back =
        let low : b ≤ a = path_falls size rows a b is on in
        let high : a ≤ b = path_falls size rows b a is back in
        omega (arith, low, high)

    -- where the one for which the event is made is an ancestor of the tag that is left out, it is one of the other
    down : is_below rows through t ≡ true → is_below rows through c ≡ true
    down below =
        let parts = below_on rows through t below in
        on_below rows through c (path_chain size rows c t through is on parts.0)
        (λ same. differs (same_tag through t (ap (λ k. is_on_path rows k t) (sym same) ∙ on) parts.0))

    up : is_below rows through c ≡ true → is_below rows through t ≡ true
    up below = at_pair (path_comparable size rows c through t is parts.0 on)
      where
        parts : (is_on_path rows c through ≡ true) × (c ≢ through)
        parts = below_on rows through c below

        at_pair : (is_on_path rows through t ≡ true) ⊎ (is_on_path rows t through ≡ true) → is_below rows through t ≡ true
        at_pair (inl above) = absurd (parts.1 (same_tag c through parts.0 (sym goes ∙ above)))
        at_pair (inr under) = on_below rows through t under (λ same. differs (sym same))

    at : (a : Bool) → is_below rows through t ≡ a → (b : Bool) → is_below rows through c ≡ b → is_below rows through t ≡ is_below rows through c
    at true is_a b is_b = is_a ∙ sym (down is_a)
    at false is_a true is_b = absurd (not_both (is_below rows through t) (up is_b) is_a)
    at false is_a false is_b = is_a ∙ sym is_b

pub release_seen : (kept : ℕ → Bool) (size : ℕ) (rows : List Row) (t : ℕ) → IsRows size rows → HasTag rows t → kept t ≡ true → IsSeen kept rows (release_event (restricted kept rows) t) (release_event rows t)
release_seen kept size rows t is has keeps =
    record {
      there = has;
      keeps = keeps;
      through = refl;
      meets = λ u keeps_u i byte. cond (not (u == t) && on_own kept rows size u t is keeps_u keeps i) None (released_same kept rows t byte keeps i);
      alike = λ v c byte has_c drops keeps_c on goes. ap (λ b. cond b None (released_at rows t byte)) (below_alike size rows t v c is (λ same. not_both (kept v) (ap kept (sym same) ∙ keeps) drops) on goes);
    }

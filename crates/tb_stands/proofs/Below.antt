-- Strict descendants.
use Rattle.std.proofs.Common.{◌≡◌, ◌∙◌, ◌≢◌, ◌&&◌, ℕ, ◌<◌, ◌≤◌, Bool, true, false, not, List, ap, sym, arith, ◌==◌}
use Rattle.std.proofs.lemmas.Bool.{eq-eqb, ne_eqb, and_parts}
use Rattle.tb_perm.specs.Rows.{Row, IsRows, is_on_path}
use Rattle.tb_perm.specs.Tree.{KeepsTree}
use Rattle.tb_perm.specs.Release.{is_below}
use Rattle.tb_perm.proofs.Kept.{is_on_path-kept}
use Rattle.tb_perm.proofs.Paths.{path_chain, path_falls}

pub not_both : (b : Bool) → b ≡ true → b ≡ false → ⊥
not_both true is isnt = cc
not_both false is isnt = cc

pub below_on : (rows : List Row) (t u : ℕ) → is_below rows t u ≡ true → (is_on_path rows u t ≡ true) × (u ≢ t)
below_on rows t u below =
    let parts = and_parts (not (u == t)) (is_on_path rows u t) below in
    (parts.1, λ same. let clash : false ≡ true = sym (ap not (eq-eqb u t same)) ∙ parts.0 in cc)

pub on_below : (rows : List Row) (t u : ℕ) → is_on_path rows u t ≡ true → u ≢ t → is_below rows t u ≡ true
on_below rows t u on differs = ap (λ b. not b && is_on_path rows u t) (ne_eqb u t differs) ∙ on

-- a kept tag is another than one that is not
pub kept_differs : (kept : ℕ → Bool) (u t : ℕ) → kept u ≡ true → kept t ≡ false → u ≢ t
kept_differs kept u t keeps drops same = not_both (kept t) (ap kept (sym same) ∙ keeps) drops

pub kept_below : (kept : ℕ → Bool) (rows : List Row) (t u : ℕ) → kept u ≡ true → kept t ≡ false → is_on_path rows u t ≡ true → is_below rows t u ≡ true
kept_below kept rows t u keeps drops on = on_below rows t u on (kept_differs kept u t keeps drops)

-- a descendant is the greater tag
pub below_less : (size : ℕ) (rows : List Row) (t u : ℕ) → IsRows size rows → is_below rows t u ≡ true → t < u
below_less size rows t u is below =
    let parts = below_on rows t u below in
    let least : t ≤ u = path_falls size rows u t is parts.0 in
    less least (λ same. parts.1 (sym same))
  where
    less : t ≤ u → t ≢ u → t < u
    less least differs = omega (arith, least, differs)

-- what is below a tag at or below another is below that
pub below_chain : (size : ℕ) (rows : List Row) (t c u : ℕ) → IsRows size rows → is_below rows t c ≡ true → is_on_path rows u c ≡ true → is_below rows t u ≡ true
below_chain size rows t c u is below on =
    let parts = below_on rows t c below in
    let least : c ≤ u = path_falls size rows u c is on in
    let less : t < c = below_less size rows t c is below in
    on_below rows t u (path_chain size rows u c t is on parts.0) (λ same. apart least less same)
  where
    apart : c ≤ u → t < c → u ≡ t → ⊥
    apart least less same = absurd (omega (arith, least, less, same))

pub is_below-kept : (old new : List Row) (t u : ℕ) → KeepsTree old new → is_below new t u ≡ is_below old t u
is_below-kept old new t u h = ap (λ b. not (u == t) && b) (is_on_path-kept old new u t h)

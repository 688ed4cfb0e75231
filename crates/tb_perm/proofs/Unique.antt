-- Each tag has one row.
use Rattle.std.proofs.Common.{◌≡◌, ◌∙◌, ℕ, ◌<◌, Bool, true, false, cond, List, [], ◌∷◌, reverse, refl, ap, arith, Option, Some, find}
use Rattle.std.specs.List.{AllByRecursion}
use Rattle.std.proofs.lemmas.Bool.{eq-eqb, ne_eqb}
use mathlib.Core.List.{reverse_aux}
use Rattle.tb_perm.proofs.Kept.{AllByRecursion-reverse_aux}
use Rattle.tb_perm.specs.Rows.{Row, is_tag, is_asked, IsGrown, IsRows, path_to_root, path_from}

-- each tag is below those after it
abbrev pub AreRising : List Row → Type 0
AreRising [] = Unit {0}
AreRising (row ∷ rows) = AllByRecursion (λ (later : Row). row.tag < later.tag) rows × AreRising rows

record RisesTo (xs ys : List Row) : Type 0 where
  grown : IsGrown ys
  above : AllByRecursion (λ (x : Row). AllByRecursion (λ (y : Row). y.tag < x.tag) ys) xs
  rising : AreRising xs

heads : (x : Row) (ys xs : List Row) → AllByRecursion (λ (z : Row). AllByRecursion (λ (y : Row). y.tag < z.tag) (x ∷ ys)) xs → AllByRecursion (λ (z : Row). x.tag < z.tag) xs
heads x ys [] all = tt
heads x ys (z ∷ xs) all = (all.0.0, heads x ys xs all.1)

tails : (x : Row) (ys xs : List Row) → AllByRecursion (λ (z : Row). AllByRecursion (λ (y : Row). y.tag < z.tag) (x ∷ ys)) xs → AllByRecursion (λ (z : Row). AllByRecursion (λ (y : Row). y.tag < z.tag) ys) xs
tails x ys [] all = tt
tails x ys (z ∷ xs) all = (all.0.1, tails x ys xs all.1)

rises_to : (xs : List Row) (y : Row) (ys : List Row) → IsGrown (reverse_aux xs (y ∷ ys)) → RisesTo xs (y ∷ ys)
rises_to [] y ys grown = record { grown = grown; above = tt; rising = tt }
rises_to (x ∷ xs) y ys grown =
    let rest = rises_to xs x (y ∷ ys) grown in
    record {
      grown = rest.grown.1;
      above = (rest.grown.0.above, tails x (y ∷ ys) xs rest.above);
      rising = (heads x (y ∷ ys) xs rest.above, rest.rising);
    }

-- the rows of an allocation rise
pub AreRising-rows : (size : ℕ) (rows : List Row) → IsRows size rows → AreRising rows
AreRising-rows size [] is = tt
AreRising-rows size (row ∷ rows) is =
    let rest = rises_to rows row [] is.grown in
    (heads row [] rows rest.above, rest.rising)

later_found : (x : Row) (xs zs : List Row) → AllByRecursion (λ (z : Row). x.tag < z.tag) zs → AllByRecursion (λ (z : Row). find (is_tag z.tag) xs ≡ Some z) zs → AllByRecursion (λ (z : Row). find (is_tag z.tag) (x ∷ xs) ≡ Some z) zs
later_found x xs [] above all = tt
later_found x xs (z ∷ zs) above all =
    (ap (λ b. cond b (Some x) (find (is_tag z.tag) xs)) (ne_eqb x.tag z.tag (omega (arith, above.0))) ∙ all.0, later_found x xs zs above.1 all.1)

-- a search for a row's tag finds the row
pub find_self : (rows : List Row) → AreRising rows → AllByRecursion (λ (row : Row). find (is_tag row.tag) rows ≡ Some row) rows
find_self [] rising = tt
find_self (x ∷ xs) rising =
    (ap (λ b. cond b (Some x) (find (is_tag x.tag) xs)) (eq-eqb x.tag x.tag refl), later_found x xs xs rising.0 (find_self xs rising.1))

pub AllByRecursion-path_from : (P : Row → Type 0) (rows : List Row) (asked : Option ℕ) → AllByRecursion P rows → AllByRecursion P (path_from rows asked)
AllByRecursion-path_from P [] asked all = tt
AllByRecursion-path_from P (row ∷ rows) asked all = at (is_asked asked row) (AllByRecursion-path_from P rows row.parent all.1) (AllByRecursion-path_from P rows asked all.1)
  where
    at : (b : Bool) → AllByRecursion P (path_from rows row.parent) → AllByRecursion P (path_from rows asked) → AllByRecursion P (cond b (row ∷ path_from rows row.parent) (path_from rows asked))
    at true up on = (all.0, up)
    at false up on = on

pub AllByRecursion-reverse : (P : Row → Type 0) (rows : List Row) → AllByRecursion P rows → AllByRecursion P (reverse rows)
AllByRecursion-reverse P rows all = AllByRecursion-reverse_aux P rows [] all tt

-- what holds of all rows holds of those on a path
pub AllByRecursion-path_to_root : (P : Row → Type 0) (rows : List Row) (t : ℕ) → AllByRecursion P rows → AllByRecursion P (path_to_root rows t)
AllByRecursion-path_to_root P rows t all = AllByRecursion-path_from P (reverse rows) (Some t) (AllByRecursion-reverse P rows all)

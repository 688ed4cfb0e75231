-- An event has the same report among the kept rows as among all: where a row that is left out refuses, a
-- kept one refuses too, which is nearer on the path.
use Rattle.std.proofs.Common.{◌≡◌, ◌∙◌, ◌||◌, ℕ, zero, suc, ◌+◌, ◌<◌, ◌≤◌, Bool, true, false, cond, List, [], ◌∷◌, reverse, refl, ap, sym, arith, Option, Some, None, find, ◌==◌}
use Rattle.std.specs.Prelude.{option_map, option_and_then, is_some}
use Rattle.std.specs.List.{list_any, AllByRecursion, range_with_len}
use Rattle.std.specs.Option.{option_or}
use Rattle.std.proofs.lemmas.Bool.{eqb-true}
use Rattle.tb_perm.specs.declared.report.Access.{Access}
use Rattle.tb_perm.specs.declared.report.Refusal.{Refusal}
use Rattle.tb_perm.specs.Rows.{Row, is_tag, is_asked, IsRows, path_from, path_to_root, is_on_path}
use Rattle.tb_perm.specs.Choice.{refuses, refused_byte, refusing_row, report_on, report_at, report_of}
use Rattle.tb_perm.proofs.Found.{has_found, found_tag, found_All}
use Rattle.tb_perm.proofs.Unique.{AreRising-rows, find_self, AllByRecursion-path_from, AllByRecursion-path_to_root}
use Rattle.tb_perm.proofs.Reported.{found_range}
use Rattle.tb_stands.specs.Restricted.{is_kept, raised, restricted}
use Rattle.tb_stands.proofs.Lists.{find_some, any_find}
use Rattle.tb_stands.proofs.Ways.{IsBack, grown_back, find_All, path_own, find_own}

-- the row is the one that a search for its tag finds
abbrev pub Among : List Row → Row → Type 0
Among rows r = find (is_tag r.tag) rows ≡ Some r

abbrev pub Falling : List Row → Type 0
Falling [] = Unit {0}
Falling (row ∷ rows) = AllByRecursion (λ (o : Row). o.tag < row.tag) rows × Falling rows

falling_path : (back : List Row) (asked : Option ℕ) → IsBack back → Falling (path_from back asked)
falling_path [] asked is = tt
falling_path (row ∷ older) asked is = at (is_asked asked row) (falling_path older row.parent is.2) (falling_path older asked is.2)
  where
    at : (b : Bool) → Falling (path_from older row.parent) → Falling (path_from older asked) → Falling (cond b (row ∷ path_from older row.parent) (path_from older asked))
    at true up on = (AllByRecursion-path_from (λ (o : Row). o.tag < row.tag) older row.parent is.0, up)
    at false up on = on

-- what is found passes
pub find_passes : (q : Row → Bool) (rows : List Row) (r : Row) → find q rows ≡ Some r → q r ≡ true
find_passes q [] r found = cc
find_passes q (row ∷ rows) r found = at (q row) refl found (find_passes q rows r)
  where
    at : (b : Bool) → q row ≡ b → cond b (Some row) (find q rows) ≡ Some r → (find q rows ≡ Some r → q r ≡ true) → q r ≡ true
    at true is found later = let one : row ≡ r = cc in ap q (sym one) ∙ is
    at false is found later = later found

-- a row that is found passes another test, so some row does
pub find_any : (p q : Row → Bool) (rows : List Row) (r : Row) → find p rows ≡ Some r → q r ≡ true → list_any q rows ≡ true
find_any p q [] r found passes = cc
find_any p q (row ∷ rows) r found passes = at (p row) found (find_any p q rows r)
  where
    or_there : (b : Bool) → list_any q rows ≡ true → (b || list_any q rows) ≡ true
    or_there true h = refl
    or_there false h = h

    at : (b : Bool) → cond b (Some row) (find p rows) ≡ Some r → (find p rows ≡ Some r → q r ≡ true → list_any q rows ≡ true) → (q row || list_any q rows) ≡ true
    at true found later = let one : row ≡ r = cc in ap (λ b. b || list_any q rows) (ap q one ∙ passes)
    at false found later = or_there (q row) (later found passes)

-- a row among all whose tag is in a list of such rows is in the list
among_found : (rows xs : List Row) (c : Row) → AllByRecursion (Among rows) xs → Among rows c → list_any (is_tag c.tag) xs ≡ true → find (is_tag c.tag) xs ≡ Some c
among_found rows xs c all among there =
    let r = has_found xs c.tag there in
    let same : r.0.tag ≡ c.tag = found_tag xs c.tag r.0 r.1 in
    let own : find (is_tag r.0.tag) rows ≡ Some r.0 = found_All (Among rows) xs c.tag r.0 all r.1 in
    r.1 ∙ sym own ∙ ap (λ k. find (is_tag k) rows) same ∙ among

-- in a falling list the first row that passes is the greatest
first_greatest : (q : Row → Bool) (xs : List Row) (r c : Row) → Falling xs → find q xs ≡ Some r → find (is_tag c.tag) xs ≡ Some c → q c ≡ true → c.tag ≤ r.tag
first_greatest q [] r c falls found there passes = cc
first_greatest q (x ∷ xs) r c falls found there passes = at (q x) refl found (x.tag == c.tag) refl there (λ found there. first_greatest q xs r c falls.1 found there passes)
  where
    at : (a : Bool) → q x ≡ a → cond a (Some x) (find q xs) ≡ Some r → (b : Bool) → (x.tag == c.tag) ≡ b → cond b (Some x) (find (is_tag c.tag) xs) ≡ Some c → (find q xs ≡ Some r → find (is_tag c.tag) xs ≡ Some c → c.tag ≤ r.tag) → c.tag ≤ r.tag
    at true is found true same there later =
        let one : x ≡ r = cc in
        let two : x.tag ≡ r.tag = ap (λ (z : Row). z.tag) one in
        let three : x.tag ≡ c.tag = eqb-true x.tag c.tag same in
        omega (arith, two, three)
    at true is found false other there later =
        let one : x ≡ r = cc in
        let two : x.tag ≡ r.tag = ap (λ (z : Row). z.tag) one in
        let less : c.tag < x.tag = found_All (λ (o : Row). o.tag < x.tag) xs c.tag c falls.0 there in
        omega (arith, two, less)
    at false is found true same there later = let one : x ≡ c = cc in let clash : true ≡ false = sym passes ∙ ap q (sym one) ∙ is in absurd (cc)
    at false is found false other there later = later found there

-- a search over a range by two tests that agree there
find_range_same : (q r : ℕ → Bool) (from n : ℕ) → ((c : ℕ) → from ≤ c → c < from + n → q c ≡ r c) → find q (range_with_len from n) ≡ find r (range_with_len from n)
find_range_same q r from zero same = refl
find_range_same q r from (suc n) same =
    ap (λ b. cond b (Some from) (find q (range_with_len (from + 1) n))) (same from (omega arith) (omega arith))
    ∙ ap (λ o. cond (r from) (Some from) o) (find_range_same q r (from + 1) n (λ c low high. same c (omega (arith, low)) (omega (arith, high))))

-- what is asked of two ways to refuse, the first for the kept rows and the second for all
pub record Blames (kept : ℕ → Bool) (size : ℕ) (rows : List Row) (through : ℕ) (mine all : Row → ℕ → Option Refusal) : Type 0 where
  pub same : (r : Row) → kept r.tag ≡ true → (b : ℕ) → mine (raised kept rows r) b ≡ all r b
  pub blame : (r : Row) (b : ℕ) → b < size → Among rows r → kept r.tag ≡ false → refuses all b r ≡ true
      → (c : Row) × Among rows c × (kept c.tag ≡ true) × (refuses all b c ≡ true) × (is_on_path rows through c.tag ≡ true) × (r.tag < c.tag)

module _ (kept : ℕ → Bool) (size : ℕ) (rows : List Row) (through : ℕ) (mine all : Row → ℕ → Option Refusal) (is : IsRows size rows) (keeps : kept through ≡ true) (blames : Blames kept size rows through mine all) where
  all_among : AllByRecursion (Among rows) rows
  all_among = find_self rows (AreRising-rows size rows is)

  path_among : AllByRecursion (Among rows) (path_to_root rows through)
  path_among = AllByRecursion-path_to_root (Among rows) rows through all_among

  -- the first refusing row on the path is kept
  near_kept : (b : ℕ) (r : Row) → b < size → find (refuses all b) (path_to_root rows through) ≡ Some r → kept r.tag ≡ true
  near_kept b r within found = at (kept r.tag) refl
    where
      at : (d : Bool) → kept r.tag ≡ d → kept r.tag ≡ true
      at true is_kept = is_kept
      at false drops =
          let c = blames.blame r b within (find_All (Among rows) (refuses all b) (path_to_root rows through) r path_among found) drops (find_passes (refuses all b) (path_to_root rows through) r found) in
          let most : c.0.tag ≤ r.tag = first_greatest (refuses all b) (path_to_root rows through) r c.0 (falling_path (reverse rows) (Some through) (grown_back (reverse rows) is.grown)) found (among_found rows (path_to_root rows through) c.0 path_among c.1 c.4) c.3 in
          absurd (omega (arith, most, c.5))

  -- where none on the path refuses, the first refusing row of all is kept
  least_kept : (b : ℕ) (r : Row) → b < size → find (refuses all b) (path_to_root rows through) ≡ None → find (refuses all b) rows ≡ Some r → kept r.tag ≡ true
  least_kept b r within none found = at (kept r.tag) refl
    where
      at : (d : Bool) → kept r.tag ≡ d → kept r.tag ≡ true
      at true is_kept = is_kept
      at false drops =
          let c = blames.blame r b within (find_All (Among rows) (refuses all b) rows r all_among found) drops (find_passes (refuses all b) rows r found) in
          let some : list_any (refuses all b) (path_to_root rows through) ≡ true = find_any (is_tag c.0.tag) (refuses all b) (path_to_root rows through) c.0 (among_found rows (path_to_root rows through) c.0 path_among c.1 c.4) c.3 in
          absurd (let clash : true ≡ false = sym some ∙ any_find (refuses all b) (path_to_root rows through) ∙ ap is_some none in cc)

  refuses_same : (b : ℕ) (r : Row) → kept r.tag ≡ true → refuses mine b (raised kept rows r) ≡ refuses all b r
  refuses_same b r is_kept = ap is_some (blames.same r is_kept b)

  -- some kept row refuses where some row refuses
  any_same : (b : ℕ) → b < size → list_any (refuses mine b) (restricted kept rows) ≡ list_any (refuses all b) rows
  any_same b within = at (find (refuses all b) rows) refl
    where
      by_kept : (c : Row) → Among rows c → kept c.tag ≡ true → refuses all b c ≡ true → list_any (refuses mine b) (restricted kept rows) ≡ true
      by_kept c among is_kept passes =
          find_any (is_tag c.tag) (refuses mine b) (restricted kept rows) (raised kept rows c) (find_own kept rows c.tag is_kept ∙ ap (option_map (raised kept rows)) among) (refuses_same b c is_kept ∙ passes)

      some : (r : Row) → find (refuses all b) rows ≡ Some r → (d : Bool) → kept r.tag ≡ d → list_any (refuses mine b) (restricted kept rows) ≡ true
      some r found true is_kept = by_kept r (find_All (Among rows) (refuses all b) rows r all_among found) is_kept (find_passes (refuses all b) rows r found)
      some r found false drops =
          let c = blames.blame r b within (find_All (Among rows) (refuses all b) rows r all_among found) drops (find_passes (refuses all b) rows r found) in
          by_kept c.0 c.1 c.2 c.3

      at : (o : Option Row) → find (refuses all b) rows ≡ o → list_any (refuses mine b) (restricted kept rows) ≡ list_any (refuses all b) rows
      at (Some r) found = some r found (kept r.tag) refl ∙ sym (any_find (refuses all b) rows ∙ ap is_some found)
      at None none =
          any_find (refuses mine b) (restricted kept rows)
          ∙ ap is_some (find_some (refuses mine b) (refuses all b) (is_kept kept) (raised kept rows) (λ row is_kept. refuses_same b row is_kept) rows (λ row found. absurd (let clash : Some row ≡ None = sym found ∙ none in cc)) ∙ ap (option_map (raised kept rows)) none)
          ∙ sym (any_find (refuses all b) rows ∙ ap is_some none)

  byte_same : refused_byte mine size (restricted kept rows) ≡ refused_byte all size rows
  byte_same = find_range_same (λ b. list_any (refuses mine b) (restricted kept rows)) (λ b. list_any (refuses all b) rows) 0 size (λ c low high. any_same c (omega (arith, high)))

  -- the kept row that is to blame
  row_same : (b : ℕ) → b < size → refusing_row mine (restricted kept rows) through b ≡ option_map (raised kept rows) (refusing_row all rows through b)
  row_same b within =
      ap (λ xs. option_or (find (refuses mine b) xs) (find (refuses mine b) (restricted kept rows))) (path_own kept rows size through is keeps)
      ∙ ap (λ o. option_or o (find (refuses mine b) (restricted kept rows))) (find_some (refuses mine b) (refuses all b) (is_kept kept) (raised kept rows) (λ row is_kept. refuses_same b row is_kept) (path_to_root rows through) (λ row found. near_kept b row within found))
      ∙ at (find (refuses all b) (path_to_root rows through)) refl
    where
      at : (o : Option Row) → find (refuses all b) (path_to_root rows through) ≡ o → option_or (option_map (raised kept rows) o) (find (refuses mine b) (restricted kept rows)) ≡ option_map (raised kept rows) (option_or o (find (refuses all b) rows))
      at (Some r) found = refl
      at None none = find_some (refuses mine b) (refuses all b) (is_kept kept) (raised kept rows) (λ row is_kept. refuses_same b row is_kept) rows (λ row found. least_kept b row within none found)

  blamed_kept : (b : ℕ) (r : Row) → b < size → refusing_row all rows through b ≡ Some r → kept r.tag ≡ true
  blamed_kept b r within found = at (find (refuses all b) (path_to_root rows through)) refl found
    where
      at : (o : Option Row) → find (refuses all b) (path_to_root rows through) ≡ o → option_or o (find (refuses all b) rows) ≡ Some r → kept r.tag ≡ true
      at (Some x) near found = ap (λ (z : Row). kept z.tag) (sym (let one : x ≡ r = cc in one)) ∙ near_kept b x within near
      at None none found = least_kept b r within none found

  at_same : (access : Access) (b : ℕ) → b < size → report_at mine access (restricted kept rows) through b ≡ report_at all access rows through b
  at_same access b within = ap (option_and_then (λ row. option_map (report_on access through b row) (mine row b))) (row_same b within) ∙ at (refusing_row all rows through b) refl
    where
      at : (o : Option Row) → refusing_row all rows through b ≡ o → option_and_then (λ row. option_map (report_on access through b row) (mine row b)) (option_map (raised kept rows) o) ≡ option_and_then (λ row. option_map (report_on access through b row) (all row b)) o
      at None none = refl
      at (Some r) found = ap (option_map (report_on access through b r)) (blames.same r (blamed_kept b r within found) b)

  -- the same report
  pub report_same : (access : Access) → report_of mine access size (restricted kept rows) through ≡ report_of all access size rows through
  report_same access = ap (option_and_then (report_at mine access (restricted kept rows) through)) byte_same ∙ at (refused_byte all size rows) refl
    where
      at : (o : Option ℕ) → refused_byte all size rows ≡ o → option_and_then (report_at mine access (restricted kept rows) through) o ≡ option_and_then (report_at all access rows through) o
      at None none = refl
      at (Some b) found = let range = found_range (λ c. list_any (refuses all c) rows) 0 size b found in at_same access b (omega (arith, range.1))

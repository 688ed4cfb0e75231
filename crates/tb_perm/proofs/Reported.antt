-- Which report an event has: by the least byte at which a tag refuses, and the tag that is to blame there.
use Rattle.std.proofs.Common.{◌≡◌, ◌∙◌, ◌⊎◌, ◌≢◌, ◌||◌, ℕ, zero, suc, ◌+◌, ◌<◌, ◌≤◌, Bool, true, false, cond, List, [], ◌∷◌, refl, ap, sym, arith, Option, Some, None, find, inl, inr}
use Rattle.std.specs.Prelude.{option_and_then, option_map, is_some}
use Rattle.std.specs.List.{list_any, range_with_len}
use Rattle.std.specs.Option.{option_or}
use Rattle.std.proofs.lemmas.Bool.{cases_eq}
use Rattle.tb_perm.specs.declared.report.Access.{Access}
use Rattle.tb_perm.specs.declared.report.Refusal.{Refusal}
use Rattle.tb_perm.specs.Rows.{Row, path_to_root}
use Rattle.tb_perm.specs.Choice.{refuses, refused_byte, refusing_row, report_on, report_at, report_of}

-- the first number of a range that passes a test
pub find_range : (q : ℕ → Bool) (from n b : ℕ) → from ≤ b → b < from + n → q b ≡ true → ((c : ℕ) → from ≤ c → c < b → q c ≡ false) → find q (range_with_len from n) ≡ Some b
find_range q from zero b low high passes first = absurd (omega (arith, low, high))
find_range q from (suc n) b low high passes first = at (cases_eq from b) (λ above. find_range q (from + 1) n b above (omega (arith, high)) passes (λ c low less. first c (omega (arith, low)) less))
  where
    at : (from ≡ b) ⊎ (from ≢ b) → (from + 1 ≤ b → find q (range_with_len (from + 1) n) ≡ Some b) → cond (q from) (Some from) (find q (range_with_len (from + 1) n)) ≡ Some b
    at (inl same) later = ap (λ t. cond t (Some from) (find q (range_with_len (from + 1) n))) (ap q same ∙ passes) ∙ ap Some same
    at (inr differs) later =
        let less : from < b = omega (arith, low, differs) in
        ap (λ t. cond t (Some from) (find q (range_with_len (from + 1) n))) (first from (omega arith) less) ∙ later (omega (arith, less))

-- no number of a range passes
pub find_range_none : (q : ℕ → Bool) (from n : ℕ) → ((c : ℕ) → from ≤ c → c < from + n → q c ≡ false) → find q (range_with_len from n) ≡ None
find_range_none q from zero none = refl
find_range_none q from (suc n) none =
    ap (λ t. cond t (Some from) (find q (range_with_len (from + 1) n))) (none from (omega arith) (omega arith)) ∙ find_range_none q (from + 1) n (λ c low high. none c (omega (arith, low)) (omega (arith, high)))

-- what is found lies in the range, and passes
pub found_range : (q : ℕ → Bool) (from n b : ℕ) → find q (range_with_len from n) ≡ Some b → (from ≤ b) × (b < from + n) × (q b ≡ true)
found_range q from zero b found = cc
found_range q from (suc n) b found = at (q from) refl found (found_range q (from + 1) n b)
  where
    at : (t : Bool) → q from ≡ t → cond t (Some from) (find q (range_with_len (from + 1) n)) ≡ Some b → (find q (range_with_len (from + 1) n) ≡ Some b → (from + 1 ≤ b) × (b < from + 1 + n) × (q b ≡ true)) → (from ≤ b) × (b < from + suc n) × (q b ≡ true)
    at true is found later = let one : from ≡ b = cc in (omega (arith, one), omega (arith, one), ap q (sym one) ∙ is)
    at false is found later = let rest = later found in (omega (arith, rest.0), omega (arith, rest.1), rest.2)

-- where a number passes something is found
missed : (q : ℕ → Bool) (from n b : ℕ) → from ≤ b → b < from + n → q b ≡ true → find q (range_with_len from n) ≡ None → ⊥
missed q from zero b low high passes none = absurd (omega (arith, low, high))
missed q from (suc n) b low high passes none = at (q from) refl none (cases_eq from b) (λ above. missed q (from + 1) n b above (omega (arith, high)) passes)
  where
    at : (t : Bool) → q from ≡ t → cond t (Some from) (find q (range_with_len (from + 1) n)) ≡ None → (from ≡ b) ⊎ (from ≢ b) → (from + 1 ≤ b → find q (range_with_len (from + 1) n) ≡ None → ⊥) → ⊥
    at true is none which later = cc
    at false is none (inl same) later = let clash : true ≡ false = sym passes ∙ ap q (sym same) ∙ is in cc
    at false is none (inr differs) later = later (omega (arith, low, differs)) none

module _ (refusal : Row → ℕ → Option Refusal) where
  -- the least byte at which a tag refuses
  pub refused_first : (size : ℕ) (rows : List Row) (b : ℕ) → b < size → list_any (refuses refusal b) rows ≡ true → ((c : ℕ) → c < b → list_any (refuses refusal c) rows ≡ false) → refused_byte refusal size rows ≡ Some b
  refused_first size rows b within some first = find_range (λ c. list_any (refuses refusal c) rows) 0 size b (omega arith) (omega (arith, within)) some (λ c low less. first c less)

  pub refused_never : (size : ℕ) (rows : List Row) → ((c : ℕ) → c < size → list_any (refuses refusal c) rows ≡ false) → refused_byte refusal size rows ≡ None
  refused_never size rows none = find_range_none (λ c. list_any (refuses refusal c) rows) 0 size (λ c low high. none c (omega (arith, high)))

  -- the nearest tag on the path that refuses, or else the least tag that does
  pub blamed_near : (rows : List Row) (through b : ℕ) (r : Row) → find (refuses refusal b) (path_to_root rows through) ≡ Some r → refusing_row refusal rows through b ≡ Some r
  blamed_near rows through b r found = ap (λ o. option_or o (find (refuses refusal b) rows)) found

  pub blamed_least : (rows : List Row) (through b : ℕ) → find (refuses refusal b) (path_to_root rows through) ≡ None → refusing_row refusal rows through b ≡ find (refuses refusal b) rows
  blamed_least rows through b none = ap (λ o. option_or o (find (refuses refusal b) rows)) none

  -- the report
  pub report_is : (access : Access) (size : ℕ) (rows : List Row) (through b : ℕ) (r : Row) (why : Refusal) → refused_byte refusal size rows ≡ Some b → refusing_row refusal rows through b ≡ Some r → refusal r b ≡ Some why → report_of refusal access size rows through ≡ Some (report_on access through b r why)
  report_is access size rows through b r why byte row refused =
      ap (option_and_then (report_at refusal access rows through)) byte
      ∙ ap (option_and_then (λ (x : Row). option_map (report_on access through b x) (refusal x b))) row
      ∙ ap (option_map (report_on access through b r)) refused

  pub report_none : (access : Access) (size : ℕ) (rows : List Row) (through : ℕ) → refused_byte refusal size rows ≡ None → report_of refusal access size rows through ≡ None
  report_none access size rows through none = ap (option_and_then (report_at refusal access rows through)) none

  -- where some tag refuses, one is to blame, and it refuses
  found_refuses : (b : ℕ) (rows : List Row) (r : Row) → find (refuses refusal b) rows ≡ Some r → refuses refusal b r ≡ true
  found_refuses b [] r found = cc
  found_refuses b (x ∷ rows) r found = at (refuses refusal b x) refl found (found_refuses b rows r)
    where
      at : (t : Bool) → refuses refusal b x ≡ t → cond t (Some x) (find (refuses refusal b) rows) ≡ Some r → (find (refuses refusal b) rows ≡ Some r → refuses refusal b r ≡ true) → refuses refusal b r ≡ true
      at true is found later = let one : x ≡ r = cc in ap (refuses refusal b) (sym one) ∙ is
      at false is found later = later found

  some_found : (b : ℕ) (rows : List Row) → list_any (refuses refusal b) rows ≡ true → (r : Row) × (find (refuses refusal b) rows ≡ Some r)
  some_found b [] some = absurd (cc)
  some_found b (x ∷ rows) some = at (refuses refusal b x) some (some_found b rows)
    where
      at : (t : Bool) → (t || list_any (refuses refusal b) rows) ≡ true → (list_any (refuses refusal b) rows ≡ true → (r : Row) × (find (refuses refusal b) rows ≡ Some r)) → (r : Row) × (cond t (Some x) (find (refuses refusal b) rows) ≡ Some r)
      at true some later = (x, refl)
      at false some later = later some

  pub blamed : (rows : List Row) (through b : ℕ) → list_any (refuses refusal b) rows ≡ true → (r : Row) × (refusing_row refusal rows through b ≡ Some r) × (refuses refusal b r ≡ true)
  blamed rows through b some = at (find (refuses refusal b) (path_to_root rows through)) refl
    where
      at : (o : Option Row) → find (refuses refusal b) (path_to_root rows through) ≡ o → (r : Row) × (refusing_row refusal rows through b ≡ Some r) × (refuses refusal b r ≡ true)
      at (Some r) found = (r, blamed_near rows through b r found, found_refuses b (path_to_root rows through) r found)
      at None none =
          let least = some_found b rows some in
          (least.0, blamed_least rows through b none ∙ least.1, found_refuses b rows least.0 least.1)

  -- there is no report exactly where no tag refuses at any byte
  pub report_clear : (access : Access) (size : ℕ) (rows : List Row) (through b : ℕ) → report_of refusal access size rows through ≡ None → b < size → list_any (refuses refusal b) rows ≡ false
  report_clear access size rows through b none within = at (refused_byte refusal size rows) refl (list_any (refuses refusal b) rows) refl
    where
      reports : (c : ℕ) (r : Row) (o : Option Refusal) → refusal r c ≡ o → refused_byte refusal size rows ≡ Some c → refusing_row refusal rows through c ≡ Some r → is_some (refusal r c) ≡ true → ⊥
      reports c r None is byte row refused = let clash : false ≡ true = sym (ap is_some is) ∙ refused in cc
      reports c r (Some why) is byte row refused = let clash : Some (report_on access through c r why) ≡ None = sym (report_is access size rows through c r why byte row is) ∙ none in cc

      told : (c : ℕ) → refused_byte refusal size rows ≡ Some c → ⊥
      told c byte =
          let some = found_range (λ d. list_any (refuses refusal d) rows) 0 size c byte in
          let row = blamed rows through c some.2 in
          reports c row.0 (refusal row.0 c) refl byte row.1 row.2

      at : (o : Option ℕ) → refused_byte refusal size rows ≡ o → (t : Bool) → list_any (refuses refusal b) rows ≡ t → list_any (refuses refusal b) rows ≡ false
      at (Some c) byte t is = absurd (told c byte)
      at None byte false is = is
      at None byte true is = absurd (missed (λ d. list_any (refuses refusal d) rows) 0 size b (omega arith) (omega (arith, within)) is byte)
